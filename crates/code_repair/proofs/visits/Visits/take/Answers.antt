-- Answers the goals of `take`.
use Rattle.std.proofs.Common.{sym, true≢false, ◌∙◌}
use Rattle.engrave_model.specs.Drawing.{edges_of}
use Rattle.code_repair.proofs.Stepping.{hopped, hovered, stayed}
use Rattle.code_repair.proofs.visits.Visits.take.Goals as goal

pub returns-in_ok-stay-clause-step : goal.returns-in_ok-stay-clause-step
returns-in_ok-stay-clause-step c =
    let visits = c.args.self.now in
    let is = c.in_ok-stay.ensures in
    stayed (edges_of c.args.scene.now) c.args.bit.now visits.safe visits.up c.args.mv.now visits.spots.items visits.changed c.stay.new.self.spots.items c.stay.new.self.up c.stay.new.self.changed
    (c.is_clear-stays.ensures.0 c.if-stays.true) is.visited is.down is.unchanged

pub returns-in_ok-hop-clause-step : goal.returns-in_ok-hop-clause-step
returns-in_ok-hop-clause-step c =
    let visits = c.args.self.now in
    let is = c.in_ok-hop.ensures in
    hopped (edges_of c.args.scene.now) c.args.bit.now visits.safe visits.up c.args.mv.now visits.spots.items visits.changed c.hop.new.self.spots.items c.hop.new.self.up c.hop.new.self.changed
    (λ clear. true≢false (sym (c.is_clear-stays.ensures.1 clear) ∙ c.if-stays.false)) (c.can_land.ensures.0 c.if-can_land.true) is.visited is.down is.counted

pub returns-in_ok-hover-clause-step : goal.returns-in_ok-hover-clause-step
returns-in_ok-hover-clause-step c =
    let visits = c.args.self.now in
    let is = c.in_ok-hover.ensures in
    hovered (edges_of c.args.scene.now) c.args.bit.now visits.safe visits.up c.args.mv.now visits.spots.items visits.changed c.hover.new.self.spots.items c.hover.new.self.up c.hover.new.self.changed
    (λ clear. true≢false (sym (c.is_clear-stays.ensures.1 clear) ∙ c.if-stays.false)) (λ lands. true≢false (sym (c.can_land.ensures.1 lands) ∙ c.if-can_land.false)) is.visited is.up is.counted
