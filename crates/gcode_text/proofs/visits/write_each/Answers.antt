-- Answers the goals of `write_each`.
use Rattle.std.proofs.Common.{All, refl, subst}
use Rattle.std.proofs.lemmas.List.{get_or_read, take_all}
use Rattle.std.proofs.lemmas.List.Elements.{All-more, All-nil}
use Rattle.gcode_text.specs.Visits.{IsVisit}
use Rattle.gcode_text.proofs.Visited.{visit_more, visits_done}
use Rattle.gcode_text.proofs.visits.write_each.Goals as goal

pub loop-visit-init : goal.loop-visit-init
loop-visit-init c = record { text = refl; range = All-nil IsVisit }

pub loop-visit-preserved : goal.loop-visit-preserved
loop-visit-preserved c =
    let visits = c.args.visits.now in
    let i = c.loop-visit.visit-index in
    let visit = c.visit-item.result in
    let read = get_or_read visits i _ c.loop-visit-test.true c.visit-item.is visit in
    record {
      text = visit_more c.args.units c.loop-visit.before visit visits i c.loop-visit.code.items c.write_visit.new.code.items _ c.loop-visit-test.true read c.loop-visit.invariant.text c.in_ok-write_visit.ensures.text;
      range = All-more IsVisit visits i visit c.loop-visit-test.true c.loop-visit.invariant.range (subst IsVisit read c.write_visit.ensures.range);
    }

pub returns-clause-text : goal.returns-clause-text
returns-clause-text c = visits_done c.args.units c.loop-visit.before c.args.visits.now c.loop-visit.visit-index _ _ c.loop-visit-test.false c.loop-visit.invariant.text

pub returns-clause-range : goal.returns-clause-range
returns-clause-range c = subst (All IsVisit) (take_all c.loop-visit.visit-index c.args.visits.now c.loop-visit-test.false) c.loop-visit.invariant.range
