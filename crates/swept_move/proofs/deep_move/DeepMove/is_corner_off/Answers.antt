-- Answers the goals of `DeepMove::is_corner_off`.
use mir.Syntax.{w64}
use Rattle.std.proofs.Common.{lit<}
use Rattle.swept_move.specs.Clear.{tenfold}
use Rattle.swept_move.proofs.Deepest.{first_there, first_value, last_there, last_value, margin_is, tested_there}
use Rattle.swept_move.proofs.Widths.{answer}
use Rattle.swept_move.proofs.deep_move.DeepMove.is_corner_off.Goals as goal

pub is_not_negative_in-requires : goal.is_not_negative_in-requires
is_not_negative_in-requires c =
    let mv = c.args.self.now in
    let bit = c.args.bit.now in
    let u = tenfold c.args.corner in
    let way = c.way_from-from_corner.ensures in
    let is = margin_is bit c.clearance-clearance.ensures way.across way.up mv.across mv.up
    (answer w64 c.depth.ensures.range c.depth.ensures.value (lit< tt)) (answer w64 c.descent.ensures.range c.descent.ensures.value (lit< tt)) in
    record {
      first = first_there _ _ _ _ mv.moments is (first_value bit mv.from mv.to u c.requires);
      last = last_there _ _ _ _ mv.moments is (last_value bit mv.from mv.to u c.requires);
    }

pub returns : goal.returns
returns c =
    let mv = c.args.self.now in
    let way = c.way_from-from_corner.ensures in
    let is = margin_is c.args.bit.now c.clearance-clearance.ensures way.across way.up mv.across mv.up
    (answer w64 c.depth.ensures.range c.depth.ensures.value (lit< tt)) (answer w64 c.descent.ensures.range c.descent.ensures.value (lit< tt)) in
    tested_there _ _ _ _ mv.moments is c.is_not_negative_in.ensures
