-- Answers the goals of `way_from`.
use Rattle.std.proofs.Common.{lit<, ap, pos, ◌-ℤ◌, ◌*ℤ◌, ◌∙◌}
use Rattle.plane_exact.specs.Heights.{GridPlace}
use Rattle.swept_move.proofs.Widths.{range}
use Rattle.swept_move.proofs.Ways.{away}
use Rattle.swept_move.proofs.way.way_from.Goals as goal

pub invariant_of-result : goal.invariant_of-result
invariant_of-result c =
    let on = c.spot.invariant in
    record {
      most = lit< tt;
      across = range (away on.across c.x.ensures.range.across c.x.ensures.value);
      up = range (away on.up c.y.ensures.range.up c.y.ensures.value);
    }

pub returns-clause-across : goal.returns-clause-across
returns-clause-across c = (away c.spot.invariant.across c.x.ensures.range.across c.x.ensures.value).value ∙ ap (λ (p : GridPlace). p.at.x -ℤ pos 10 *ℤ c.args.point.x) c.spot.view_is

pub returns-clause-up : goal.returns-clause-up
returns-clause-up c = (away c.spot.invariant.up c.y.ensures.range.up c.y.ensures.value).value ∙ ap (λ (p : GridPlace). p.at.y -ℤ pos 10 *ℤ c.args.point.y) c.spot.view_is
