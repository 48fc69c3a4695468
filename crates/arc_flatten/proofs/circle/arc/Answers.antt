-- Answers the goals of `arc`.
use mir.Syntax.{w64}
use Rattle.std.proofs.Common.{◌≡◌, ℤ, subst}
use Rattle.std.specs.Prelude.{IfOk}
use Rattle.std.proofs.lemmas.Int.{to_z-of_z}
use Rattle.arc_flatten.specs.Arcs.{arc_points, pieces_of, stepped_points, width_of}
use Rattle.arc_flatten.proofs.circle.arc.Goals as goal

pub returns : goal.returns
unfolding arc_points
returns c =
    subst (λ (r : ℤ). IfOk c.stepped.result (λ points. points.items ≡ stepped_points c.args.c r c.args.from c.args.span (pieces_of c.args.span (width_of c.args.chord))))
    (to_z-of_z w64 c.args.r c.ranges.r) c.stepped.ensures
