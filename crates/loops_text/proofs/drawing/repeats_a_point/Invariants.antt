-- The invariants of the loop of `repeats_a_point`.
use Rattle.std.proofs.Common.{◌≡◌, ◌∷◌, drop}
use Rattle.std.specs.List.{AllWithin, list_any}
use Rattle.plane_exact.specs.Plane.{IsOnGrid}
use Rattle.engrave_model.specs.Drawing.{edges_back_to, edges_of_loop}
use Rattle.plane_exact.specs.Same.{same_point}
use Rattle.loops_text.proofs.drawing.repeats_a_point.Given as goal

abbrev pub invariant-loop-point : goal.invariant-loop-point
invariant-loop-point l =
    (list_any (λ e. same_point e.a e.b) (edges_back_to l.first (l.before ∷ drop l.point-index l.rest)) ≡ list_any (λ e. same_point e.a e.b) (edges_of_loop l.points))
    × AllWithin (λ p. IsOnGrid p.x p.y) l.rest 0 l.point-index
