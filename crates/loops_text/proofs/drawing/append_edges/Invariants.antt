-- The invariants of the loop of `append_edges`.
use Rattle.std.proofs.Common.{◌≡◌, ◌+◌, ◌≤◌, ◌∷◌, ◌++◌, drop, length, vec_capacity, vec_len}
use Rattle.engrave_model.specs.Drawing.{edges_back_to, edges_of_loop}
use Rattle.loops_text.proofs.drawing.append_edges.Given as goal

abbrev pub invariant-loop-point : goal.invariant-loop-point
invariant-loop-point l =
    (l.edges.items ++ edges_back_to l.first (l.before ∷ drop l.point-index l.rest) ≡ l.fn.edges.items ++ edges_of_loop l.points) × (vec_len l.edges + length l.rest + 1 ≤ vec_capacity l.edges + l.point-index)
