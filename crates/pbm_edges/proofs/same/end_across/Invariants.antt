-- The invariant and the measure of the loop of `end_across`.
use Rattle.std.proofs.Common.{◌≡◌, ◌≤◌, ◌<◌, ◌+◌, ◌*◌, ◌-◌, ℕ}
use Rattle.pbm_edges.specs.Boundary.{side_at}
use Rattle.pbm_edges.specs.declared.side.Line.TheVariants.{Across}
use Rattle.pbm_edges.proofs.same.end_across.Given as goal

abbrev pub invariant-loop-b : goal.invariant-loop-b
invariant-loop-b l = record {
  within : 8 * l.b ≤ l.image.width;
  same : (j : ℕ) → l.i ≤ j → j < 8 * l.b → side_at l.image (Across l.rows) j ≡ l.side;
}

abbrev pub decreases-loop-b : goal.decreases-loop-b
decreases-loop-b l = l.image.width + 8 - 8 * l.b
