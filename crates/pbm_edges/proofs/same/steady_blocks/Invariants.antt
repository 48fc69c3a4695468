-- The invariant of the loop of `steady_blocks`.
use Rattle.std.proofs.Common.{◌≡◌, length}
use Rattle.pbm_edges.specs.Same.{AreSteady}
use Rattle.pbm_edges.proofs.same.steady_blocks.Given as goal

abbrev pub invariant-loop-place : goal.invariant-loop-place
invariant-loop-place l = record {
  count : length l.flags.items ≡ l.place;
  steady : AreSteady l.image l.flags.items;
}
