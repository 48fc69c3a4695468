-- The invariant of the loop of `is_steady`.
use Rattle.std.proofs.Common.{◌≡◌, ◌≤◌, ◌<◌, ◌+◌, ◌*◌, ℕ}
use Rattle.std.specs.Prelude.{slice_index}
use Rattle.pbm_edges.proofs.same.is_steady.Given as goal

abbrev pub invariant-loop-d : goal.invariant-loop-d
invariant-loop-d l = record {
  some : 1 ≤ l.d;
  few : l.d ≤ 9;
  same : (d : ℕ) → d < l.d → slice_index l.bytes ((8 * l.block + d) * l.width + l.b) ≡ slice_index l.bytes (8 * l.block * l.width + l.b);
}
