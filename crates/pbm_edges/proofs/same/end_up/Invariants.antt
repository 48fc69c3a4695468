-- The invariant and the measure of the loop of `end_up`.
use Rattle.std.proofs.Common.{◌≡◌, ◌≤◌, ◌+◌, ◌*◌, ℕ}
use Rattle.pbm_edges.specs.Pixels.{is_black_in}
use Rattle.pbm_edges.proofs.same.end_up.Given as goal

abbrev pub invariant-loop-block : goal.invariant-loop-block
invariant-loop-block l = record {
  within : 8 * l.block + 1 ≤ l.y;
  left : (y : ℕ) → 8 * l.block + 1 ≤ y → y ≤ l.y → is_black_in l.image l.columns y ≡ is_black_in l.image l.columns l.y;
  right : (y : ℕ) → 8 * l.block + 1 ≤ y → y ≤ l.y → is_black_in l.image (l.columns + 1) y ≡ is_black_in l.image (l.columns + 1) l.y;
}

abbrev pub decreases-loop-block : goal.decreases-loop-block
decreases-loop-block l = l.block
