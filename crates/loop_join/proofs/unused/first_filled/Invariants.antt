-- The invariant of the loop of `first_filled`.
use Rattle.std.proofs.Common.{◌≡◌, ◌<◌, ℕ, None, slice_index_or}
use Rattle.loop_join.proofs.unused.first_filled.Given as goal

abbrev pub invariant-loop-number : goal.invariant-loop-number
invariant-loop-number l = (j : ℕ) → j < l.number → slice_index_or l.slots j None ≡ None
