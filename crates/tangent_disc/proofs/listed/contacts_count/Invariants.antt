-- The invariants of the loop of `contacts_count`.
use Rattle.std.proofs.Common.{◌≡◌, ◌+◌, ◌*◌, ◌≤◌, sum_by, take}
use Rattle.tangent_disc.proofs.listed.contacts_count.Given as goal

abbrev pub invariant-loop-n : goal.invariant-loop-n
invariant-loop-n l = (l.count ≡ sum_by (λ n. n + 1) (take l.n-index l.pieces)) × (l.count ≤ 8193 * l.n-index)
