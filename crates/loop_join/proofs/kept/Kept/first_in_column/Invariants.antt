-- The invariants of the loop of `Kept::first_in_column`.
use Rattle.loop_join.proofs.Leasts.{IsLeastSoFar}
use Rattle.loop_join.proofs.kept.Kept.first_in_column.Given as goal

abbrev pub invariant-loop-number : goal.invariant-loop-number
invariant-loop-number l = IsLeastSoFar l.self.tolerance l.self.points l.p l.fn.least l.first l.initial.number-iterator l.number-iterator
