-- The invariants of the loop of `last_removed`.
use Rattle.std.proofs.Common.{◌-◌}
use Rattle.swept_move.specs.Search.{RemovesBehind}
use Rattle.swept_move.proofs.Searches.{IsReaching}
use Rattle.swept_move.proofs.row.last_removed.Given as goal

abbrev pub invariant-loop-low : goal.invariant-loop-low
invariant-loop-low l = IsReaching (RemovesBehind l.bit l.mv l.row.start) l.row.last l.low l.high

abbrev pub decreases-loop-low : goal.decreases-loop-low
decreases-loop-low l = l.high - l.low
