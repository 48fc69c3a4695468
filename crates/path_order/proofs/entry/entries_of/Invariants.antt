-- The invariant of the loop of `entries_of`.
use Rattle.std.proofs.Common.{◌≡◌, map}
use Rattle.std.specs.List.{range_with_len}
use Rattle.path_order.specs.Entries.{entry_of}
use Rattle.path_order.proofs.entry.entries_of.Given as goal

abbrev pub invariant-loop-number : goal.invariant-loop-number
invariant-loop-number l = l.entries.items ≡ map (entry_of l.chains) (range_with_len 0 l.number)
