-- The invariant of the loop of `ends_of`.
use Rattle.std.proofs.Common.{Some, map, take}
use Rattle.loop_join.specs.Index.{AreIndexed}
use Rattle.loop_join.proofs.unused.ends_of.Given as goal

abbrev pub invariant-loop-number : goal.invariant-loop-number
invariant-loop-number l = AreIndexed (map Some (take l.number l.segs)) l.ends
