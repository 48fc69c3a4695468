-- The invariant of the loop of `open_point`.
use Rattle.std.proofs.Common.{◌≡◌, drop}
use Rattle.std.specs.List.{find}
use Rattle.loop_join.specs.Ends.{ends_of, is_odd, open_point}
use Rattle.loop_join.proofs.odd.open_point.Given as goal

abbrev pub invariant-loop-seg : goal.invariant-loop-seg
invariant-loop-seg l = find (is_odd l.segs) (ends_of (drop l.seg-index l.segs)) ≡ open_point l.segs
