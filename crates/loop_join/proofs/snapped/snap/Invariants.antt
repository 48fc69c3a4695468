-- The invariants of the loop of `snap`.
use Rattle.std.proofs.Common.{◌≡◌, ◌++◌, drop}
use Rattle.loop_join.specs.Snap.{snap_from, snap_of}
use Rattle.loop_join.proofs.snapped.snap.Given as goal

abbrev pub invariant-loop-s : goal.invariant-loop-s
invariant-loop-s l = record {
  rest : l.moved.items ++ snap_from l.tolerance l.kept.points (drop l.s-index l.segs) ≡ snap_of l.tolerance l.segs;
  same : l.kept.tolerance ≡ l.tolerance;
}
