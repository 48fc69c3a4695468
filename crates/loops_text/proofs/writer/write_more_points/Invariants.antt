-- The invariants of the loop of `write_more_points`.
use Rattle.std.proofs.Common.{◌≡◌, ◌++◌, take}
use Rattle.loops_text.specs.Writing.{more_points}
use Rattle.loops_text.proofs.writer.write_more_points.Given as goal

abbrev pub invariant-loop-point : goal.invariant-loop-point
invariant-loop-point l = l.text.items ≡ l.fn.text.items ++ more_points (take l.point-index l.points)
