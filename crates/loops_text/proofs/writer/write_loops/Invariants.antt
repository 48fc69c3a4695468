-- The invariants of the loop of `write_loops`.
use Rattle.std.proofs.Common.{◌≡◌, take}
use Rattle.loops_text.specs.Writing.{written_loops}
use Rattle.loops_text.proofs.writer.write_loops.Given as goal

abbrev pub invariant-loop-i : goal.invariant-loop-i
invariant-loop-i l = l.text.items ≡ written_loops (take l.i l.d)
