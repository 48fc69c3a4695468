-- The invariants of the loop of `read_loops`.
use Rattle.std.proofs.Common.{◌≡◌}
use Rattle.loops_text.specs.Grammar.{loops_of}
use Rattle.loops_text.proofs.Reading.{drawing_with}
use Rattle.loops_text.proofs.reader.read_loops.Given as goal

abbrev pub invariant-loop-line : goal.invariant-loop-line
invariant-loop-line l = drawing_with l.drawing l.line-iterator ≡ loops_of l.fn.bytes
