-- The invariants of the loop of `read_by_bytes`.
use Rattle.std.proofs.Common.{◌≡◌}
use Rattle.text_tests.proofs.codes.read_by_bytes.Given as goal

abbrev pub invariant-loop-i : goal.invariant-loop-i
invariant-loop-i g l = l.reader.state.fed ≡ l.i
