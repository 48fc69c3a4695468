-- What the loop of `lines` keeps.
use Rattle.flat_bit.specs.Left.{AreLevel}
use Rattle.plan_tests.proofs.floors_left.lines.Given as goal

abbrev pub invariant-loop-two : goal.invariant-loop-two
invariant-loop-two l = AreLevel l.depth l.chains.items
