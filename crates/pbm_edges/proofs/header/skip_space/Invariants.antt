-- The invariant and the measure of the loop of `skip_space`.
use Rattle.std.proofs.Common.{◌≡◌, false, length}
use Rattle.pbm_edges.specs.Header.{behind_space}
use Rattle.pbm_edges.proofs.header.skip_space.Given as goal

abbrev pub invariant-loop-left : goal.invariant-loop-left
invariant-loop-left l = behind_space l.is_comment l.left ≡ behind_space false l.text

abbrev pub decreases-loop-left : goal.decreases-loop-left
decreases-loop-left l = length l.left
