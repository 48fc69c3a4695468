-- The invariants of the loop of `plain_block`.
use Rattle.std.proofs.Common.{◌≡◌, false, length}
use Rattle.gcode_text.specs.Grammar.{empty_block, outside_comments}
use Rattle.gcode_text.specs.Plain.{judge_text}
use Rattle.gcode_text.proofs.plain.plain_block.Given as goal

abbrev pub invariant-loop-rest : goal.invariant-loop-rest
invariant-loop-rest l =
    judge_text l.units empty_block (outside_comments false l.line) ≡ judge_text l.units l.block (outside_comments false l.rest)

abbrev pub decreases-loop-rest : goal.decreases-loop-rest
decreases-loop-rest l = length l.rest
