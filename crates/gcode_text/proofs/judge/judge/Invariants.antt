-- The invariants of the loop of `judge`.
use Rattle.std.proofs.Common.{◌≡◌, length}
use Rattle.gcode_text.specs.Grammar.{empty_block, judge_words, line_words}
use Rattle.gcode_text.proofs.judge.judge.Given as goal

abbrev pub invariant-loop-word : goal.invariant-loop-word
invariant-loop-word l =
    judge_words l.units empty_block (line_words l.text) ≡ judge_words l.units l.block (line_words l.rest)

abbrev pub decreases-loop-word : goal.decreases-loop-word
decreases-loop-word l = length l.rest
