-- Answers the goals of `plain_block`.
use Rattle.std.proofs.Common.{◌≡◌, false, length, rules, ◌∙◌}
use Rattle.gcode_text.specs.Grammar.{outside_comments}
use Rattle.gcode_text.proofs.OnePass.{judge_text-end, words_block-judged}
use Rattle.gcode_text.proofs.plain.plain_block.Goals as goal

pub returns : goal.returns
returns c =
    let none : length c.loop-rest.rest.now ≡ 0 = search rules in
    words_block-judged c.args.units c.loop-rest.block (outside_comments false c.args.line.now) (c.loop-rest.invariant ∙ judge_text-end c.args.units c.loop-rest.block c.loop-rest.rest.now none)
