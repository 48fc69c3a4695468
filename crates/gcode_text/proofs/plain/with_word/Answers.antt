-- Answers the goals of `with_word`.
use Rattle.std.proofs.Common.{sym, ◌∙◌}
use Rattle.gcode_text.proofs.OnePass.{judge_text-step}
use Rattle.gcode_text.proofs.plain.with_word.Goals as goal

pub returns-clause-judged : goal.returns-clause-judged
returns-clause-judged c =
    judge_text-step c.args.units c.args.block c.in-Ok.next c.args.text.now c.in_ok-number.len c.in_ok-number.number c.without_space-rest.result.now c.in-len1-up.len_at_least (sym c.is_letter.ensures ∙ c.if-not-is_letter.false) c.in_ok-number.ensures.value c.in_ok-number.ensures.bytes c.without_space-rest.ensures.same (sym c.starts_word.ensures ∙ c.if-not-starts_word.false) (sym c.judged_number.ensures ∙ c.in-Ok.is)
