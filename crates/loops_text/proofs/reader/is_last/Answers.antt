-- Answers the goals of `is_last`.
use Rattle.std.proofs.Common.{ap, sym, ◌∙◌}
use Rattle.loops_text.specs.Grammar.{is_last}
use Rattle.loops_text.proofs.Reading.{is_last_push}
use Rattle.loops_text.proofs.reader.is_last.Goals as goal

pub returns-in-Some : goal.returns-in-Some
returns-in-Some c =
    c.is_same_point.ensures.value ∙ sym (ap (λ points. is_last points c.args.point) c.in-Some.ensures.cases.0 ∙ is_last_push c.in-Some.field-0-1.now c.in-Some.last.now c.args.point)
