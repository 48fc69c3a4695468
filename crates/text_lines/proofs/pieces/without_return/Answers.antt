-- Answers the goals of `without_return`.
use Rattle.std.proofs.Common.{ap, sym, ◌∙◌}
use Rattle.text_lines.specs.Pieces.{without_return}
use Rattle.text_lines.proofs.Cuts.{without_return_push, without_return_other}
use Rattle.text_lines.proofs.pieces.without_return.Goals as goal

pub returns-else-last-eq13-clause-value : goal.returns-else-last-eq13-clause-value
returns-else-last-eq13-clause-value c =
    let whole = c.in-Some.ensures.cases.0 in
    whole ∙ sym (ap without_return whole ∙ without_return_other c.in-Some.before.now c.in-Some.last.now c.if-last-eq13.false)

pub returns-then-last-eq13-clause-value : goal.returns-then-last-eq13-clause-value
returns-then-last-eq13-clause-value c =
    let whole = c.in-Some.ensures.cases.0 in
    sym (ap without_return (rw c.if-last-eq13.true at whole) ∙ without_return_push c.in-Some.before.now)
