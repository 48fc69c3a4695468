-- Answers the goals of `Span::square_gap`.
use Rattle.std.proofs.Common.{◌-ℤ◌, ◌≤ℤ◌, ◌⊎◌, subst}
use Rattle.path_order.proofs.Gaps.{square_least, square_taken, stored_is}
use Rattle.path_order.proofs.span.Span.square_gap.Goals as goal

pub overflow_mul-result : goal.overflow_mul-result
overflow_mul-result c = (square_taken c.gap-gap.result c.gap-gap.ensures.range).fits

pub returns-clause-range : goal.returns-clause-range
returns-clause-range c = (square_taken c.gap-gap.result c.gap-gap.ensures.range).range

pub returns-clause-least : goal.returns-clause-least
returns-clause-least c = λ t within.
    let gap = c.gap-gap.result in
    let at = c.args.at in
    square_least gap t at c.gap-gap.ensures.range (subst (λ a. (gap ≤ℤ (t -ℤ a)) ⊎ (gap ≤ℤ (a -ℤ t))) (stored_is at c.requires) (c.gap-gap.ensures.least t within))
