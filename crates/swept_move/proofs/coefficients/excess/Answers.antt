-- Answers the goals of `excess`.
use Rattle.std.proofs.Common.{ℕ, ℤ, pos, ◌-ℤ◌, ◌*ℤ◌, ap₂, ◌∙◌}
use Rattle.swept_move.proofs.Products.{excess_is, read_product}
use Rattle.swept_move.proofs.Widths.{range}
use Rattle.swept_move.proofs.coefficients.excess.Goals as goal

pub returns-clause-value : goal.returns-clause-value
returns-clause-value c =
    let scaled : ℕ → ℤ → ℤ = λ n z. (pos n *ℤ pos n) *ℤ z in
    (excess_is c.scaled.ensures.range c.scaled-2.ensures.range).value
    ∙ ap₂ (λ x y. x -ℤ y) (c.scaled.ensures.value ∙ ap₂ scaled c.sd.ensures.value (read_product c.requires.ways))
    (c.scaled-2.ensures.value ∙ ap₂ scaled c.sn.ensures.value (read_product c.requires.depths))

pub returns-clause-range : goal.returns-clause-range
returns-clause-range c = range (excess_is c.scaled.ensures.range c.scaled-2.ensures.range)
