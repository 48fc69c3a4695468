-- Answers the goals of `has_end_on`.
use Rattle.std.proofs.Common.{eqb-true, inr}
use Rattle.std.proofs.lemmas.Bool.{eq-eqb}
use Rattle.plane_exact.proofs.Ranges.{read_zero, zero_read}
use Rattle.plane_exact.proofs.Signs.{either}
use Rattle.plane_exact.proofs.meet.has_end_on.Goals as goal

pub returns-else-cross-eq0 : goal.returns-else-cross-eq0
returns-else-cross-eq0 c =
    let apart = c.if-cross-eq0.false in
    let range = c.cross-else-cross-eq0.ensures.range in
    let value = c.cross-else-cross-eq0.ensures.value in (
      (λ t. inr (read_zero _ _ range value (eqb-true _ _ t))),
      (λ ends. eq-eqb _ _ (zero_read _ _ range value (either ends (λ e. apart (zero_read _ _ c.cross.ensures.range c.cross.ensures.value e))))),
    )
