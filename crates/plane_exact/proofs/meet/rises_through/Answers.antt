-- Answers the goals of `rises_through`.
use Rattle.std.proofs.Common.{refl}
use Rattle.plane_exact.proofs.Ranges.{not_above}
use Rattle.plane_exact.proofs.Signs.{held}
use Rattle.plane_exact.proofs.Wide.{tested}
use Rattle.plane_exact.proofs.meet.rises_through.Goals as goal

pub returns-then-cross-le0 : goal.returns-then-cross-le0
returns-then-cross-le0 c =
    let low = not_above _ _ c.cross.ensures.range c.cross.ensures.value c.if-cross-le0.true in
    let test = tested _ _ _ _ refl (held _ _ c.cross-then-cross-le0.ensures.range c.cross-then-cross-le0.ensures.value) in
    ((λ t. (low, test.0 t)), (λ h. test.1 h.1))
