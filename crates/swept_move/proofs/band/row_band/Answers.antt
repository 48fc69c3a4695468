-- Answers the goals of `row_band`.
use Rattle.std.proofs.Common.{inl, inr}
use Rattle.plane_exact.specs.Plane.{rational}
use Rattle.swept_move.proofs.Bands.{not_below}
use Rattle.swept_move.proofs.Cuts.{removes_nothing}
use Rattle.swept_move.proofs.band.row_band.Goals as goal

pub returns-then-not-is_deep : goal.returns-then-not-is_deep
returns-then-not-is_deep c = λ p removed.
    let mv = c.args.mv.now in
    let no = c.if-not-is_deep.true in
    removes_nothing c.args.bit.now mv.from mv.to (rational p)
    (not_below mv.from.h (λ deep. let yes = c.is_deep.ensures.1 (inl deep) in cc)) (not_below mv.to.h (λ deep. let yes = c.is_deep.ensures.1 (inr deep) in cc)) removed
