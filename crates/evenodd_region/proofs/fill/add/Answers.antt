-- Answers the goals of `add`.
use Rattle.std.proofs.Common.{arith}
use Rattle.evenodd_region.proofs.Filling.{pushed_next}
use Rattle.evenodd_region.proofs.fill.add.Goals as goal

pub loop-band-preserved : goal.loop-band-preserved
loop-band-preserved c = (
  omega arith,
  pushed_next (λ band. band.items) _ c.args.first c.loop-band.band _ c.loop-band.bands.items _ _ (omega arith) (omega (arith, c.loop-band.bands.ok.0))
      c.index_mut.ensures.value c.in_ok-push.ensures.items c.loop-band.invariant.1,
)
