-- Answers the goals of `Layout::bands`.
use Rattle.std.proofs.Common.{arith, map, subst, ◌∙◌}
use Rattle.std.proofs.lemmas.List.{length-map, take_all}
use Rattle.evenodd_region.specs.Layouts.{banded}
use Rattle.evenodd_region.specs.Lookup.{AreBandsOf}
use Rattle.evenodd_region.proofs.Filling.{more_filled}
use Rattle.evenodd_region.proofs.bands.Layout.bands.Goals as goal

pub loop-e-preserved : goal.loop-e-preserved
loop-e-preserved c = (
  c.in_ok-add.ensures.count ∙ c.loop-e.invariant.0,
  more_filled c.args.self c.args.edges.now _ _ c.loop-e.e-index c.e-item.result (omega arith) c.e-item.is
      (simp length-map (omega (arith, c.loop-e.bands.ok.0))) (rw (c.span-first.ensures.first, c.span-first.ensures.end) at c.in_ok-add.ensures.added) c.loop-e.invariant.1,
)

pub returns-clause-each : goal.returns-clause-each
returns-clause-each c =
    let all = take_all c.loop-e.e-index c.args.edges.now (omega arith) in
    subst (AreBandsOf (banded c.args.self (map (λ band. band.items) c.loop-e.bands.items))) all c.loop-e.invariant.1
