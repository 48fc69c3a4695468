-- What the loop of `Layout::bands` keeps.
use Rattle.std.proofs.Common.{◌≡◌, map, take, vec_len}
use Rattle.evenodd_region.specs.Layouts.{banded}
use Rattle.evenodd_region.specs.Lookup.{AreBandsOf}
use Rattle.evenodd_region.proofs.bands.Layout.bands.Given as goal

abbrev pub invariant-loop-e : goal.invariant-loop-e
invariant-loop-e l =
    (vec_len l.bands ≡ l.self.count)
    × AreBandsOf (banded l.self (map (λ band. band.items) l.bands.items)) (take l.e-index l.edges)
