-- What the loop of `add` keeps.
use Rattle.std.proofs.Common.{◌≡◌, ◌&&◌, nat_le, nat_lt, map, vec_len}
use Rattle.evenodd_region.specs.Layouts.{IsAdded}
use Rattle.evenodd_region.proofs.fill.add.Given as goal

abbrev pub invariant-loop-band : goal.invariant-loop-band
invariant-loop-band l =
    (vec_len l.bands ≡ vec_len l.initial.bands)
    × IsAdded l.edge (λ k. nat_le l.first k && nat_lt k l.band) (map (λ band. band.items) l.initial.bands.items) (map (λ band. band.items) l.bands.items)
