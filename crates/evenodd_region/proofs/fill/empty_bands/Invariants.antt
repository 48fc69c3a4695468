-- What the loop of `empty_bands` keeps.
use Rattle.std.proofs.Common.{◌≡◌, [], map, replicate, vec_len}
use Rattle.evenodd_region.proofs.fill.empty_bands.Given as goal

abbrev pub invariant-loop-room : goal.invariant-loop-room
invariant-loop-room l = (vec_len l.bands ≡ l.room-index) × (map (λ band. band.items) l.bands.items ≡ replicate l.room-index [])
