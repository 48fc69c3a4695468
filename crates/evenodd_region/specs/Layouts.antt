-- How the bands are filled: the layout as definitions see it, and one edge more.
use Rattle.std.specs.Prelude.{◌≡◌, ℕ, Bool, if◌then◌else◌, List, [], ◌∷◌, ◌++◌, length, slice_index_or}
use Rattle.plane_exact.specs.declared.point.Seg.{Seg}
use Rattle.evenodd_region.specs.Lookup.{Bands}
use Rattle.evenodd_region.specs.declared.bands.Layout.{Layout}

-- the bands of this layout with these edges
abbrev pub banded : Layout → List (List Seg) → Bands
banded layout edges = record { low = layout.low; height = layout.height; edges = edges }

-- the edge came to the end of those bands that pass the test, and the others are as they were
pub record IsAdded (e : Seg) (test : ℕ → Bool) (old new : List (List Seg)) : Type 0 where
  pub count : length new ≡ length old
  pub each : (k : ℕ) → slice_index_or new k [] ≡ slice_index_or old k [] ++ (if test k then e ∷ [] else [])
