-- The edges of a drawing by bands of rows, and the rational points that they are asked about.
use Rattle.std.specs.Prelude.{◌≡◌, ℕ, ◌-◌, ◌/◌, ◌≤◌, Bool, ◌&&◌, nat_le, min, max, List, [], length, filter, slice_index_or, EachIndex, ℤ, pos, negsuc, ◌+ℤ◌, ◌-ℤ◌, ◌*ℤ◌, ◌≤ℤ◌, ◌<ℤ◌}
use Rattle.integer_algebra.specs.Ranges.{IsWithin}
use Rattle.plane_exact.specs.Plane.{GridPoint, RationalPoint}
use Rattle.plane_exact.specs.declared.point.Seg.{Seg}
use Rattle.engrave_model.specs.Drawing.{edges_of}

-- Edges by bands of rows: each band is so many rows high, and the first begins at the row `low`. What is below it belongs to
-- the first band too, and what is above the last band to that.
pub record Bands : Type 0 where
  pub low : ℤ
  pub height : ℕ
  pub edges : List (List Seg)

-- a number, and 0 in place of a negative one
abbrev pub or_zero : ℤ → ℕ
or_zero (pos n) = n
or_zero (negsuc n) = 0

-- the number of the band that the row y belongs to, where there are so many bands of this height from the row `low` on
abbrev pub band_number : (low : ℤ) (height count : ℕ) → ℤ → ℕ
band_number low height count y = min (or_zero (y -ℤ low) / height) (count - 1)

-- the number of the band that the row y belongs to
abbrev pub band_of : Bands → ℤ → ℕ
band_of bands y = band_number bands.low bands.height (length bands.edges) y

-- k is among the numbers from the one to the other, both among them, whichever is the less
abbrev pub is_among : ℕ → ℕ → ℕ → Bool
is_among one other k = nat_le (min one other) k && nat_le k (max one other)

-- the band is among those from that of the one end of the edge to that of the other
abbrev pub lies_in : Bands → ℕ → Seg → Bool
lies_in bands k e = is_among (band_of bands e.a.y) (band_of bands e.b.y) k

-- there is a band, and each has the edges that lie in it, in their order
pub record AreBandsOf (bands : Bands) (edges : List Seg) : Type 0 where
  pub some : 1 ≤ length bands.edges
  pub each : EachIndex bands.edges (λ k. slice_index_or bands.edges k [] ≡ filter (lies_in bands k) edges)

-- the bands are those of the drawing
abbrev pub AreRowsOf : Bands → List (List GridPoint) → Type 0
AreRowsOf rows loops = AreBandsOf rows (edges_of loops)

-- w isn't below the row, and is below the next
pub record IsOfRow (row : ℤ) (w : RationalPoint) : Type 0 where
  pub low : (w.over *ℤ row) ≤ℤ w.y
  pub high : w.y <ℤ (w.over *ℤ (row +ℤ pos 1))

-- z / over is from -40,960 to 40,959, as the coordinates widened by 8,192 are
abbrev pub IsNearGrid : ℤ → ℤ → Type 0
IsNearGrid z over = IsWithin (negsuc 40959 *ℤ over) (pos 40959 *ℤ over) z

-- the point (x / over, y / over) is near the grid, and its denominator is from 1 to 2^30
pub record IsRatio (x y over : ℤ) : Type 0 where
  pub positive : pos 1 ≤ℤ over
  pub small : over ≤ℤ pos 1073741824
  pub across : IsNearGrid x over
  pub up : IsNearGrid y over

-- w is (x / over, y / over)
pub record IsPointOf (x y over : ℤ) (w : RationalPoint) : Type 0 where
  pub same_x : w.x ≡ x
  pub same_y : w.y ≡ y
  pub same_over : w.over ≡ over
