-- Points of the plane: grid points, rational points, and the points of a segment.
use Rattle.std.specs.Prelude.{◌≡◌, Bool, ◌&&◌, ℤ, pos, negsuc, int_le, ◌+ℤ◌, ◌-ℤ◌, ◌*ℤ◌, ◌≤ℤ◌}
use Rattle.integer_algebra.specs.Ranges.{IsWithin}

-- a point of the grid, in grid units
pub record GridPoint : Type 0 where
  pub x : ℤ
  pub y : ℤ

-- from -32768 to 32767
abbrev pub IsCoordinate : ℤ → Type 0
IsCoordinate z = IsWithin (negsuc 32767) (pos 32767) z

-- the same as a test
abbrev pub is_coordinate : ℤ → Bool
is_coordinate z = int_le (negsuc 32767) z && int_le z (pos 32767)

-- both numbers are coordinates
pub record IsOnGrid (x y : ℤ) : Type 0 where
  pub across : IsCoordinate x
  pub up : IsCoordinate y

-- the point (x / over, y / over)
pub record RationalPoint : Type 0 where
  pub x : ℤ
  pub y : ℤ
  pub over : ℤ
  pub positive : pos 1 ≤ℤ over

-- a grid point as a rational point
abbrev pub rational : GridPoint → RationalPoint
rational p = record { x = p.x; y = p.y; over = pos 1; positive = record { le = tt } }

-- the fraction k / n of a way, from 0, its start, to 1, its end
pub record Fraction : Type 0 where
  pub k : ℤ
  pub n : ℤ
  pub start : pos 0 ≤ℤ k
  pub finish : k ≤ℤ n
  pub some : pos 1 ≤ℤ n

-- u is v + (k / n) (w - v) for some fraction k / n, both sides multiplied by the denominators: a rational point of the
-- straight path from v to w, its ends among them
pub record IsOnPath (v w u : RationalPoint) : Type 0 where
  pub at : Fraction
  pub across : (at.n *ℤ (v.over *ℤ w.over)) *ℤ u.x ≡ u.over *ℤ ((at.n -ℤ at.k) *ℤ (w.over *ℤ v.x) +ℤ at.k *ℤ (v.over *ℤ w.x))
  pub up : (at.n *ℤ (v.over *ℤ w.over)) *ℤ u.y ≡ u.over *ℤ ((at.n -ℤ at.k) *ℤ (w.over *ℤ v.y) +ℤ at.k *ℤ (v.over *ℤ w.y))

-- w is a + (k / n) (b - a) for some fraction k / n: a point of the segment from a to b, its ends among them
pub record IsBetween (a b : GridPoint) (w : RationalPoint) : Type 0 where
  pub at : Fraction
  pub across : at.n *ℤ w.x ≡ w.over *ℤ (at.n *ℤ a.x +ℤ at.k *ℤ (b.x -ℤ a.x))
  pub up : at.n *ℤ w.y ≡ w.over *ℤ (at.n *ℤ a.y +ℤ at.k *ℤ (b.y -ℤ a.y))
