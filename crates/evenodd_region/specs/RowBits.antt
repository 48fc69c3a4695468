-- Rows of grid points as the bits of words.
use Rattle.std.specs.Prelude.{◌≡◌, ◌↔◌, ℕ, ◌<◌, ◌+◌, ◌*◌, ◌/◌, ◌%◌, Bool, ◌&&◌, if◌then◌else◌, nat_le, nat_lt, List, slice_index, ℤ, pos, ◌+ℤ◌}
use Rattle.std.specs.Int.{bit_at}
use Rattle.plane_exact.specs.Plane.{GridPoint, rational}
use Rattle.plane_exact.specs.declared.point.Seg.{Seg}
use Rattle.engrave_model.specs.Inside.{IsInside}

-- the bit i of words of 64 bits: that of the word i / 64 at i % 64, the lowest at 0
abbrev pub bit_in : List ℕ → ℕ → ℕ
bit_in words i = bit_at (slice_index words (i / 64)) (i % 64)

-- the bit i of the words is 1
abbrev pub IsSetIn : List ℕ → ℕ → Type 0
IsSetIn words i = bit_in words i ≡ 1

-- the point i of the row y that begins at x0 and goes to the right at this pitch
abbrev pub point_of_row : (y x0 : ℤ) (pitch i : ℕ) → GridPoint
point_of_row y x0 pitch i = record { x = x0 +ℤ pos (i * pitch); y = y }

-- the words are the row of so many points: the bits that are 1 are those of its points that are inside
pub record IsRowOf (edges : List Seg) (y x0 : ℤ) (pitch count : ℕ) (words : List ℕ) : Type 0 where
  pub inside : (i : ℕ) → IsSetIn words i ↔ ((i < count) × IsInside edges (rational (point_of_row y x0 pitch i)))

-- 1 where a test holds
abbrev pub one_where : Bool → ℕ
one_where test = if test then 1 else 0

-- the mask of the word of this number has the bits that are below `end` among all words' bits
pub record IsBelow (end word mask : ℕ) : Type 0 where
  pub bits : (k : ℕ) → k < 64 → bit_at mask k ≡ one_where (nat_lt (64 * word + k) end)

-- the bits below `end` are turned into the other, and no others
pub record IsFlipped (end : ℕ) (old new : List ℕ) : Type 0 where
  pub bits : (i : ℕ) → bit_in new i ≡ (bit_in old i + one_where (nat_lt i end)) % 2

-- the bits that pass the test are 0, and the others are as they were
pub record IsCleared (test : ℕ → Bool) (old new : List ℕ) : Type 0 where
  pub bits : (i : ℕ) → bit_in new i ≡ (if test i then 0 else bit_in old i)

-- i is from `from` to below `end`
abbrev pub is_between : (from end i : ℕ) → Bool
is_between from end i = nat_le from i && nat_lt i end
