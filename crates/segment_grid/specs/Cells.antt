-- Cells along an axis: which one a range begins in, and which ones have the ranges that may reach a place.
use Rattle.std.specs.Prelude.{◌≡◌, ℕ, ◌+◌, ◌-◌, ◌/◌, List, take, drop, ℤ, pos, negsuc, ◌+ℤ◌, ◌≤ℤ◌}

-- the range from low to high begins in the cell c, where cells of this side begin at the origin, and is no longer than a cell
pub record IsIn (origin : ℤ) (side c : ℕ) (low high : ℤ) : Type 0 where
  pub offset : ℕ
  pub is : low ≡ origin +ℤ pos offset
  pub cell : c ≡ offset / side
  pub short : high ≤ℤ (low +ℤ pos side)

-- the first cell whose ranges may reach a place so far past the origin: the one before the place's own
abbrev pub first_from : ℤ → ℕ → ℕ
first_from (pos past) side = past / side - 1
first_from (negsuc n) side = 0

-- the cell behind the last whose ranges may begin at or before a place so far past the origin
abbrev pub end_from : ℤ → ℕ → ℕ
end_from (pos past) side = past / side + 1
end_from (negsuc n) side = 0

-- the elements from the number first to the one before end
abbrev pub cut : {A : Type 0} → (first end : ℕ) → List A → List A
cut first end xs = drop first (take end xs)
