-- Places of a line, counted from one of them.
use Rattle.std.proofs.Common.{◌≡◌, ℕ, ◌<◌, ℤ, pos, negsuc, ◌+ℤ◌, ◌-ℤ◌, ◌<ℤ◌, ◌≤ℤ◌, arith, refl}
use Rattle.std.proofs.lemmas.Int.{ints}

-- t is so many places behind x
pub record IsBehind (x t : ℤ) : Type 0 where
  pub steps : ℕ
  pub is : t ≡ x +ℤ pos steps

pub behind : (x t : ℤ) → x ≤ℤ t → IsBehind x t
behind x t from = by_way (t -ℤ x) refl
  where
    by_way : (way : ℤ) → t -ℤ x ≡ way → IsBehind x t
    by_way (pos n) is = record { steps = n; is = omega (arith, ints) }
    by_way (negsuc n) is = absurd (omega (arith, ints))

-- how many places there are from one to another; none where that is before it
abbrev pub places_of : ℤ → ℕ
places_of (pos n) = n
places_of (negsuc n) = 0

abbrev pub places_between : (x end : ℤ) → ℕ
places_between x end = places_of (end -ℤ x)

pub fewer : (x y end : ℤ) → x <ℤ y → x <ℤ end → places_between y end < places_between x end
fewer x y end less before = by_ways (end -ℤ y) refl (end -ℤ x) refl
  where
    by_ways : (left : ℤ) → end -ℤ y ≡ left → (more : ℤ) → end -ℤ x ≡ more → places_of left < places_of more
    by_ways (pos m) here (pos n) there = omega (arith, ints)
    by_ways (negsuc m) here (pos n) there = omega (arith, ints)
    by_ways (pos m) here (negsuc n) there = absurd (omega (arith, ints))
    by_ways (negsuc m) here (negsuc n) there = absurd (omega (arith, ints))
