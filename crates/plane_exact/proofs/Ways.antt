-- The products of two ways, as the code makes them.
use mir.Syntax.{w64, w128}
use Rattle.std.proofs.Common.{◌≡◌, ℕ, ◌*◌, ◌<◌, ◌≤◌, ◌^◌, ℤ, pos, ◌+ℤ◌, ◌-ℤ◌, ◌*ℤ◌, FitsSigned, arith, refl, ap₂, mul-le-mul, ◌∙◌}
use Rattle.std.proofs.lemmas.Int.{ints}
use Rattle.integer_algebra.specs.Ranges.{IsUpTo, IsWithin}
use Rattle.integer_algebra.proofs.Order.{product_up_to, square_nonneg}
use Rattle.plane_exact.specs.Distance.{square}
use Rattle.plane_exact.specs.declared.way.Way.{Way}
use Rattle.plane_exact.proofs.Stored.{IsStoredUpTo, difference_of, difference_stored, fits_up_to, product_stored, read_is, stored, sum_of, sum_stored, wide, widest}

-- ---- in 64 bits

module _ (m n : ℕ) (small : 2 * (m * n) < 2 ^ 63) (u : Way m) (v : Way n) where
  pub times_is : (a b : ℤ) → IsUpTo (pos m) a → IsUpTo (pos n) b → FitsSigned w64 (wide a *ℤ wide b)
  times_is a b on_a on_b = (product_stored w64 m n u.most v.most small a b on_a on_b).fits

  pub cross_is : IsStoredUpTo w64 (pos (2 * (m * n))) (u.x *ℤ v.y -ℤ u.y *ℤ v.x) (wide (wide u.x *ℤ wide v.y) -ℤ wide (wide u.y *ℤ wide v.x))
  cross_is = difference_stored w64 m n u.most v.most small u.x v.y u.y v.x u.across v.up u.up v.across

  pub dot_is : IsStoredUpTo w64 (pos (2 * (m * n))) (u.x *ℤ v.x +ℤ u.y *ℤ v.y) (wide (wide u.x *ℤ wide v.x) +ℤ wide (wide u.y *ℤ wide v.y))
  dot_is = sum_stored w64 m n u.most v.most small u.x v.x u.y v.y u.across v.across u.up v.up

-- the square of a length
pub length_within : (most a b z : ℤ) → z ≡ square a +ℤ square b → IsUpTo most z → IsWithin (pos 0) most z
length_within most a b z is range =
    let p = square_nonneg a in
    let q = square_nonneg b in
    record { low = omega (arith, ints); high = range.high }

-- ---- in 128 bits, where the code has r and s for the products

module _ (m n : ℕ) (u : Way m) (v : Way n) where
  wide_small : 2 * (m * n) < 2 ^ 127
  wide_small =
      let m_most : m ≤ 9223372036854775807 = let l = u.most in omega arith in
      let n_most : n ≤ 9223372036854775807 = let l = v.most in omega arith in
      let p = mul-le-mul m_most n_most in omega arith

  wide_product : (a b r : ℤ) → IsUpTo (pos m) a → IsUpTo (pos n) b → r ≡ wide a *ℤ wide b → widest r ≡ a *ℤ b
  wide_product a b r on_a on_b is =
      let e : r ≡ a *ℤ b =
      is ∙ ap₂ (λ y z. y *ℤ z) (read_is w64 a a (fits_up_to w64 m a u.most on_a) refl) (read_is w64 b b (fits_up_to w64 n b v.most on_b) refl)
      in
      let small = wide_small in
      (stored w128 _ _ e (fits_up_to w128 (m * n) (a *ℤ b) (omega arith) (product_up_to (pos m) (pos n) a b on_a on_b))).value

  module _ (r s : ℤ) where
    pub wide_cross_is : r ≡ wide u.x *ℤ wide v.y → s ≡ wide u.y *ℤ wide v.x → IsStoredUpTo w128 (pos (2 * (m * n))) (u.x *ℤ v.y -ℤ u.y *ℤ v.x) (widest r -ℤ widest s)
    wide_cross_is r_is s_is =
        let m_small : m < 2 ^ 127 = let l = u.most in omega arith in
        let n_small : n < 2 ^ 127 = let l = v.most in omega arith in
        difference_of w128 m n m_small n_small wide_small u.x v.y u.y v.x u.across v.up u.up v.across _ _
        (wide_product u.x v.y r u.across v.up r_is) (wide_product u.y v.x s u.up v.across s_is)

    pub wide_dot_is : r ≡ wide u.x *ℤ wide v.x → s ≡ wide u.y *ℤ wide v.y → IsStoredUpTo w128 (pos (2 * (m * n))) (u.x *ℤ v.x +ℤ u.y *ℤ v.y) (widest r +ℤ widest s)
    wide_dot_is r_is s_is =
        let m_small : m < 2 ^ 127 = let l = u.most in omega arith in
        let n_small : n < 2 ^ 127 = let l = v.most in omega arith in
        sum_of w128 m n m_small n_small wide_small u.x v.x u.y v.y u.across v.across u.up v.up _ _
        (wide_product u.x v.x r u.across v.across r_is) (wide_product u.y v.y s u.up v.up s_is)
