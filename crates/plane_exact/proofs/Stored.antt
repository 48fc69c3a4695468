-- Whole numbers that the code stores in so many bits: what is read again, and that they hold a sum of two products.
use mir.Syntax.{Width, w32, w64, w128}
use mir.Val.{hbits}
use Rattle.std.proofs.Common.{◌≡◌, ℕ, ◌*◌, ◌<◌, ◌^◌, ℤ, pos, negsuc, ◌+ℤ◌, ◌-ℤ◌, ◌*ℤ◌, FitsSigned, to_z, of_z, arith, refl, ap₂, sym, subst, ◌∙◌}
use Rattle.std.proofs.lemmas.Int.{ints, to_z-of_z}
use Rattle.integer_algebra.specs.Ranges.{IsUpTo}
use Rattle.integer_algebra.proofs.Order.{product_up_to, sum_up_to, difference_up_to}

-- a number that went to so many bits and is read again
abbrev pub read : Width → ℤ → ℤ
read w z = to_z w (of_z w z)

abbrev pub narrow : ℤ → ℤ
narrow z = read w32 z

abbrev pub wide : ℤ → ℤ
wide z = read w64 z

abbrev pub widest : ℤ → ℤ
widest z = read w128 z

pub read_is : (w : Width) (r a : ℤ) → FitsSigned w r → r ≡ a → read w r ≡ a
read_is w r a fits e = to_z-of_z w r fits ∙ e

pub fits_up_to : (w : Width) (most : ℕ) (z : ℤ) → most < 2 ^ hbits w → IsUpTo (pos most) z → FitsSigned w z
fits_up_to w most (pos n) small range = let high = range.high in record { sfits = omega (arith, ints) }
fits_up_to w most (negsuc n) small range = let low = range.low in record { sfits = omega (arith, ints) }

-- the code's z, which is t
pub record IsStored (w : Width) (t z : ℤ) : Type 0 where
  pub fits : FitsSigned w z
  pub value : read w z ≡ t

pub stored : (w : Width) (t z : ℤ) → z ≡ t → FitsSigned w t → IsStored w t z
stored w t z is fits = let same : FitsSigned w z = subst (FitsSigned w) (sym is) fits in record { fits = same; value = read_is w z t same is }

-- the same, where t is at most so great
pub record IsStoredUpTo (w : Width) (most t z : ℤ) : Type 0 where
  pub fits : FitsSigned w z
  pub value : read w z ≡ t
  pub range : IsUpTo most (read w z)

pub stored_up_to : (w : Width) (most : ℕ) (t z : ℤ) → z ≡ t → IsUpTo (pos most) t → most < 2 ^ hbits w → IsStoredUpTo w (pos most) t z
stored_up_to w most t z is range small =
    let held = stored w t z is (fits_up_to w most t small range) in
    record { fits = held.fits; value = held.value; range = subst (IsUpTo (pos most)) (sym held.value) range }

-- ---- products of two numbers, the first at most m and the second at most n in size, and sums of two products

module _ (w : Width) (m n : ℕ) (m_small : m < 2 ^ hbits w) (n_small : n < 2 ^ hbits w) (small : 2 * (m * n) < 2 ^ hbits w) where
  pub product_stored : (a b : ℤ) → IsUpTo (pos m) a → IsUpTo (pos n) b → IsStored w (a *ℤ b) (read w a *ℤ read w b)
  product_stored a b on_a on_b =
      let is : read w a *ℤ read w b ≡ a *ℤ b =
      ap₂ (λ y z. y *ℤ z) (read_is w a a (fits_up_to w m a m_small on_a) refl) (read_is w b b (fits_up_to w n b n_small on_b) refl)
      in
      stored w _ _ is (fits_up_to w (m * n) (a *ℤ b) (omega arith) (product_up_to (pos m) (pos n) a b on_a on_b))

  sum_is : (t z : ℤ) → z ≡ t → IsUpTo (pos (m * n) +ℤ pos (m * n)) t → IsStoredUpTo w (pos (2 * (m * n))) t z
  sum_is t z is range =
      let low = range.low in
      let high = range.high in
      stored_up_to w (2 * (m * n)) t z is (record { low = omega (arith, ints); high = omega (arith, ints) }) small

  module _ (a b c d : ℤ) (on_a : IsUpTo (pos m) a) (on_b : IsUpTo (pos n) b) (on_c : IsUpTo (pos m) c) (on_d : IsUpTo (pos n) d) where
    -- by what the code has for the products
    pub sum_of : (x y : ℤ) → x ≡ a *ℤ b → y ≡ c *ℤ d → IsStoredUpTo w (pos (2 * (m * n))) (a *ℤ b +ℤ c *ℤ d) (x +ℤ y)
    sum_of x y x_is y_is = sum_is _ _ (ap₂ (λ y z. y +ℤ z) x_is y_is) (sum_up_to _ _ _ _ (product_up_to _ _ a b on_a on_b) (product_up_to _ _ c d on_c on_d))

    pub difference_of : (x y : ℤ) → x ≡ a *ℤ b → y ≡ c *ℤ d → IsStoredUpTo w (pos (2 * (m * n))) (a *ℤ b -ℤ c *ℤ d) (x -ℤ y)
    difference_of x y x_is y_is = sum_is _ _ (ap₂ (λ y z. y -ℤ z) x_is y_is) (difference_up_to _ _ _ _ (product_up_to _ _ a b on_a on_b) (product_up_to _ _ c d on_c on_d))

    pub sum_stored : IsStoredUpTo w (pos (2 * (m * n))) (a *ℤ b +ℤ c *ℤ d) (read w (read w a *ℤ read w b) +ℤ read w (read w c *ℤ read w d))
    sum_stored = sum_of _ _ (product_stored a b on_a on_b).value (product_stored c d on_c on_d).value

    pub difference_stored : IsStoredUpTo w (pos (2 * (m * n))) (a *ℤ b -ℤ c *ℤ d) (read w (read w a *ℤ read w b) -ℤ read w (read w c *ℤ read w d))
    difference_stored = difference_of _ _ (product_stored a b on_a on_b).value (product_stored c d on_c on_d).value
