-- Quotients by 2^31 that are rounded down, and numbers of the code that are within their bounds.
use mir.Syntax.{w64, w128}
use Rattle.std.proofs.Common.{◌≡◌, ℕ, suc, ◌≤◌, true, false, ℤ, pos, negsuc, neg_ℤ, ◌+ℤ◌, ◌-ℤ◌, ◌*ℤ◌, ◌≤ℤ◌, ◌<ℤ◌, int_le, int_lt, FitsSigned, to_z, arith, ap, ap₂, sym, subst, ◌∙◌, unsigned_abs, lit<}
use Rattle.std.specs.Int.{int_div_euclid}
use Rattle.std.proofs.lemmas.Int.{ints}
use Rattle.integer_algebra.specs.Ranges.{IsUpTo, IsWithin}
use Rattle.integer_algebra.proofs.Order.{difference_up_to, product_up_to, sum_up_to}
use Rattle.grid_num.specs.Rounding.{nearest}
use Rattle.plane_exact.proofs.Stored.{IsStored, IsStoredUpTo, stored, stored_up_to, wide, widest}
use Rattle.plane_exact.proofs.Wide.{product_fits}
use Rattle.arc_flatten.specs.Bulges.{half_bulge_of, half_size_of, is_flat, middle_of}

-- f is the floor of z / 2^31
pub record IsFloor (z f : ℤ) : Type 0 where
  pub low : (pos 2147483648 *ℤ f) ≤ℤ z
  pub high : z <ℤ (pos 2147483648 *ℤ f +ℤ pos 2147483648)

pub floor_is : (z : ℤ) → IsFloor z (int_div_euclid z (pos 2147483648))
floor_is (pos a) = record { low = omega (arith, ints); high = omega (arith, ints) }
floor_is (negsuc a) = record { low = omega (arith, ints); high = omega (arith, ints) }

-- ---- a radius times a component

pub radius_range : (r : ℤ) → IsWithin (pos 0) (pos 100000000000) r → IsUpTo (pos 100000000000) r
radius_range r on = let low = on.low in let high = on.high in record { low = omega (arith, ints); high = omega (arith, ints) }

module _ (r k : ℤ) (on_r : IsUpTo (pos 100000000000) r) (on_k : IsUpTo (pos 1073741824) k) where
  read_r : widest (wide r) ≡ r
  read_r = let low = on_r.low in let high = on_r.high in omega (arith, ints)

  read_k : widest (wide k) ≡ k
  read_k = let low = on_k.low in let high = on_k.high in omega (arith, ints)

  pub product_fits_wide : FitsSigned w128 (widest (wide r) *ℤ widest (wide k))
  product_fits_wide = product_fits 100000000000 1073741824 _ _ r k read_r read_k on_r on_k (lit< tt)

  range : IsUpTo (pos 107374182400000000000) (r *ℤ k)
  range = product_up_to (pos 100000000000) (pos 1073741824) r k on_r on_k

  module _ (p : ℤ) (is : p ≡ widest (wide r) *ℤ widest (wide k)) where
    product : p ≡ r *ℤ k
    product = is ∙ ap₂ (λ a b. a *ℤ b) read_r read_k

    pub scaled_fits : FitsSigned w128 (widest (pos 2 *ℤ widest p) +ℤ pos 1073741824)
    scaled_fits = let low = range.low in let high = range.high in let same = product in omega (arith, ints)

    top : widest (widest (pos 2 *ℤ widest p) +ℤ pos 1073741824) ≡ pos 2 *ℤ (r *ℤ k) +ℤ pos 1073741824
    top = let low = range.low in let high = range.high in let same = product in omega (arith, ints)

    module _ (f : ℤ) (quotient : f ≡ int_div_euclid (widest (widest (pos 2 *ℤ widest p) +ℤ pos 1073741824)) (pos 2147483648)) where
      scaled_is : f ≡ nearest (r *ℤ k) 1073741824
      scaled_is = quotient ∙ ap (λ z. int_div_euclid z (pos 2147483648)) top

      scaled_range : IsUpTo (pos 100000000000) f
      scaled_range =
          let low = range.low in
          let high = range.high in
          let floor : IsFloor (pos 2 *ℤ (r *ℤ k) +ℤ pos 1073741824) f = subst (IsFloor (pos 2 *ℤ (r *ℤ k) +ℤ pos 1073741824)) (sym scaled_is) (floor_is (pos 2 *ℤ (r *ℤ k) +ℤ pos 1073741824)) in
          let floor_low = floor.low in
          let floor_high = floor.high in
          record { low = omega (arith, ints); high = omega (arith, ints) }

      pub cast_fits : FitsSigned w64 (widest f)
      cast_fits = let low = scaled_range.low in let high = scaled_range.high in omega (arith, ints)

      read_f : wide (widest f) ≡ f
      read_f = let low = scaled_range.low in let high = scaled_range.high in omega (arith, ints)

      pub read_is_nearest : wide (widest f) ≡ nearest (r *ℤ k) 1073741824
      read_is_nearest = read_f ∙ scaled_is

      pub read_range : IsUpTo (pos 100000000000) (wide (widest f))
      read_range = subst (IsUpTo (pos 100000000000)) (sym read_f) scaled_range

-- ---- a number of the centre and a multiple of the radius

pub shifted : (z c s : ℤ) → z ≡ c → IsUpTo (pos 100000000000) c → IsUpTo (pos 100000000000) s → IsStoredUpTo w64 (pos 2000000000000) (c +ℤ s) (wide z +ℤ wide s)
shifted z c s is on_c on_s =
    let c_low = on_c.low in
    let c_high = on_c.high in
    let s_low = on_s.low in
    let s_high = on_s.high in
    stored_up_to w64 2000000000000 _ _ (omega (arith, ints)) (record { low = omega (arith, ints); high = omega (arith, ints) }) (lit< tt)

-- ---- a middle

top_stored : (r s moved m : ℤ) → r ≡ s → IsUpTo (pos 4000000000000) s → moved ≡ m → IsUpTo (pos 36893488147419103232000000000000) m → IsStored w128 (pos 1073741824 *ℤ s +ℤ m) (widest (pos 1073741824 *ℤ r) +ℤ widest moved)
top_stored r s moved m s_is s_range m_is m_range =
    let s_low = s_range.low in
    let s_high = s_range.high in
    let m_low = m_range.low in
    let m_high = m_range.high in
    stored w128 _ _ (omega (arith, ints)) (omega (arith, ints))

module _ (u v from to b : ℤ) (on_u : IsUpTo (pos 2000000000000) u) (on_v : IsUpTo (pos 2000000000000) v) (on_from : IsUpTo (pos 2000000000000) from) (on_to : IsUpTo (pos 2000000000000) to) (on_b : FitsSigned w64 b) where
  sum_range : IsUpTo (pos 4000000000000) (u +ℤ v)
  sum_range = sum_up_to (pos 2000000000000) (pos 2000000000000) u v on_u on_v

  difference_range : IsUpTo (pos 4000000000000) (to -ℤ from)
  difference_range = difference_up_to (pos 2000000000000) (pos 2000000000000) to from on_to on_from

  bulge_range : IsUpTo (pos 9223372036854775808) b
  bulge_range = record { low = omega (arith, ints); high = omega (arith, ints) }

  read_b : widest (wide b) ≡ b
  read_b = omega (arith, ints)

  read_difference : widest (widest (wide to) -ℤ widest (wide from)) ≡ to -ℤ from
  read_difference =
      let to_low = on_to.low in
      let to_high = on_to.high in
      let from_low = on_from.low in
      let from_high = on_from.high in
      omega (arith, ints)

  read_sum : widest (widest (wide u) +ℤ widest (wide v)) ≡ u +ℤ v
  read_sum =
      let u_low = on_u.low in
      let u_high = on_u.high in
      let v_low = on_v.low in
      let v_high = on_v.high in
      omega (arith, ints)

  pub moved_fits : FitsSigned w128 (widest (wide b) *ℤ widest (widest (wide to) -ℤ widest (wide from)))
  moved_fits = product_fits 9223372036854775808 4000000000000 _ _ b (to -ℤ from) read_b read_difference bulge_range difference_range (lit< tt)

  pub sum_fits : FitsSigned w128 (pos 1073741824 *ℤ widest (widest (wide u) +ℤ widest (wide v)))
  sum_fits = let low = sum_range.low in let high = sum_range.high in let same = read_sum in omega (arith, ints)

  moved_range : IsUpTo (pos 36893488147419103232000000000000) (b *ℤ (to -ℤ from))
  moved_range = product_up_to (pos 9223372036854775808) (pos 4000000000000) b (to -ℤ from) bulge_range difference_range

  module _ (moved : ℤ) (is : moved ≡ widest (wide b) *ℤ widest (widest (wide to) -ℤ widest (wide from))) where
    moved_is : moved ≡ b *ℤ (to -ℤ from)
    moved_is = is ∙ ap₂ (λ x y. x *ℤ y) read_b read_difference

    moved_top : IsStored w128 (pos 1073741824 *ℤ (u +ℤ v) +ℤ b *ℤ (to -ℤ from)) (widest (pos 1073741824 *ℤ widest (widest (wide u) +ℤ widest (wide v))) +ℤ widest moved)
    moved_top = top_stored _ _ _ _ read_sum sum_range moved_is moved_range

    pub top_fits : FitsSigned w128 (widest (pos 1073741824 *ℤ widest (widest (wide u) +ℤ widest (wide v))) +ℤ widest moved)
    top_fits = moved_top.fits

    top_is : widest (widest (pos 1073741824 *ℤ widest (widest (wide u) +ℤ widest (wide v))) +ℤ widest moved) ≡ pos 1073741824 *ℤ (u +ℤ v) +ℤ b *ℤ (to -ℤ from)
    top_is = moved_top.value

    module _ (f : ℤ) (quotient : f ≡ int_div_euclid (widest (widest (pos 1073741824 *ℤ widest (widest (wide u) +ℤ widest (wide v))) +ℤ widest moved)) (pos 2147483648)) (on : IsUpTo (pos 2000000000000) (middle_of u v from to b)) where
      middle_is : f ≡ middle_of u v from to b
      unfolding middle_of
      middle_is = quotient ∙ ap (λ z. int_div_euclid z (pos 2147483648)) top_is

      pub middle_fits : FitsSigned w64 (widest f)
      middle_fits = let low = on.low in let high = on.high in let same = middle_is in omega (arith, ints)

      pub read_is_middle : wide (widest f) ≡ middle_of u v from to b
      read_is_middle = let low = on.low in let high = on.high in let same = middle_is in omega (arith, ints)

-- ---- bulges

abs-le : (most : ℕ) (b : ℤ) → IsUpTo (pos most) b → unsigned_abs b ≤ most
abs-le most (pos n) on = let high = on.high in omega (arith, ints)
abs-le most (negsuc n) on = let low = on.low in omega (arith, ints)

wide_bulge : (b : ℤ) → IsUpTo (pos 10737418240000) b → wide b ≡ b
wide_bulge b on = let low = on.low in let high = on.high in omega (arith, ints)

limit_stored : (r y s x : ℤ) → r ≡ y → IsUpTo (pos 1073741824) y → s ≡ x → IsUpTo (pos 1073741824) x → IsStored w128 (pos 1073741824 *ℤ y +ℤ pos 1024 *ℤ x) (widest (pos 1073741824 *ℤ r) +ℤ widest (pos 1024 *ℤ s))
limit_stored r y s x y_is y_range x_is x_range =
    let y_low = y_range.low in
    let y_high = y_range.high in
    let x_low = x_range.low in
    let x_high = x_range.high in
    stored w128 _ _ (omega (arith, ints)) (omega (arith, ints))

module _ (b x y : ℤ) (n : ℕ) (on_b : IsUpTo (pos 10737418240000) b) (on_x : IsUpTo (pos 1073741824) x) (on_y : IsUpTo (pos 1073741824) y) (size : n ≡ unsigned_abs (wide b)) where
  size_is : n ≡ unsigned_abs b
  size_is = size ∙ ap unsigned_abs (wide_bulge b on_b)

  size_range : IsUpTo (pos 10737418240000) (pos (unsigned_abs b))
  size_range = let small = abs-le 10737418240000 b on_b in record { low = omega (arith, ints); high = omega (arith, ints) }

  read_size : to_z w128 n ≡ pos (unsigned_abs b)
  read_size = let small = abs-le 10737418240000 b on_b in let same = size_is in omega (arith, ints)

  read_x : widest (wide x) ≡ x
  read_x = let low = on_x.low in let high = on_x.high in omega (arith, ints)

  pub flat_fits : FitsSigned w128 (to_z w128 n *ℤ widest (wide x))
  flat_fits = product_fits 10737418240000 1073741824 _ _ (pos (unsigned_abs b)) x read_size read_x size_range on_x (lit< tt)

  read_y : widest (wide y) ≡ y
  read_y = let low = on_y.low in let high = on_y.high in omega (arith, ints)

  limit : IsStored w128 (pos 1073741824 *ℤ y +ℤ pos 1024 *ℤ x) (widest (pos 1073741824 *ℤ widest (wide y)) +ℤ widest (pos 1024 *ℤ widest (wide x)))
  limit = limit_stored _ y _ x read_y on_y read_x on_x

  pub limit_fits : FitsSigned w128 (widest (pos 1073741824 *ℤ widest (wide y)) +ℤ widest (pos 1024 *ℤ widest (wide x)))
  limit_fits = limit.fits

  pub flat_is : (p : ℤ) → p ≡ to_z w128 n *ℤ widest (wide x)
      → int_le (widest p) (widest (widest (pos 1073741824 *ℤ widest (wide y)) +ℤ widest (pos 1024 *ℤ widest (wide x)))) ≡ is_flat (x, y) b
  unfolding is_flat
  flat_is p is = ap₂ int_le left right
    where
      left : widest p ≡ pos (unsigned_abs b) *ℤ x
      left =
          let same : p ≡ pos (unsigned_abs b) *ℤ x = is ∙ ap₂ (λ s t. s *ℤ t) read_size read_x in
          let range = product_up_to (pos 10737418240000) (pos 1073741824) (pos (unsigned_abs b)) x size_range on_x in
          let low = range.low in
          let high = range.high in
          omega (arith, ints)

      right : widest (widest (pos 1073741824 *ℤ widest (wide y)) +ℤ widest (pos 1024 *ℤ widest (wide x))) ≡ pos 1073741824 *ℤ y +ℤ pos 1024 *ℤ x
      right = limit.value

-- the code's half bulge, for one below 0 and for one that isn't
pub half_below : (b : ℤ) (n half : ℕ) → IsUpTo (pos 10737418240000) b → n ≡ unsigned_abs (wide b) → half ≡ half_size_of n → half ≤ 10737418240000 → int_lt (wide b) (pos 0) ≡ true
    → wide (pos 0 -ℤ to_z w64 half) ≡ half_bulge_of b
unfolding half_bulge_of
half_below (pos m) n half on size is small below = absurd (omega (arith, ints))
half_below (negsuc m) n half on size is small below =
    let same : n ≡ suc m = size ∙ ap unsigned_abs (wide_bulge (negsuc m) on) in
    let read : wide (pos 0 -ℤ to_z w64 half) ≡ neg_ℤ (pos half) = omega (arith, ints) in
    read ∙ ap (λ h. neg_ℤ (pos h)) (is ∙ ap half_size_of same)

pub half_above : (b : ℤ) (n half : ℕ) → IsUpTo (pos 10737418240000) b → n ≡ unsigned_abs (wide b) → half ≡ half_size_of n → half ≤ 10737418240000 → int_lt (wide b) (pos 0) ≡ false
    → to_z w64 half ≡ half_bulge_of b
unfolding half_bulge_of
half_above (pos m) n half on size is small above =
    let same : n ≡ m = size ∙ ap unsigned_abs (wide_bulge (pos m) on) in
    let read : to_z w64 half ≡ pos half = omega (arith, ints) in
    read ∙ ap pos (is ∙ ap half_size_of same)
half_above (negsuc m) n half on size is small above = let low = on.low in absurd (omega (arith, ints))
