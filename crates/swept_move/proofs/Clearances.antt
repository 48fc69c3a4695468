-- The tests of a quadratic over a part, as the code makes them.
use mir.Syntax.{w64, w128}
use Rattle.std.proofs.Common.{◌≡◌, ◌↔◌, ◌*◌, ◌+◌, ℤ, pos, ◌+ℤ◌, ◌*ℤ◌, ◌≤ℤ◌, ◌<ℤ◌, int_le, IsTrue, [], ◌∷◌, arith, lit<, refl, ap, ap₂, ◌∙◌}
use Rattle.std.proofs.lemmas.Int.{ints}
use Rattle.integer_algebra.proofs.Ring.{ring, V, K, ◌⊕◌, ◌⊗◌}
use Rattle.integer_algebra.proofs.Order.{times_nonneg, times_pos, sign_of_nonneg}
use Rattle.plane_exact.proofs.Wide.{tested}
use Rattle.swept_move.specs.Part.{slope_at, value_at}
use Rattle.swept_move.specs.Range.{IsFineCoefficient}
use Rattle.integer_algebra.specs.Ranges.{IsUpTo}
use Rattle.swept_move.specs.Part.{with_half}
use Rattle.swept_move.specs.declared.clearance.Clearance.{Clearance}
use Rattle.swept_move.proofs.Widths.{IsRead, called, held, plain, plus, read, times}

coefficient : {z : ℤ} → IsFineCoefficient z → IsRead 6871737960000000000 (held w64 z) z
coefficient on = read w64 (plain on) (lit< tt)

moment : {z : ℤ} → IsUpTo (pos 655340) z → IsRead 655340 (held w64 z) z
moment on = read w64 (plain on) (lit< tt)

wider : {z : ℤ} → IsFineCoefficient z → IsRead 6871737960000000000 (held w128 (held w64 z)) z
wider on = read w128 (coefficient on) (lit< tt)

-- ---- the value at the finish

two : IsUpTo (pos 2) (pos 2)
two = record { low = record { le = tt }; high = record { le = tt } }

pub at_finish_is : (q : Clearance) → IsRead 27486951840000000000 (held w128 (held w128 (held w64 q.a) +ℤ held w128 (pos 2 *ℤ held w128 (held w64 q.half))) +ℤ held w128 (held w64 q.c)) (q.a +ℤ pos 2 *ℤ q.half +ℤ q.c)
at_finish_is q =
    plus (read w128 (plus (wider q.a_range) (read w128 (times (plain two) (wider q.half_range)) (lit< tt))) (lit< tt)) (wider q.c_range)

-- ---- the slope

pub product_is : {r a b : ℤ} → IsFineCoefficient a → IsFineCoefficient b → r ≡ held w64 a *ℤ held w64 b → held w128 r ≡ a *ℤ b
product_is on_a on_b e = (read w128 (called (times (coefficient on_a) (coefficient on_b)) e) (lit< tt)).value

slope_product : {r k a : ℤ} → IsUpTo (pos 655340) k → IsFineCoefficient a → r ≡ held w64 k *ℤ held w64 a → IsRead (655340 * 6871737960000000000) (held w128 r) (k *ℤ a)
slope_product on_k on_a e = read w128 (called (times (moment on_k) (coefficient on_a)) e) (lit< tt)

pub half_slope_is : (q : Clearance) {r s k o : ℤ} → IsUpTo (pos 655340) k → IsUpTo (pos 655340) o → r ≡ held w64 o *ℤ held w64 q.half → s ≡ held w64 k *ℤ held w64 q.a
    → IsRead (655340 * 6871737960000000000 + 655340 * 6871737960000000000) (held w128 r +ℤ held w128 s) (o *ℤ q.half +ℤ k *ℤ q.a)
half_slope_is q on_k on_o e f = plus (slope_product on_o q.half_range e) (slope_product on_k q.a_range f)

pub slope_is : (a half c k o z : ℤ) → z ≡ o *ℤ half +ℤ k *ℤ a → pos 2 *ℤ z ≡ slope_at (with_half a half c) k o
slope_is a half c k o z e =
    ap (λ y. pos 2 *ℤ y) e ∙ ring (a ∷ half ∷ k ∷ o ∷ []) (K (pos 2) ⊗ (V 3 ⊗ V 1 ⊕ V 2 ⊗ V 0)) (V 3 ⊗ (K (pos 2) ⊗ V 1) ⊕ K (pos 2) ⊗ (V 0 ⊗ V 2)) tt

-- ---- the values at the ends

module _ (a half c o : ℤ) (some : pos 1 ≤ℤ o) where
  once : pos 0 <ℤ (o *ℤ o)
  once = times_pos o o (omega (arith, ints)) (omega (arith, ints))

  scaled_test : (x y v : ℤ) → x ≡ y → v ≡ (o *ℤ o) *ℤ y → IsTrue (int_le (pos 0) x) ↔ (pos 0 ≤ℤ v)
  scaled_test x y v e f =
      let test = tested (pos 0) x (pos 0) y refl e in
      let wide = once in (
        (λ t. let p = times_nonneg (o *ℤ o) y (omega (arith, ints)) (test.0 t) in omega (arith, ints)),
        (λ h. test.1 (sign_of_nonneg (o *ℤ o) y wide (omega (arith, ints)))),
      )

  pub start_test : (i x : ℤ) → i ≡ pos 0 → x ≡ c → IsTrue (int_le (pos 0) x) ↔ (pos 0 ≤ℤ value_at (with_half a half c) i o)
  start_test i x e f =
      scaled_test x c _ f
      (ap (λ k. value_at (with_half a half c) k o) e
      ∙ ring (a ∷ half ∷ c ∷ o ∷ []) (V 0 ⊗ (K (pos 0) ⊗ K (pos 0)) ⊕ (K (pos 2) ⊗ V 1) ⊗ (K (pos 0) ⊗ V 3) ⊕ V 2 ⊗ (V 3 ⊗ V 3)) ((V 3 ⊗ V 3) ⊗ V 2) tt)

  pub finish_test : (j x : ℤ) → j ≡ o → x ≡ a +ℤ pos 2 *ℤ half +ℤ c → IsTrue (int_le (pos 0) x) ↔ (pos 0 ≤ℤ value_at (with_half a half c) j o)
  finish_test j x e f =
      scaled_test x (a +ℤ pos 2 *ℤ half +ℤ c) _ f
      (ap (λ k. value_at (with_half a half c) k o) e
      ∙ ring (a ∷ half ∷ c ∷ o ∷ []) (V 0 ⊗ (V 3 ⊗ V 3) ⊕ (K (pos 2) ⊗ V 1) ⊗ (V 3 ⊗ V 3) ⊕ V 2 ⊗ (V 3 ⊗ V 3)) ((V 3 ⊗ V 3) ⊗ (V 0 ⊕ K (pos 2) ⊗ V 1 ⊕ V 2)) tt)

-- ---- the signs of slopes

-- twice r is the slope at k and o, which the code has as x and y
pub rise_test : (a half c k o x y r z : ℤ) → z ≡ r → pos 2 *ℤ r ≡ slope_at (with_half a half c) x y → x ≡ k → y ≡ o → IsTrue (int_le (pos 0) z) ↔ (pos 0 ≤ℤ slope_at (with_half a half c) k o)
rise_test a half c k o x y r z is e f g =
    let test = tested (pos 0) z (pos 0) r refl is in
    let same = e ∙ ap₂ (λ u v. slope_at (with_half a half c) u v) f g in (
      (λ t. let h = test.0 t in omega (arith, ints)),
      (λ h. test.1 (omega (arith, ints))),
    )

pub fall_test : (a half c k o x y r z : ℤ) → z ≡ r → pos 2 *ℤ r ≡ slope_at (with_half a half c) x y → x ≡ k → y ≡ o → IsTrue (int_le z (pos 0)) ↔ (slope_at (with_half a half c) k o ≤ℤ pos 0)
fall_test a half c k o x y r z is e f g =
    let test = tested z (pos 0) r (pos 0) is refl in
    let same = e ∙ ap₂ (λ u v. slope_at (with_half a half c) u v) f g in (
      (λ t. let h = test.0 t in omega (arith, ints)),
      (λ h. test.1 (omega (arith, ints))),
    )

pub lowest_test : (x y half a c : ℤ) → x ≡ half *ℤ half → y ≡ a *ℤ c → IsTrue (int_le x y) ↔ (((pos 2 *ℤ half) *ℤ (pos 2 *ℤ half)) ≤ℤ (pos 4 *ℤ (a *ℤ c)))
lowest_test x y half a c e f =
    let test = tested x y _ _ e f in
    let four = ring (half ∷ []) ((K (pos 2) ⊗ V 0) ⊗ (K (pos 2) ⊗ V 0)) (K (pos 4) ⊗ (V 0 ⊗ V 0)) tt in (
      (λ t. let less = test.0 t in omega (arith, ints)),
      (λ less. test.1 (omega (arith, ints))),
    )
