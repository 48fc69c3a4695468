-- The coefficients of a clearance in tenths, and the sides of lines, as the code makes them.
use mir.Syntax.{w64}
use Rattle.std.proofs.Common.{◌≡◌, ◌↔◌, ℕ, ◌≤◌, ◌*◌, ◌+◌, ℤ, pos, ◌+ℤ◌, ◌-ℤ◌, ◌*ℤ◌, ◌<ℤ◌, int_lt, IsTrue, true, to_z, arith, lit<, ap, ap₂, sym, ◌∙◌}
use borrow.Author.Differences.{true_is_lt}
use Rattle.std.proofs.lemmas.Int.{ints, by_lt_z}
use Rattle.std.proofs.Math.IntN.{*ℤ_comm}
use Rattle.integer_algebra.proofs.Order.{times_negative, times_nonneg, times_of_nonpos}
use Rattle.swept_move.specs.Range.{IsFineCoefficient, IsFineProduct, IsFineScaled, IsFineWay}
use Rattle.integer_algebra.specs.Ranges.{IsUpTo}
use Rattle.swept_move.specs.Part.{with_half}
use Rattle.swept_move.proofs.Widths.{IsRead, answer, held, minus, plain, plus, read, times}
use Rattle.swept_move.proofs.Ways.{read_way}

-- ---- the coefficients

number : (n : ℕ) → n ≤ 2000 → IsRead 2000 (to_z w64 n) (pos n)
number n few = record { value = omega (arith, ints); within = record { low = omega (arith, ints); high = omega (arith, ints) } }

pub scaled_is : (n : ℕ) (z : ℤ) → n ≤ 2000 → IsFineProduct z → IsRead 3435868980000000000 (held w64 (to_z w64 n *ℤ to_z w64 n) *ℤ held w64 z) ((pos n *ℤ pos n) *ℤ z)
scaled_is n z few on = times (read w64 (times (number n few) (number n few)) (lit< tt)) (read w64 (plain on) (lit< tt))

pub depths_is : {a b : ℤ} → IsFineWay a → IsFineWay b → IsRead 429483622500 (held w64 (held w64 a *ℤ held w64 b)) (a *ℤ b)
depths_is on_a on_b = read w64 (times (read_way on_a) (read_way on_b)) (lit< tt)

pub read_product : {z : ℤ} → IsFineProduct z → held w64 z ≡ z
read_product on = (read w64 (plain on) (lit< tt)).value

pub excess_is : {r s : ℤ} → IsFineScaled r → IsFineScaled s → IsRead 6871737960000000000 (held w64 (held w64 r -ℤ held w64 s)) (r -ℤ s)
excess_is on_r on_s = read w64 (minus (read w64 (plain on_r) (lit< tt)) (read w64 (plain on_s) (lit< tt))) (lit< tt)

-- a coefficient that a call answered, of products that calls answered
pub coefficient_is : {r d w ways a b : ℤ} (over under : ℤ) → IsFineCoefficient r → r ≡ over *ℤ held w64 d -ℤ under *ℤ held w64 w → IsFineProduct d → d ≡ ways → IsFineProduct w → w ≡ held w64 a *ℤ held w64 b → IsFineWay a → IsFineWay b
    → held w64 r ≡ over *ℤ ways -ℤ under *ℤ (a *ℤ b)
coefficient_is over under on_r e on_d f on_w g on_a on_b =
    answer w64 on_r e (lit< tt)
    ∙ ap₂ (λ x y. over *ℤ x -ℤ under *ℤ y) (read_product on_d ∙ f) (read_product on_w ∙ g ∙ ap₂ (λ x y. x *ℤ y) (read_way on_a).value (read_way on_b).value)

pub with_half_is : {a half c a' half' c' : ℤ} → a ≡ a' → half ≡ half' → c ≡ c' → with_half a half c ≡ with_half a' half' c'
with_half_is {c = c} {a' = a'} {half' = half'} e f g = ap₂ (λ x y. with_half x y c) e f ∙ ap (λ z. with_half a' half' z) g

-- ---- sides

-- the code's tests of two numbers, which it has as x and y
module _ (a b x y : ℤ) (e : x ≡ a) (f : y ≡ b) where
  pub opposite_below : int_lt x (pos 0) ≡ true → IsTrue (int_lt (pos 0) y) ↔ ((a *ℤ b) <ℤ pos 0)
  opposite_below t = (
    (λ s. let p = times_negative b a (omega (arith, ints)) (omega (arith, ints)) in let c = *ℤ_comm a b in omega (arith, ints)),
    (λ h. sym (true_is_lt (pos 0) y (
        let above : pos 0 <ℤ y = by_lt_z (pos 0) y (λ l. l) (λ l. let p = times_of_nonpos a b (omega (arith, ints)) (omega (arith, ints)) in absurd (omega (arith, ints))) in
        omega (arith, ints)))),
  )

  pub opposite_above : int_lt (pos 0) x ≡ true → IsTrue (int_lt y (pos 0)) ↔ ((a *ℤ b) <ℤ pos 0)
  opposite_above t = (
    (λ s. times_negative a b (omega (arith, ints)) (omega (arith, ints))),
    (λ h. sym (true_is_lt y (pos 0) (
        let below : y <ℤ pos 0 = by_lt_z y (pos 0) (λ l. l) (λ l. let p = times_nonneg a b (omega (arith, ints)) (omega (arith, ints)) in absurd (omega (arith, ints))) in
        omega (arith, ints)))),
  )

pub none_opposite : (a b : ℤ) → a ≡ pos 0 → ¬ ((a *ℤ b) <ℤ pos 0)
none_opposite a b e h = let none = ap (λ z. z *ℤ b) e in omega (arith, ints)

moment : {z : ℤ} → IsUpTo (pos 655340) z → IsRead 655340 (held w64 z) z
moment on = read w64 (plain on) (lit< tt)

pub side_is : {k o base turn : ℤ} → IsUpTo (pos 655340) k → IsUpTo (pos 655340) o → IsFineProduct base → IsFineProduct turn
    → IsRead (655340 * 858967245000 + 655340 * 858967245000) (held w64 (held w64 o *ℤ held w64 base) +ℤ held w64 (held w64 k *ℤ held w64 turn)) (o *ℤ base +ℤ k *ℤ turn)
side_is on_k on_o on_base on_turn =
    plus (read w64 (times (moment on_o) (read w64 (plain on_base) (lit< tt))) (lit< tt)) (read w64 (times (moment on_k) (read w64 (plain on_turn) (lit< tt))) (lit< tt))

-- ---- distances

pub reach_is : {r : ℤ} {s n z : ℕ} → n ≤ 2000 → s ≡ n → IsUpTo (pos 327670) r → r ≡ pos z → IsRead 655340000 (held w64 (to_z w64 s *ℤ held w64 r)) (pos n *ℤ pos z)
reach_is {r = r} {s = s} {n = n} {z = z} few e on f =
    let low = on.low in
    let high = on.high in
    let depth : IsRead 327670 r (pos z) = record { value = f; within = record { low = omega (arith, ints); high = omega (arith, ints) } } in
    let slope : IsRead 2000 (to_z w64 s) (pos n) = record { value = omega (arith, ints); within = record { low = omega (arith, ints); high = omega (arith, ints) } } in
    read w64 (times slope (read w64 depth (lit< tt))) (lit< tt)

pub square_of_number : {n : ℕ} → n ≤ 2000 → IsRead 4000000 (held w64 (to_z w64 n *ℤ to_z w64 n)) (pos n *ℤ pos n)
square_of_number {n = n} few = read w64 (times (number n few) (number n few)) (lit< tt)

pub square_of_reach : {z : ℤ} → IsUpTo (pos 655340000) z → IsRead 429470515600000000 (held w64 (held w64 z *ℤ held w64 z)) (z *ℤ z)
square_of_reach on = read w64 (times (read w64 (plain on) (lit< tt)) (read w64 (plain on) (lit< tt))) (lit< tt)

pub scaled_product : {z : ℤ} {n : ℕ} → IsFineProduct z → n ≤ 2000 → IsRead 1717934490000000 (held w64 (held w64 z *ℤ to_z w64 n)) (z *ℤ pos n)
scaled_product {n = n} on few = read w64 (times (read w64 (plain on) (lit< tt)) (number n few)) (lit< tt)
