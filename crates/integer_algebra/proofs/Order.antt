-- The order of products of integers.
--
-- Linear steps are `omega (arith, ints)`, where a product of two unknowns is one atom. What it lacks is the sign of a product,
-- and how a product grows: this file. A step that is not linear is then one identity by `Ring` and one call of `omega`.
use mathlib.Core.Path.{◌≡◌, refl, ap, ◌∙◌}
use mathlib.Core.List.{[], ◌∷◌}
use mathlib.Core.Logic.{◌⊎◌, inl, inr}
use Prim.Native.Nat.{zero, suc}
use native.Mathlib.Omega.{arith}
use lib.IntN.{ℤ, pos, negsuc, ◌+ℤ◌, ◌-ℤ◌, ◌*ℤ◌, neg_ℤ, *ℤ_comm}
use lib.Signed.{◌≤ℤ◌, ◌<ℤ◌}
use Rattle.std.proofs.lemmas.Int.{ints, by_lt_z}
use Rattle.integer_algebra.specs.Ranges.{IsUpTo}
use Rattle.integer_algebra.proofs.Ring.{ring, V, K, ◌⊕◌, ◌⊖◌, ◌⊗◌, times_plus, plus_times}

-- ---- cases

pub by_sign : {P : Type 0} (a : ℤ) → (a <ℤ pos 0 → P) → (a ≡ pos 0 → P) → (pos 0 <ℤ a → P) → P
by_sign a below zero_case above = by_lt_z a (pos 0) below (λ l. by_lt_z (pos 0) a above (λ m. zero_case (omega (arith, ints))))

pub by_order : {P : Type 0} (a b : ℤ) → (a <ℤ b → P) → (a ≡ b → P) → (b <ℤ a → P) → P
by_order a b below same above = by_lt_z a b below (λ l. by_lt_z b a above (λ m. same (omega (arith, ints))))

-- ---- the sign of a product

pub square_nonneg : (a : ℤ) → pos 0 ≤ℤ (a *ℤ a)
square_nonneg (pos n) = omega (arith, ints)
square_nonneg (negsuc n) = omega (arith, ints)

pub times_nonneg : (a b : ℤ) → pos 0 ≤ℤ a → pos 0 ≤ℤ b → pos 0 ≤ℤ (a *ℤ b)
times_nonneg (pos m) (pos n) h k = omega (arith, ints)
times_nonneg (pos m) (negsuc n) h k = absurd k.le
times_nonneg (negsuc m) b h k = absurd h.le

pub times_pos : (a b : ℤ) → pos 0 <ℤ a → pos 0 <ℤ b → pos 0 <ℤ (a *ℤ b)
times_pos (pos zero) b h k = absurd h.lt
times_pos (pos (suc m)) (pos zero) h k = absurd k.lt
times_pos (pos (suc m)) (pos (suc n)) h k = omega (arith, ints)
times_pos (pos (suc m)) (negsuc n) h k = absurd k.lt
times_pos (negsuc m) b h k = absurd h.lt

pub square_pos : (a : ℤ) → ¬ (a ≡ pos 0) → pos 0 <ℤ (a *ℤ a)
square_pos (pos zero) h = absurd (h refl)
square_pos (pos (suc n)) h = omega (arith, ints)
square_pos (negsuc n) h = omega (arith, ints)

pub times_zero : (a : ℤ) → a *ℤ pos 0 ≡ pos 0
times_zero a = omega (arith, ints)

pub zero_times : (a : ℤ) → pos 0 *ℤ a ≡ pos 0
zero_times a = omega (arith, ints)

-- a minus sign moves out of a product
pub neg_times : (a b : ℤ) → neg_ℤ a *ℤ b ≡ neg_ℤ (a *ℤ b)
neg_times a b = let sum = plus_times a (neg_ℤ a) b in let none : (a +ℤ neg_ℤ a) *ℤ b ≡ pos 0 = ap (λ z. z *ℤ b) (opposite a) ∙ zero_times b in omega (arith, ints)
  where
    opposite : (a : ℤ) → a +ℤ neg_ℤ a ≡ pos 0
    opposite a = omega (arith, ints)

pub times_neg : (a b : ℤ) → a *ℤ neg_ℤ b ≡ neg_ℤ (a *ℤ b)
times_neg a b = *ℤ_comm a (neg_ℤ b) ∙ neg_times b a ∙ ap neg_ℤ (*ℤ_comm b a)

pub times_minus : (a b c : ℤ) → a *ℤ (b -ℤ c) ≡ a *ℤ b -ℤ a *ℤ c
times_minus a b c = times_plus a b (neg_ℤ c) ∙ ap (λ z. a *ℤ b +ℤ z) (times_neg a c)

pub minus_times : (a b c : ℤ) → (a -ℤ b) *ℤ c ≡ a *ℤ c -ℤ b *ℤ c
minus_times a b c = plus_times a (neg_ℤ b) c ∙ ap (λ z. a *ℤ c +ℤ z) (neg_times b c)

-- unlike signs
pub times_nonpos : (a b : ℤ) → pos 0 ≤ℤ a → b ≤ℤ pos 0 → (a *ℤ b) ≤ℤ pos 0
times_nonpos a b h k = let p = times_nonneg a (neg_ℤ b) h (omega (arith, ints)) in let e = times_neg a b in omega (arith, ints)

pub times_negative : (a b : ℤ) → pos 0 <ℤ a → b <ℤ pos 0 → (a *ℤ b) <ℤ pos 0
times_negative a b h k = let p = times_pos a (neg_ℤ b) h (omega (arith, ints)) in let e = times_neg a b in omega (arith, ints)

-- two factors of which neither is above 0, or both below
pub times_of_nonpos : (a b : ℤ) → a ≤ℤ pos 0 → b ≤ℤ pos 0 → pos 0 ≤ℤ (a *ℤ b)
times_of_nonpos a b h k = let p = times_nonpos (neg_ℤ a) b (omega (arith, ints)) k in let e = neg_times a b in omega (arith, ints)

pub times_of_negative : (a b : ℤ) → a <ℤ pos 0 → b <ℤ pos 0 → pos 0 <ℤ (a *ℤ b)
times_of_negative a b h k = let p = times_negative (neg_ℤ a) b (omega (arith, ints)) k in let e = neg_times a b in omega (arith, ints)

-- ---- a common factor

pub times_le : (c a b : ℤ) → pos 0 ≤ℤ c → a ≤ℤ b → (c *ℤ a) ≤ℤ (c *ℤ b)
times_le c a b h k = let p = times_nonneg c (b -ℤ a) h (omega (arith, ints)) in let e = times_minus c b a in omega (arith, ints)

pub times_lt : (c a b : ℤ) → pos 0 <ℤ c → a <ℤ b → (c *ℤ a) <ℤ (c *ℤ b)
times_lt c a b h k = let p = times_pos c (b -ℤ a) h (omega (arith, ints)) in let e = times_minus c b a in omega (arith, ints)

pub cancel_le : (c a b : ℤ) → pos 0 <ℤ c → (c *ℤ a) ≤ℤ (c *ℤ b) → a ≤ℤ b
cancel_le c a b h k = by_lt_z b a (λ l. let p = times_lt c b a h l in omega (arith, ints)) (λ l. l)

pub cancel_lt : (c a b : ℤ) → pos 0 ≤ℤ c → (c *ℤ a) <ℤ (c *ℤ b) → a <ℤ b
cancel_lt c a b h k = by_lt_z a b (λ l. l) (λ l. let p = times_le c b a h l in omega (arith, ints))

pub cancel_same : (c a b : ℤ) → pos 0 <ℤ c → c *ℤ a ≡ c *ℤ b → a ≡ b
cancel_same c a b h e =
    let below = cancel_le c a b h (omega (arith, ints)) in
    let above = cancel_le c b a h (omega (arith, ints)) in
    omega (arith, ints)

-- a factor at least 1 makes what is not negative no smaller
pub times_one_le : (c a : ℤ) → pos 1 ≤ℤ c → pos 0 ≤ℤ a → a ≤ℤ (c *ℤ a)
times_one_le c a h k =
    let p = times_nonneg (c -ℤ pos 1) a (omega (arith, ints)) k in
    let e = minus_times c (pos 1) a in
    omega (arith, ints)

-- what the sign of a product says of a factor
pub sign_of_nonneg : (c a : ℤ) → pos 0 <ℤ c → pos 0 ≤ℤ (c *ℤ a) → pos 0 ≤ℤ a
sign_of_nonneg c a h k = cancel_le c (pos 0) a h (let e = times_zero c in omega (arith, ints))

pub sign_of_pos : (c a : ℤ) → pos 0 ≤ℤ c → pos 0 <ℤ (c *ℤ a) → pos 0 <ℤ a
sign_of_pos c a h k = cancel_lt c (pos 0) a h (let e = times_zero c in omega (arith, ints))

pub sign_of_nonpos : (c a : ℤ) → pos 0 <ℤ c → (c *ℤ a) ≤ℤ pos 0 → a ≤ℤ pos 0
sign_of_nonpos c a h k = cancel_le c a (pos 0) h (let e = times_zero c in omega (arith, ints))

pub sign_of_negative : (c a : ℤ) → pos 0 ≤ℤ c → (c *ℤ a) <ℤ pos 0 → a <ℤ pos 0
sign_of_negative c a h k = cancel_lt c a (pos 0) h (let e = times_zero c in omega (arith, ints))

-- a product is 0 only where a factor is
pub zero_product : (a b : ℤ) → a *ℤ b ≡ pos 0 → (a ≡ pos 0) ⊎ (b ≡ pos 0)
zero_product a b e = by_sign b
    (λ l. by_sign a (λ m. let p = times_of_negative a b m l in absurd (omega (arith, ints))) inl (λ m. let p = times_negative a b m l in absurd (omega (arith, ints))))
    inr
    (λ l. by_sign a (λ m. let p = times_negative b a l m in let c = *ℤ_comm a b in absurd (omega (arith, ints))) inl (λ m. let p = times_pos a b m l in absurd (omega (arith, ints))))

pub zero_square : (a : ℤ) → a *ℤ a ≡ pos 0 → a ≡ pos 0
zero_square a e = by_sign a (λ l. let p = times_of_negative a a l l in absurd (omega (arith, ints))) (λ z. z) (λ l. let p = times_pos a a l l in absurd (omega (arith, ints)))

-- squares whose sum isn't above 0
pub squares_zero : (a b : ℤ) → (a *ℤ a +ℤ b *ℤ b) ≤ℤ pos 0 → (a ≡ pos 0) × (b ≡ pos 0)
squares_zero a b h =
    let p = square_nonneg a in
    let q = square_nonneg b in
    (zero_square a (omega (arith, ints)), zero_square b (omega (arith, ints)))

-- ---- two factors

pub times_mono : (a b c d : ℤ) → pos 0 ≤ℤ a → a ≤ℤ b → pos 0 ≤ℤ c → c ≤ℤ d → (a *ℤ c) ≤ℤ (b *ℤ d)
times_mono a b c d h k l m =
    let p = times_le a c d h m in
    let q = times_nonneg (b -ℤ a) d (omega (arith, ints)) (omega (arith, ints)) in
    let e = minus_times b a d in
    omega (arith, ints)

-- a sum of two products
abbrev pub mix : (h g s t : ℤ) → ℤ
mix h g s t = h *ℤ s +ℤ g *ℤ t

pub mix_nonneg : (h g s t : ℤ) → pos 0 ≤ℤ h → pos 0 ≤ℤ g → pos 0 ≤ℤ s → pos 0 ≤ℤ t → pos 0 ≤ℤ mix h g s t
mix_nonneg h g s t h_sign g_sign s_sign t_sign =
    let p = times_nonneg h s h_sign s_sign in
    let q = times_nonneg g t g_sign t_sign in
    omega (arith, ints)

pub square_le : (a b : ℤ) → pos 0 ≤ℤ a → a ≤ℤ b → (a *ℤ a) ≤ℤ (b *ℤ b)
square_le a b h k = times_mono a b a b h k h k

pub square_lt : (a b : ℤ) → pos 0 ≤ℤ a → a <ℤ b → (a *ℤ a) <ℤ (b *ℤ b)
square_lt a b h k =
    let p = times_le a a b h (omega (arith, ints)) in
    let q = times_pos (b -ℤ a) b (omega (arith, ints)) (omega (arith, ints)) in
    let e = minus_times b a b in
    omega (arith, ints)

pub root_le : (a b : ℤ) → (a *ℤ a) ≤ℤ (b *ℤ b) → pos 0 ≤ℤ b → a ≤ℤ b
root_le a b h k = by_lt_z b a (λ l. let p = square_lt b a k l in omega (arith, ints)) (λ l. l)

pub root_lt : (a b : ℤ) → (a *ℤ a) <ℤ (b *ℤ b) → pos 0 ≤ℤ b → a <ℤ b
root_lt a b h k = by_lt_z a b (λ l. l) (λ l. let p = square_le b a k l in omega (arith, ints))

-- ---- ranges

-- |a| ≤ m and |b| ≤ n give |a b| ≤ m n
pub product_up_to : (m n a b : ℤ) → IsUpTo m a → IsUpTo n b → IsUpTo (m *ℤ n) (a *ℤ b)
product_up_to m n a b p q =
    let r₁ = times_nonneg (m -ℤ a) (n -ℤ b) (omega (arith, ints)) (omega (arith, ints)) in
    let r₂ = times_nonneg (m +ℤ a) (n +ℤ b) (omega (arith, ints)) (omega (arith, ints)) in
    let r₃ = times_nonneg (m -ℤ a) (n +ℤ b) (omega (arith, ints)) (omega (arith, ints)) in
    let r₄ = times_nonneg (m +ℤ a) (n -ℤ b) (omega (arith, ints)) (omega (arith, ints)) in
    let xs = m ∷ n ∷ a ∷ b ∷ [] in
    let sum = ring xs ((V 0 ⊖ V 2) ⊗ (V 1 ⊖ V 3) ⊕ (V 0 ⊕ V 2) ⊗ (V 1 ⊕ V 3)) (K (pos 2) ⊗ (V 0 ⊗ V 1 ⊕ V 2 ⊗ V 3)) tt in
    let difference = ring xs ((V 0 ⊖ V 2) ⊗ (V 1 ⊕ V 3) ⊕ (V 0 ⊕ V 2) ⊗ (V 1 ⊖ V 3)) (K (pos 2) ⊗ (V 0 ⊗ V 1 ⊖ V 2 ⊗ V 3)) tt in
    record { low = omega (arith, ints); high = omega (arith, ints) }

-- |a| ≤ m and |b| ≤ n give |a + b| ≤ m + n, and |a - b| ≤ m + n
pub sum_up_to : (m n a b : ℤ) → IsUpTo m a → IsUpTo n b → IsUpTo (m +ℤ n) (a +ℤ b)
sum_up_to m n a b p q = record { low = omega (arith, ints); high = omega (arith, ints) }

pub difference_up_to : (m n a b : ℤ) → IsUpTo m a → IsUpTo n b → IsUpTo (m +ℤ n) (a -ℤ b)
difference_up_to m n a b p q = record { low = omega (arith, ints); high = omega (arith, ints) }

pub square_up_to : (m a : ℤ) → IsUpTo m a → (a *ℤ a) ≤ℤ (m *ℤ m)
square_up_to m a p = (product_up_to m m a a p p).high
