-- Signed numbers as the code has them: which number each stands for, and how far it is from 0 at most. A step of the code keeps
-- both as long as its width holds the result, so a formula is read step by step.
use mir.Syntax.{Width}
use mir.Val.{hbits}
use Rattle.std.proofs.Common.{◌≡◌, ◌≤◌, ℕ, ◌+◌, ◌*◌, ◌^◌, ◌<◌, ℤ, pos, negsuc, neg_ℤ, ◌+ℤ◌, ◌-ℤ◌, ◌*ℤ◌, ◌≤ℤ◌, FitsSigned, to_z, of_z, arith, refl, ap₂, sym, subst, ◌∙◌}
use Rattle.std.proofs.lemmas.Int.{ints, to_z-of_z}
use Rattle.integer_algebra.proofs.Order.{product_up_to}
use Rattle.integer_algebra.specs.Ranges.{IsUpTo}

-- x, as the code has it, is a, which is from -m to m
pub record IsRead (m : ℕ) (x a : ℤ) : Type 0 where
  pub value : x ≡ a
  pub within : IsUpTo (pos m) a

-- a number that was written into a width and is read again
abbrev pub held : Width → ℤ → ℤ
held w z = to_z w (of_z w z)

fits_within : (w : Width) (m : ℕ) (a : ℤ) → IsUpTo (pos m) a → m < 2 ^ hbits w → FitsSigned w a
fits_within w m (pos n) within small = let high = within.high in record { sfits = omega (arith, ints) }
fits_within w m (negsuc n) within small = let low = within.low in record { sfits = omega (arith, ints) }

-- what the width holds
pub fits : (w : Width) {m : ℕ} {x a : ℤ} → IsRead m x a → m < 2 ^ hbits w → FitsSigned w x
fits w {m = m} {a = a} is small = subst (FitsSigned w) (sym is.value) (fits_within w m a is.within small)

-- is read back as it was
pub read : (w : Width) {m : ℕ} {x a : ℤ} → IsRead m x a → m < 2 ^ hbits w → IsRead m (held w x) a
read w {x = x} is small = record { value = to_z-of_z w x (fits w is small) ∙ is.value; within = is.within }

-- and is in the range of its value
pub range : {m : ℕ} {x a : ℤ} → IsRead m x a → IsUpTo (pos m) x
range {m = m} is = subst (IsUpTo (pos m)) (sym is.value) is.within

pub plain : {m : ℕ} {a : ℤ} → IsUpTo (pos m) a → IsRead m a a
plain {a = a} within = record { value = refl; within = within }

-- what a call answered, read where it is used
pub answer : (w : Width) {m : ℕ} {r a : ℤ} → IsUpTo (pos m) r → r ≡ a → m < 2 ^ hbits w → held w r ≡ a
answer w within e small = (read w (plain within) small).value ∙ e

pub times : {m n : ℕ} {x y a b : ℤ} → IsRead m x a → IsRead n y b → IsRead (m * n) (x *ℤ y) (a *ℤ b)
times {m = m} {n = n} {a = a} {b = b} p q =
    let a_low = p.within.low in
    let a_high = p.within.high in
    let b_low = q.within.low in
    let b_high = q.within.high in
    let both = product_up_to (pos m) (pos n) a b (record { low = a_low; high = a_high }) (record { low = b_low; high = b_high }) in
    let low : neg_ℤ (pos (m * n)) ≤ℤ (a *ℤ b) = both.low in
    let high : (a *ℤ b) ≤ℤ pos (m * n) = both.high in
    record { value = ap₂ (λ u v. u *ℤ v) p.value q.value; within = record { low = low; high = high } }

pub plus : {m n : ℕ} {x y a b : ℤ} → IsRead m x a → IsRead n y b → IsRead (m + n) (x +ℤ y) (a +ℤ b)
plus p q =
    let a_low = p.within.low in
    let a_high = p.within.high in
    let b_low = q.within.low in
    let b_high = q.within.high in
    record { value = ap₂ (λ u v. u +ℤ v) p.value q.value; within = record { low = omega (arith, ints); high = omega (arith, ints) } }

pub minus : {m n : ℕ} {x y a b : ℤ} → IsRead m x a → IsRead n y b → IsRead (m + n) (x -ℤ y) (a -ℤ b)
minus p q =
    let a_low = p.within.low in
    let a_high = p.within.high in
    let b_low = q.within.low in
    let b_high = q.within.high in
    record { value = ap₂ (λ u v. u -ℤ v) p.value q.value; within = record { low = omega (arith, ints); high = omega (arith, ints) } }

-- what a call answered, by its contract
pub called : {m : ℕ} {x a r : ℤ} → IsRead m x a → r ≡ x → IsRead m r a
called is e = record { value = e ∙ is.value; within = is.within }

-- a wider range
pub at_most : {m n : ℕ} {x a : ℤ} → IsRead m x a → m ≤ n → IsRead n x a
at_most is more =
    let low = is.within.low in
    let high = is.within.high in
    record { value = is.value; within = record { low = omega (arith, ints); high = omega (arith, ints) } }

pub wider : {m n : ℕ} {a : ℤ} → IsUpTo (pos m) a → m ≤ n → IsUpTo (pos n) a
wider within more =
    let low = within.low in
    let high = within.high in
    record { low = omega (arith, ints); high = omega (arith, ints) }
