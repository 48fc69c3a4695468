-- The tests of an end against a row, by the numbers that the code has.
use Rattle.std.proofs.Common.{◌≡◌, ◌↔◌, ℤ, ◌*ℤ◌, ◌<ℤ◌, arith, ap₂}
use Rattle.std.proofs.lemmas.Int.{ints}

-- a test of two products, by what their factors are
pub less_same : {T : Type 0} {a b c d k l m n : ℤ} → a ≡ k → b ≡ l → c ≡ m → d ≡ n → T ↔ ((a *ℤ b) <ℤ (c *ℤ d)) → T ↔ ((k *ℤ l) <ℤ (m *ℤ n))
less_same {k = k} {l = l} {m = m} {n = n} first second third fourth is =
    let left = ap₂ (λ y z. y *ℤ z) first second in
    let right = ap₂ (λ y z. y *ℤ z) third fourth in
    ((λ yes. let less = is.0 yes in omega (arith, ints)), (λ less. is.1 (omega (arith, ints))))
