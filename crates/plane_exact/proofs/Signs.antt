-- The signs of the products that the code has, read as those that they stand for.
use Rattle.std.proofs.Common.{◌≡◌, ◌⊎◌, inl, inr, Bool, true, false, true≢false, sym, ◌∙◌, ℤ, ◌≤ℤ◌, ◌<ℤ◌, int_lt, to_z, of_z, w64, ap, arith}
use Rattle.std.proofs.lemmas.Int.{ints, by_lt_z}
use Rattle.plane_exact.specs.Product.{IsProduct}
use Rattle.plane_exact.proofs.Stored.{wide}

pub held : (r d : ℤ) → IsProduct r → r ≡ d → wide r ≡ d
held r d range e = omega (arith, ints)

-- the second of two, where the first doesn't hold
pub either : {A B : Type 0} → A ⊎ B → ¬ A → B
either (inl a) refused = absurd (refused a)
either (inr b) refused = b

pub not_both : (b : Bool) → b ≡ true → b ≡ false → ⊥
not_both b e f = true≢false (sym e ∙ f)

-- tests of two numbers that the code has as x and y
pub less : (x y a b : ℤ) → x ≡ a → y ≡ b → int_lt x y ≡ true → a <ℤ b
less x y a b e f t = omega (arith, ints)

pub not_less : (x y a b : ℤ) → x ≡ a → y ≡ b → int_lt x y ≡ false → b ≤ℤ a
not_less x y a b e f t = omega (arith, ints)

-- the code's test that two products are the same, which reads their bits
pub read_same : (r q d e : ℤ) → IsProduct r → r ≡ d → IsProduct q → q ≡ e → of_z w64 r ≡ of_z w64 q → d ≡ e
read_same r q d e range is also_range also t = sym (held r d range is) ∙ ap (to_z w64) t ∙ held q e also_range also

pub same_read : (r q d e : ℤ) → r ≡ d → q ≡ e → d ≡ e → of_z w64 r ≡ of_z w64 q
same_read r q d e is also same = ap (of_z w64) (is ∙ same ∙ sym also)

pub level : (a b : ℤ) → a ≤ℤ b → b ≤ℤ a → a ≡ b
level a b h k = omega (arith, ints)

pub strict : (a b : ℤ) → a ≤ℤ b → ¬ (a ≡ b) → a <ℤ b
strict a b h apart = by_lt_z a b (λ l. l) (λ l. absurd (apart (level a b h l)))
