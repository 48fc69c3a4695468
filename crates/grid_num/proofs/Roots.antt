-- Whole square roots: what `isqrt_of` is, by its square.
use Rattle.std.proofs.Common.{◌≡◌, ℕ, zero, suc, ◌+◌, ◌*◌, ◌<◌, ◌≤◌, ◌⊎◌, inl, inr, subst, arith}
use Rattle.std.proofs.lemmas.Bool.{cases_lt}
use Rattle.std.proofs.lemmas.Bool.Decides.{nat_tests}
use Rattle.std.proofs.Math.Nat.{mul-le-mul}
use Rattle.grid_num.specs.Root.{root_within, isqrt_of}

within_square : (v most : ℕ) → root_within v most * root_within v most ≤ v
within_square v zero = omega arith
within_square v (suc most) = let less = within_square v most in grind (arith, nat_tests)

within_greatest : (v most r : ℕ) → r ≤ most → r * r ≤ v → r ≤ root_within v most
within_greatest v zero r up_to square = omega arith
within_greatest v (suc most) r up_to square = by_order (λ up_to. within_greatest v most r up_to square) (cases_lt r (suc most))
  where
    by_order : (r ≤ most → r ≤ root_within v most) → (r < suc most) ⊎ (suc most ≤ r) → r ≤ root_within v (suc most)
    by_order rest (inl less) = let below = rest (omega arith) in grind (arith, nat_tests)
    by_order rest (inr same) =
        let is : r ≡ suc most = omega arith in
        let fits : suc most * suc most ≤ v = subst (λ n. n * n ≤ v) is square in
        grind (arith, nat_tests)

-- the root is the greatest number whose square is at most v
pub record IsRoot (v root : ℕ) : Type 0 where
  pub square : root * root ≤ v
  pub greatest : (r : ℕ) → r * r ≤ v → r ≤ root

le_square : (r : ℕ) → r ≤ r * r
le_square zero = omega arith
le_square (suc r) = omega arith

pub isqrt_is : (v : ℕ) → IsRoot v (isqrt_of v)
unfolding isqrt_of
isqrt_is v = record {
  square = within_square v v;
  greatest = λ r square. within_greatest v v r (omega (arith, le_square r)) square;
}

-- no other number has the two bounds
pub isqrt_unique : (v root : ℕ) → root * root ≤ v → v < (root + 1) * (root + 1) → root ≡ isqrt_of v
isqrt_unique v root square next =
    let is = isqrt_is v in
    let below : root ≤ isqrt_of v = is.greatest root square in
    by_order is.square below (cases_lt root (isqrt_of v))
  where
    by_order : isqrt_of v * isqrt_of v ≤ v → root ≤ isqrt_of v → (root < isqrt_of v) ⊎ (isqrt_of v ≤ root) → root ≡ isqrt_of v
    by_order fits below (inl less) =
        let more : root + 1 ≤ isqrt_of v = omega arith in
        absurd (omega (arith, mul-le-mul more more))
    by_order fits below (inr same) = omega arith
