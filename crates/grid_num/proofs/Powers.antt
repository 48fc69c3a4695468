-- Powers of ten, and numbers below them.
use Rattle.std.proofs.Common.{◌≡◌, ℕ, zero, suc, ◌*◌, ◌/◌, ◌%◌, ◌<◌, ◌≤◌, ◌^◌, ◌&&◌, cond, eqb, Some, None, arith, lit<}
use Rattle.std.proofs.Math.Nat.{pow-le-pow_right, one-le-pow, mod-eq_of_lt, mul-le-mul}
use Rattle.std.proofs.lemmas.Bool.Decides.{nat_tests}

pub power_pos : (places : ℕ) → 1 ≤ 10 ^ places
power_pos places = one-le-pow places 10 (lit< tt)

pub power_le : (fewer more : ℕ) → fewer ≤ more → 10 ^ fewer ≤ 10 ^ more
power_le fewer more le = pow-le-pow_right {n = 10} (lit< tt) le

pub times_power_le : (factor most fewer more : ℕ) → factor ≤ most → fewer ≤ more → factor * 10 ^ fewer ≤ most * 10 ^ more
times_power_le factor most fewer more le places = mul-le-mul le (power_le fewer more places)

-- a number that isn't 0, by a power above it, isn't whole
pub no_quotient : (number most places : ℕ) → number < 10 ^ most → most ≤ places → 1 ≤ number → None ≡ cond (eqb (number % 10 ^ places) 0) (Some (number / 10 ^ places)) None
no_quotient number most places below more some =
    let inside : number < 10 ^ places = omega (arith, power_le most places more) in
    rw (mod-eq_of_lt inside) (grind (arith, nat_tests))

-- a number below the power is a multiple of it where it is 0
pub is_multiple : (number factor most places : ℕ) → number < 10 ^ most → most ≤ places → (eqb number 0 && eqb factor 0) ≡ eqb number (factor * 10 ^ places)
is_multiple number zero most places below more = grind (arith, nat_tests)
is_multiple number (suc factor) most places below more =
    let above : 10 ^ places ≤ suc factor * 10 ^ places = omega arith in
    let power = power_le most places more in
    grind (arith, nat_tests)
