-- Numbers rounded to the nearest whole number, by their sign and their size.
use Rattle.std.proofs.Common.{◌≡◌, ℕ, zero, suc, ◌+◌, ◌-◌, ◌*◌, ◌/◌, ◌<◌, ◌≤◌, ◌^◌, ◌⊎◌, inl, inr, Bool, true, false, cond, pos, negsuc, ◌+ℤ◌, ◌*ℤ◌, neg_ℤ, Err, sym, ap, ◌∙◌, refl, arith, lit<}
use Rattle.std.specs.Int.{int_div_euclid}
use Rattle.std.proofs.Math.Nat.{add-div_right, div-div-eq-div-mul, div-eq_of_lt, div-eq_of_lt-le, mul-div-mul_right}
use Rattle.std.proofs.lemmas.Bool.{cases_lt}
use Rattle.std.proofs.lemmas.Bool.Decides.{nat_tests}
use Rattle.std.proofs.lemmas.Int.{ints}
use Rattle.std.proofs.lemmas.Nat.{pow-add}
use Rattle.grid_num.specs.Decimal.{in_size}
use Rattle.grid_num.specs.Real.{signed}
use Rattle.grid_num.specs.Rounding.{nearest}
use Rattle.grid_num.specs.declared.decimal.NumFault.TheVariants.{OutOfRange}
use Rattle.grid_num.proofs.Powers.{power_pos, times_power_le}

-- the size of the whole number nearest to p / d, or to minus that: of two equally near the greater, so below 0 the less in size
abbrev pub nearest_size : Bool → ℕ → ℕ → ℕ
nearest_size negative p d = (2 * p + d - cond negative 1 0) / (2 * d)

pub nearest_is : (negative : Bool) (p d : ℕ) → 1 ≤ d → nearest (signed negative p) d ≡ signed negative (nearest_size negative p d)
nearest_is false p d some = ap (λ n. pos (n / (2 * d))) (omega arith)
nearest_is true p d some = by_order (cases_lt d (2 * p))
  where
    by_order : (d < 2 * p) ⊎ (2 * p ≤ d) → nearest (signed true p) d ≡ signed true (nearest_size true p d)
    by_order (inl above) =
        let rest = 2 * p - d - 1 in
        let sum : pos 2 *ℤ neg_ℤ (pos p) +ℤ pos d ≡ negsuc rest = omega (arith, ints) in
        let size : 2 * p + d - 1 ≡ rest + 2 * d = omega arith in
        let quotient : nearest_size true p d ≡ rest / (2 * d) + 1 = ap (λ n. n / (2 * d)) size ∙ add-div_right rest (omega arith) in
        ap (λ z. int_div_euclid z (pos (2 * d))) sum ∙ omega (arith, ints)
    by_order (inr within) =
        let sum : pos 2 *ℤ neg_ℤ (pos p) +ℤ pos d ≡ pos (d - 2 * p) = omega (arith, ints) in
        let left : (d - 2 * p) / (2 * d) ≡ 0 = div-eq_of_lt (omega arith) in
        let right : nearest_size true p d ≡ 0 = div-eq_of_lt (omega arith) in
        ap (λ z. int_div_euclid z (pos (2 * d))) sum ∙ ap pos left ∙ ap (λ n. neg_ℤ (pos n)) (sym right)

-- the number below a multiple
div-below : (n c below : ℕ) → 1 ≤ c → below ≡ (n + 1) * c - 1 → below / c ≡ n
div-below n c below some is = div-eq_of_lt-le c (omega arith) (omega arith)

-- a common factor of both doesn't matter
pub nearest_size-cancel : (negative : Bool) (p d c : ℕ) → 1 ≤ d → 1 ≤ c → nearest_size negative (p * c) (d * c) ≡ nearest_size negative p d
nearest_size-cancel false p d c some factor =
    let above : 2 * (p * c) + d * c - 0 ≡ (2 * p + d) * c = omega arith in
    let below : 2 * (d * c) ≡ 2 * d * c = omega arith in
    let all : 2 * p + d - 0 ≡ 2 * p + d = omega arith in
    rw (above, below, all) (mul-div-mul_right (2 * p + d) (2 * d) factor)
nearest_size-cancel true p d c some factor =
    let above = 2 * (p * c) + d * c - 1 in
    let below : 2 * (d * c) ≡ c * (2 * d) = omega arith in
    let more : 2 * p + d - 1 + 1 ≡ 2 * p + d = omega arith in
    let quotient : above / c ≡ 2 * p + d - 1 = div-below (2 * p + d - 1) c above factor (rw more (omega arith)) in
    ap (λ n. above / n) below ∙ sym (div-div-eq-div-mul above c (2 * d)) ∙ ap (λ n. n / (2 * d)) quotient

nearest_size-whole : (negative : Bool) (p : ℕ) → nearest_size negative p 1 ≡ p
nearest_size-whole false p = omega arith
nearest_size-whole true p = omega arith

-- what is below one half
pub nearest_small : (negative : Bool) (p d : ℕ) → 2 * p < d → nearest (signed negative p) d ≡ pos 0
nearest_small negative p d small = nearest_is negative p d (omega arith) ∙ ap (signed negative) (size negative) ∙ zero_size negative
  where
    size : (negative : Bool) → nearest_size negative p d ≡ 0
    size false = div-eq_of_lt (omega arith)
    size true = div-eq_of_lt (omega arith)

    zero_size : (negative : Bool) → signed negative 0 ≡ pos 0
    zero_size false = refl
    zero_size true = refl

split_power : (p more fewer all : ℕ) → more + fewer ≡ all → p * 10 ^ all ≡ p * 10 ^ more * 10 ^ fewer
split_power p more fewer all sum = ap (λ n. p * 10 ^ n) (sym sum) ∙ ap (λ n. p * n) (pow-add 10 more fewer) ∙ omega arith

-- times a power of ten, and by a lower one
pub nearest_raised : (negative : Bool) (p up down tens : ℕ) → tens + down ≡ up → nearest (signed negative (p * 10 ^ up)) (10 ^ down) ≡ signed negative (p * 10 ^ tens)
nearest_raised negative p up down tens sum =
    let whole : nearest_size negative (p * 10 ^ tens * 10 ^ down) (1 * 10 ^ down) ≡ p * 10 ^ tens =
    nearest_size-cancel negative (p * 10 ^ tens) 1 (10 ^ down) (lit< tt) (power_pos down) ∙ nearest_size-whole negative (p * 10 ^ tens) in
    let one : 10 ^ down ≡ 1 * 10 ^ down = omega arith in
    nearest_is negative (p * 10 ^ up) (10 ^ down) (power_pos down) ∙ ap (signed negative) (rw (split_power p tens down up sum) (ap (nearest_size negative (p * 10 ^ tens * 10 ^ down)) one ∙ whole))

-- times a power of ten, and by a greater one
pub nearest_lowered : (negative : Bool) (p up down tenths : ℕ) → tenths + up ≡ down → nearest (signed negative (p * 10 ^ up)) (10 ^ down) ≡ nearest (signed negative p) (10 ^ tenths)
nearest_lowered negative p up down tenths sum =
    let power : 10 ^ down ≡ 10 ^ tenths * 10 ^ up = ap (λ n. 10 ^ n) (sym sum) ∙ pow-add 10 tenths up in
    let less = nearest_size-cancel negative p (10 ^ tenths) (10 ^ up) (power_pos tenths) (power_pos up) in
    nearest_is negative (p * 10 ^ up) (10 ^ down) (power_pos down) ∙ ap (signed negative) (ap (nearest_size negative (p * 10 ^ up)) power ∙ less) ∙ sym (nearest_is negative p (10 ^ tenths) (power_pos tenths))

above_size : (negative : Bool) (size : ℕ) → 2 ^ 53 < size → in_size (signed negative size) ≡ Err OutOfRange
above_size false size above = grind (arith, nat_tests)
above_size true zero above = absurd (omega arith)
above_size true (suc size) above = grind (arith, nat_tests)

-- so many tens of any number but 0 are above every size
pub above_by_tens : (negative : Bool) (p tens : ℕ) → 1 ≤ p → 16 ≤ tens → in_size (signed negative (p * 10 ^ tens)) ≡ Err OutOfRange
above_by_tens negative p tens some many = above_size negative _ (omega (arith, times_power_le 1 p 16 tens some many))

-- and tens of what is
pub above_by_product : (negative : Bool) (p tens : ℕ) → 2 ^ 53 < p → in_size (signed negative (p * 10 ^ tens)) ≡ Err OutOfRange
above_by_product negative p tens above = above_size negative _ (omega (arith, times_power_le p p 0 tens (omega arith) (omega arith)))
