-- The least whole number that isn't below a quotient, and below the greater of two.
use Rattle.std.specs.Int.{div_ceil}
use Rattle.std.proofs.Common.{◌≡◌, ℕ, ◌*◌, ◌<◌, ◌≤◌, max, arith, inl, inr, subst, sym}
use Rattle.std.proofs.Math.Nat.{mul-le-mul_left, mul-le-mul_right}
use Rattle.std.proofs.lemmas.Bool.{cases_lt}
use Rattle.std.proofs.lemmas.Grind.{div_ceil_times}

pub ceil_enough : (n d : ℕ) → 0 < d → n ≤ d * div_ceil n d
ceil_enough n d some = let t = div_ceil_times n d some in let h = t.0 in omega arith

pub ceil_least : (n d s : ℕ) → 0 < d → n ≤ d * s → div_ceil n d ≤ s
ceil_least n d s some within =
    let t = div_ceil_times n d some in
    let below = t.1 in
    elim (cases_lt s (div_ceil n d)) [ inl less ↦ (let p = mul-le-mul_right d less in absurd (omega arith)) | inr more ↦ more ]

-- the quotient of d times as far as the bit reaches at the depths y and z
pub record IsLeast (sn d y z r : ℕ) : Type 0 where
  pub start : sn * y ≤ d * r
  pub finish : sn * z ≤ d * r
  pub least : (s : ℕ) → sn * y ≤ d * s → sn * z ≤ d * s → r ≤ s

pub deeper_least : (sn d y z m r : ℕ) → 0 < d → m ≡ max y z → r ≡ div_ceil (sn * m) d → IsLeast sn d y z r
deeper_least sn d y z m r some deeper is =
    let enough : sn * m ≤ d * r = subst (λ q. sn * m ≤ d * q) (sym is) (ceil_enough (sn * m) d some) in
    let p : sn * y ≤ sn * m = mul-le-mul_left sn (omega arith) in
    let q : sn * z ≤ sn * m = mul-le-mul_left sn (omega arith) in
    record {
      start = omega arith;
      finish = omega arith;
      least = λ s first last.
          let under : sn * m ≤ d * s =
          elim (cases_lt y z) [
            | inl less ↦ (let h : sn * m ≤ sn * z = mul-le-mul_left sn (omega arith) in omega arith)
            | inr more ↦ (let h : sn * m ≤ sn * y = mul-le-mul_left sn (omega arith) in omega arith)
          ]
          in
          subst (λ q. q ≤ s) (sym is) (ceil_least (sn * m) d s some under);
    }
