-- The half direction of two directions is one: its components are at most 2^30, and the greater isn't 0.
use Rattle.std.proofs.Common.{ℕ, ◌+◌, ◌*◌, ◌≤◌, arith, inl, inr, mul-le-mul}
use Rattle.std.proofs.Math.Nat.{div-le_of_le-mul}
use Rattle.std.proofs.lemmas.Bool.{cases_lt}
use Rattle.std.proofs.lemmas.Nat.{le-div}
use Rattle.arc_flatten.specs.Directions.{AreHeading, share_of}
use Rattle.arc_flatten.proofs.Roots.{isqrt_of-le, le-isqrt_of}

share_of-le : (part whole : ℕ) → part * part ≤ whole → share_of part whole ≤ 1073741824
share_of-le part whole within =
    let top : 1152921504606846976 * (part * part) ≤ whole * 1152921504606846976 = omega arith in
    isqrt_of-le _ 1073741824 (div-le_of_le-mul whole top)

-- what is at least half of the whole has a share
share_of-some : (part whole : ℕ) → 1 ≤ whole → whole ≤ 2 * (part * part) → 1 ≤ share_of part whole
share_of-some part whole some half = le-isqrt_of _ 1 (le-div 1 (1152921504606846976 * (part * part)) whole some (omega arith))

square_some : (x y : ℕ) → 1 ≤ x + y → 1 ≤ x * x + y * y
square_some x y some =
    elim (cases_lt 0 x) [
      | inl above ↦
          let square : 1 * 1 ≤ x * x = mul-le-mul above above in
          omega arith
      | inr none ↦
          let right : 1 ≤ y = omega arith in
          let square : 1 * 1 ≤ y * y = mul-le-mul right right in
          omega arith
    ]

pub on_circle_range : (x y : ℕ) → 1 ≤ x + y → AreHeading (share_of x (x * x + y * y)) (share_of y (x * x + y * y))
on_circle_range x y some =
    let whole : 1 ≤ x * x + y * y = square_some x y some in
    record { across = share_of-le x _ (omega arith); up = share_of-le y _ (omega arith); some = greater whole }
  where
    greater : 1 ≤ x * x + y * y → 1 ≤ share_of x (x * x + y * y) + share_of y (x * x + y * y)
    greater whole =
        elim (cases_lt x y) [
          | inl less ↦
              let no_more : x ≤ y = omega arith in
              let squares : x * x ≤ y * y = mul-le-mul no_more no_more in
              let share : 1 ≤ share_of y (x * x + y * y) = share_of-some y _ whole (omega arith) in
              omega arith
          | inr no_less ↦
              let squares : y * y ≤ x * x = mul-le-mul no_less no_less in
              let share : 1 ≤ share_of x (x * x + y * y) = share_of-some x _ whole (omega arith) in
              omega arith
        ]
