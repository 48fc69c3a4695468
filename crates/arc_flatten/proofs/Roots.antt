-- Bounds of square roots that are rounded down.
use Rattle.std.proofs.Common.{ℕ, ◌+◌, ◌*◌, ◌≤◌, arith, mul-le-mul, inl, inr}
use Rattle.std.proofs.lemmas.Bool.{cases_lt}
use Rattle.grid_num.specs.Root.{isqrt_of}
use Rattle.grid_num.proofs.Roots.{isqrt_is}

pub isqrt_of-le : (v n : ℕ) → v ≤ n * n → isqrt_of v ≤ n
isqrt_of-le v n below =
    elim (cases_lt n (isqrt_of v)) [
      | inl above ↦
          let next : n + 1 ≤ isqrt_of v = omega arith in
          let more : (n + 1) * (n + 1) ≤ isqrt_of v * isqrt_of v = mul-le-mul next next in
          let fits = (isqrt_is v).square in
          absurd (omega arith)
      | inr is ↦ is
    ]

pub le-isqrt_of : (v n : ℕ) → n * n ≤ v → n ≤ isqrt_of v
le-isqrt_of v n square = (isqrt_is v).greatest n square
