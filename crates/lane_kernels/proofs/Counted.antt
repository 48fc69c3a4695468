-- Sums over the parts of a list, and how many bits words have.
use Rattle.std.proofs.Common.{◌≡◌, ℕ, ◌+◌, ◌*◌, ◌≤◌, ◌<◌, List, [], ◌∷◌, length, take, drop, sum_by, sym, ap, ap₂, ◌∙◌, arith, ◌^◌, take-append-drop}
use Rattle.std.specs.Int.RustNames.{count_ones}
use Rattle.std.specs.Simd.Lanes.{chunk, Each1}
use Rattle.std.proofs.lemmas.List.{drop-take, take-take}
use Rattle.std.proofs.lemmas.List.Sums.{sum_by-append, sum_by-cons}
use Rattle.std.proofs.lemmas.Nat.{ones-le}

module _ {X : Type 0} (f : X → ℕ) (at : ℕ) (xs : List X) where
  pub sum_rest : sum_by f xs ≡ sum_by f (take at xs) + sum_by f (drop at xs)
  sum_rest = ap (sum_by f) (sym (take-append-drop at xs)) ∙ sum_by-append f (take at xs) (drop at xs)

-- a part more
pub sum_chunk : {X : Type 0} (f : X → ℕ) (at n : ℕ) (xs : List X) → sum_by f (take (at + n) xs) ≡ sum_by f (take at xs) + sum_by f (chunk at n xs)
sum_chunk f at n xs =
    let fits : at ≤ at + n = omega arith in
    sum_rest f at (take (at + n) xs) ∙ ap₂ (λ l r. sum_by f l + sum_by f r) (take-take at (at + n) xs fits) (drop-take at n xs)

-- a word has at most 64
pub ones_few : (words : List ℕ) → Each1 (λ x. x < 2 ^ 64) words → sum_by count_ones words ≤ 64 * length words
ones_few [] fit = omega arith
ones_few (word ∷ words) fit = omega (arith, sum_by-cons count_ones word words, ones-le 64 word fit.0, ones_few words fit.1)
