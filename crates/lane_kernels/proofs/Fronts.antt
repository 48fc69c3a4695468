-- The front of a list that is being filled with a function's values.
use Rattle.std.proofs.Common.{◌≡◌, ℕ, ◌+◌, ◌<◌, ◌≤◌, List, [], ◌∷◌, ◌++◌, length, map, take, set, sym, ap, ◌∙◌, arith, slice_index_or}
use Rattle.std.proofs.lemmas.List.{length-set, take_more_set, map_more}

-- one value more
pub set_next : {X : Type 0} (h : X → ℕ) (xs : List X) (out : List ℕ) (i j : ℕ) (d : X) (v : ℕ) → i + 1 ≡ j → i < length xs → length out ≡ length xs
    → v ≡ h (slice_index_or xs i d) → take i out ≡ map h (take i xs) → take j (set out i v) ≡ map h (take j xs)
set_next h xs out i j d v e l same is front =
    ap (λ k. take k (set out i v)) (sym e) ∙ take_more_set out i v (omega (arith, l, same)) ∙ ap (λ ys. ys ++ v ∷ []) front ∙ ap (λ y. map h (take i xs) ++ y ∷ []) is ∙ sym (map_more h xs i d l) ∙ ap (λ k. map h (take k xs)) e

-- four values more
module _ {X : Type 0} (h : X → ℕ) (d : X) (xs : List X) (at : ℕ) where
  pub four_next : (out : List ℕ) (v0 v1 v2 v3 : ℕ) → at + 4 ≤ length xs → length out ≡ length xs
      → v0 ≡ h (slice_index_or xs at d) → v1 ≡ h (slice_index_or xs (at + 1) d) → v2 ≡ h (slice_index_or xs (at + 2) d) → v3 ≡ h (slice_index_or xs (at + 3) d)
      → take at out ≡ map h (take at xs)
      → take (at + 4) (set (set (set (set out at v0) (at + 1) v1) (at + 2) v2) (at + 3) v3) ≡ map h (take (at + 4) xs)
  four_next out v0 v1 v2 v3 room same e0 e1 e2 e3 front =
      let out1 = set out at v0 in
      let out2 = set out1 (at + 1) v1 in
      let out3 = set out2 (at + 2) v2 in
      let same1 : length out1 ≡ length xs = length-set out at v0 ∙ same in
      let same2 : length out2 ≡ length xs = length-set out1 (at + 1) v1 ∙ same1 in
      let same3 : length out3 ≡ length xs = length-set out2 (at + 2) v2 ∙ same2 in
      let front1 = set_next h xs out at (at + 1) d v0 (omega arith) (omega (arith, room)) same e0 front in
      let front2 = set_next h xs out1 (at + 1) (at + 2) d v1 (omega arith) (omega (arith, room)) same1 e1 front1 in
      let front3 = set_next h xs out2 (at + 2) (at + 3) d v2 (omega arith) (omega (arith, room)) same2 e2 front2 in
      set_next h xs out3 (at + 3) (at + 4) d v3 (omega arith) (omega (arith, room)) same3 e3 front3
