-- The ways, each with a depth, at which the bit's disc holds a point: the inside of the lower half of a cone. Two ways in it lean
-- the same way.
use Rattle.std.proofs.Common.{◌≡◌, ℤ, pos, ◌+ℤ◌, ◌-ℤ◌, ◌*ℤ◌, ◌≤ℤ◌, ◌<ℤ◌, [], ◌∷◌, arith, ap, subst, ◌∙◌}
use Rattle.std.proofs.lemmas.Int.{ints, by_lt_z}
use Rattle.std.proofs.Math.IntN.{*ℤ_comm}
use Rattle.integer_algebra.proofs.Ring.{ring, V, ◌⊕◌, ◌⊖◌, ◌⊗◌}
use Rattle.integer_algebra.proofs.Order.{cancel_lt, root_lt, sign_of_pos, square_nonneg, times_le, times_lt, times_nonneg, times_pos, times_zero}
use Rattle.swept_move.proofs.Hits.{IsNear}

-- the product of two ways with their depths: of a way with itself it is negative just where the way is shorter than the bit's
-- radius at that depth, above the surface as below it
abbrev pub lean : (Q R x y d x' y' d' : ℤ) → ℤ
lean Q R x y d x' y' d' = Q *ℤ (x *ℤ x' +ℤ y *ℤ y') -ℤ R *ℤ (d *ℤ d')

pub near_same : (Q R x y d x' y' d' : ℤ) → x ≡ x' → y ≡ y' → d ≡ d' → IsNear Q R x y d → IsNear Q R x' y' d'
near_same Q R x y d x' y' d' ex ey ed near =
    subst (λ z. IsNear Q R x' y' z) ed (subst (λ z. IsNear Q R x' z d) ey (subst (λ z. IsNear Q R z y d) ex near))

-- a multiple of a near way is near
pub near_times : (Q R m x y d : ℤ) → pos 0 <ℤ m → IsNear Q R x y d → IsNear Q R (m *ℤ x) (m *ℤ y) (m *ℤ d)
near_times Q R m x y d some near =
    let scaled = times_lt (m *ℤ m) (Q *ℤ (x *ℤ x +ℤ y *ℤ y)) (R *ℤ (d *ℤ d)) (times_pos m m some some) near.close in
    let left = ring (Q ∷ m ∷ x ∷ y ∷ []) (V 0 ⊗ ((V 1 ⊗ V 2) ⊗ (V 1 ⊗ V 2) ⊕ (V 1 ⊗ V 3) ⊗ (V 1 ⊗ V 3))) ((V 1 ⊗ V 1) ⊗ (V 0 ⊗ (V 2 ⊗ V 2 ⊕ V 3 ⊗ V 3))) tt in
    let right = ring (R ∷ m ∷ d ∷ []) (V 0 ⊗ ((V 1 ⊗ V 2) ⊗ (V 1 ⊗ V 2))) ((V 1 ⊗ V 1) ⊗ (V 0 ⊗ (V 2 ⊗ V 2))) tt in
    record { below = times_pos m d some near.below; close = omega (arith, ints) }

-- and what has a near multiple is near
pub near_whole : (Q R m x y d : ℤ) → pos 0 <ℤ m → IsNear Q R (m *ℤ x) (m *ℤ y) (m *ℤ d) → IsNear Q R x y d
near_whole Q R m x y d some near =
    let close = near.close in
    let left = ring (Q ∷ m ∷ x ∷ y ∷ []) (V 0 ⊗ ((V 1 ⊗ V 2) ⊗ (V 1 ⊗ V 2) ⊕ (V 1 ⊗ V 3) ⊗ (V 1 ⊗ V 3))) ((V 1 ⊗ V 1) ⊗ (V 0 ⊗ (V 2 ⊗ V 2 ⊕ V 3 ⊗ V 3))) tt in
    let right = ring (R ∷ m ∷ d ∷ []) (V 0 ⊗ ((V 1 ⊗ V 2) ⊗ (V 1 ⊗ V 2))) ((V 1 ⊗ V 1) ⊗ (V 0 ⊗ (V 2 ⊗ V 2))) tt in
    record {
      below = sign_of_pos m d (omega (arith, ints)) near.below;
      close = cancel_lt (m *ℤ m) (Q *ℤ (x *ℤ x +ℤ y *ℤ y)) (R *ℤ (d *ℤ d)) (square_nonneg m) (omega (arith, ints));
    }

-- Q times the square of a way
wide : (Q x y : ℤ) → pos 0 ≤ℤ Q → pos 0 ≤ℤ (Q *ℤ (x *ℤ x +ℤ y *ℤ y))
wide Q x y q = times_nonneg Q (x *ℤ x +ℤ y *ℤ y) q (let a = square_nonneg x in let b = square_nonneg y in omega (arith, ints))

pub steep : (Q R x y d : ℤ) → pos 0 ≤ℤ Q → IsNear Q R x y d → pos 0 <ℤ R
steep Q R x y d q near =
    let close = near.close in
    let least = wide Q x y q in
    let turned = *ℤ_comm R (d *ℤ d) in
    sign_of_pos (d *ℤ d) R (square_nonneg d) (omega (arith, ints))

-- what has no depth isn't near, so where the square is too small the depth isn't 0
pub some_depth : (Q R x y d : ℤ) → pos 0 ≤ℤ Q → lean Q R x y d x y d <ℤ pos 0 → pos 0 ≤ℤ d → IsNear Q R x y d
some_depth Q R x y d q low below = record {
  below = sign_of_pos d d below (let w = wide Q x y q in
      by_depth (d *ℤ d) (square_nonneg d) (λ none. let e : R *ℤ (d *ℤ d) ≡ pos 0 = ap (λ z. R *ℤ z) none ∙ times_zero R in absurd (omega (arith, ints))));
  close = omega (arith, ints);
}
  where
    by_depth : (s : ℤ) → pos 0 ≤ℤ s → (s ≡ pos 0 → pos 0 <ℤ s) → pos 0 <ℤ s
    by_depth s some none = by_lt_z (pos 0) s (λ l. l) (λ l. none (omega (arith, ints)))

pub lean_negative : (Q R x y d x' y' d' : ℤ) → pos 0 ≤ℤ Q → IsNear Q R x y d → IsNear Q R x' y' d' → lean Q R x y d x' y' d' <ℤ pos 0
lean_negative Q R x y d x' y' d' q near near' =
    let S = Q *ℤ (x *ℤ x +ℤ y *ℤ y) in
    let S' = Q *ℤ (x' *ℤ x' +ℤ y' *ℤ y') in
    let D = R *ℤ (d *ℤ d) in
    let D' = R *ℤ (d' *ℤ d') in
    let A = Q *ℤ (x *ℤ x' +ℤ y *ℤ y') in
    let P = R *ℤ (d *ℤ d') in
    let T = Q *ℤ (x *ℤ y' -ℤ y *ℤ x') in
    let some = wide Q x y q in
    let some' = wide Q x' y' q in
    let close = near.close in
    let close' = near'.close in
    let first = times_le S S' D' some (omega (arith, ints)) in
    let turned = *ℤ_comm S D' in
    let last = times_lt D' S D (omega (arith, ints)) close in
    let least = square_nonneg T in
    let xs = Q ∷ x ∷ y ∷ x' ∷ y' ∷ [] in
    let left = ring xs
    ((V 0 ⊗ (V 1 ⊗ V 3 ⊕ V 2 ⊗ V 4)) ⊗ (V 0 ⊗ (V 1 ⊗ V 3 ⊕ V 2 ⊗ V 4)))
    ((V 0 ⊗ (V 1 ⊗ V 1 ⊕ V 2 ⊗ V 2)) ⊗ (V 0 ⊗ (V 3 ⊗ V 3 ⊕ V 4 ⊗ V 4)) ⊖ (V 0 ⊗ (V 1 ⊗ V 4 ⊖ V 2 ⊗ V 3)) ⊗ (V 0 ⊗ (V 1 ⊗ V 4 ⊖ V 2 ⊗ V 3))) tt in
    let right = ring (R ∷ d ∷ d' ∷ []) ((V 0 ⊗ (V 2 ⊗ V 2)) ⊗ (V 0 ⊗ (V 1 ⊗ V 1))) ((V 0 ⊗ (V 1 ⊗ V 2)) ⊗ (V 0 ⊗ (V 1 ⊗ V 2))) tt in
    let deep = times_pos R (d *ℤ d') (steep Q R x y d q near) (times_pos d d' near.below near'.below) in
    let less = root_lt A P (omega (arith, ints)) (omega (arith, ints)) in
    omega (arith, ints)
