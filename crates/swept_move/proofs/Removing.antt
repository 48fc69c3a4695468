-- From a point of the edge that the bit's disc holds to a hit.
use Rattle.std.proofs.Common.{◌≡◌, ℤ, pos, negsuc, ◌+ℤ◌, ◌-ℤ◌, ◌*ℤ◌, ◌≤ℤ◌, ◌<ℤ◌, neg_ℤ, [], ◌∷◌, arith, ap, ap₂, ◌∙◌}
use Rattle.std.proofs.lemmas.Int.{ints}
use Rattle.integer_algebra.proofs.Ring.{ring, V, M, ◌⊕◌, ◌⊖◌, ◌⊗◌}
use Rattle.integer_algebra.proofs.Order.{square_nonneg, times_pos, times_lt, cancel_lt}
use Rattle.plane_exact.specs.Distance.{square}
use Rattle.plane_exact.specs.Moves.{depth_of}
use Rattle.swept_move.proofs.Hits.{IsNear, away}

-- the depth of the tests is never less than the true one
pub depth_least : (h : ℤ) → neg_ℤ h ≤ℤ pos (depth_of h)
depth_least (pos n) = omega (arith, ints)
depth_least (negsuc n) = omega (arith, ints)

-- one coordinate of the way from a point w / m of the edge to the place of the moment k / n, times o and its denominators
pub way_there : (f g a b w m k n j o : ℤ) → o *ℤ w ≡ m *ℤ (o *ℤ a +ℤ j *ℤ (b -ℤ a))
    → o *ℤ (w *ℤ n -ℤ ((n -ℤ k) *ℤ f +ℤ k *ℤ g) *ℤ m) ≡ neg_ℤ (m *ℤ away (f -ℤ a) (g -ℤ f) (b -ℤ a) (k *ℤ o) (j *ℤ n) (n *ℤ o))
way_there f g a b w m k n j o on =
    let xs = f ∷ g ∷ a ∷ b ∷ w ∷ m ∷ k ∷ n ∷ j ∷ o ∷ [] in
    let place = (V 7 ⊖ V 6) ⊗ V 0 ⊕ V 6 ⊗ V 1 in
    ring xs (V 9 ⊗ (V 4 ⊗ V 7 ⊖ place ⊗ V 5)) (V 7 ⊗ (V 9 ⊗ V 4) ⊖ V 9 ⊗ (place ⊗ V 5)) tt
    ∙ ap (λ z. n *ℤ z -ℤ o *ℤ (((n -ℤ k) *ℤ f +ℤ k *ℤ g) *ℤ m)) on
    ∙ ring xs (V 7 ⊗ (V 5 ⊗ (V 9 ⊗ V 2 ⊕ V 8 ⊗ (V 3 ⊖ V 2))) ⊖ V 9 ⊗ (place ⊗ V 5))
    (M (V 5 ⊗ ((V 7 ⊗ V 9) ⊗ (V 0 ⊖ V 2) ⊕ (V 6 ⊗ V 9) ⊗ (V 1 ⊖ V 0) ⊖ (V 8 ⊗ V 7) ⊗ (V 3 ⊖ V 2)))) tt

-- a point at the way X / m, Y / m, in the disc of the depth D / n, times o
pub near_there : (sd sn n m o X Y D x y : ℤ) → pos 0 <ℤ o → o *ℤ X ≡ neg_ℤ (m *ℤ x) → o *ℤ Y ≡ neg_ℤ (m *ℤ y) → pos 0 <ℤ D
    → ((square X +ℤ square Y) *ℤ square (sd *ℤ n)) <ℤ (square (sn *ℤ D) *ℤ square (n *ℤ m)) → IsNear (square sd) (square sn) x y (o *ℤ D)
near_there sd sn n m o X Y D x y some ex ey below close =
    let N = n *ℤ m in
    let scaled = times_lt (o *ℤ o) ((square X +ℤ square Y) *ℤ square (sd *ℤ n)) (square (sn *ℤ D) *ℤ square N) (times_pos o o some some) close in
    let left : (o *ℤ o) *ℤ ((square X +ℤ square Y) *ℤ square (sd *ℤ n)) ≡ square N *ℤ (square sd *ℤ (x *ℤ x +ℤ y *ℤ y)) =
    ring (o ∷ X ∷ Y ∷ sd ∷ n ∷ []) ((V 0 ⊗ V 0) ⊗ ((V 1 ⊗ V 1 ⊕ V 2 ⊗ V 2) ⊗ ((V 3 ⊗ V 4) ⊗ (V 3 ⊗ V 4))))
    (((V 0 ⊗ V 1) ⊗ (V 0 ⊗ V 1) ⊕ (V 0 ⊗ V 2) ⊗ (V 0 ⊗ V 2)) ⊗ ((V 3 ⊗ V 4) ⊗ (V 3 ⊗ V 4))) tt
    ∙ ap₂ (λ u v. (u *ℤ u +ℤ v *ℤ v) *ℤ square (sd *ℤ n)) ex ey
    ∙ ring (m ∷ x ∷ y ∷ sd ∷ n ∷ []) ((M (V 0 ⊗ V 1) ⊗ M (V 0 ⊗ V 1) ⊕ M (V 0 ⊗ V 2) ⊗ M (V 0 ⊗ V 2)) ⊗ ((V 3 ⊗ V 4) ⊗ (V 3 ⊗ V 4)))
    (((V 4 ⊗ V 0) ⊗ (V 4 ⊗ V 0)) ⊗ ((V 3 ⊗ V 3) ⊗ (V 1 ⊗ V 1 ⊕ V 2 ⊗ V 2))) tt in
    let right = ring (o ∷ sn ∷ D ∷ N ∷ []) ((V 0 ⊗ V 0) ⊗ (((V 1 ⊗ V 2) ⊗ (V 1 ⊗ V 2)) ⊗ (V 3 ⊗ V 3)))
    ((V 3 ⊗ V 3) ⊗ ((V 1 ⊗ V 1) ⊗ ((V 0 ⊗ V 2) ⊗ (V 0 ⊗ V 2)))) tt in
    record {
      below = times_pos o D some below;
      close = cancel_lt (square N) (square sd *ℤ (x *ℤ x +ℤ y *ℤ y)) (square sn *ℤ ((o *ℤ D) *ℤ (o *ℤ D))) (square_nonneg N) (omega (arith, ints));
    }
