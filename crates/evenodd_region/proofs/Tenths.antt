-- Points of the plane of the drawing, and the same in tenths of a grid unit, in which moves are given.
use Rattle.std.proofs.Common.{◌≡◌, ℤ, pos, ◌+ℤ◌, ◌-ℤ◌, ◌*ℤ◌, [], ◌∷◌, arith, ◌∙◌}
use Rattle.std.proofs.lemmas.Int.{ints}
use Rattle.integer_algebra.proofs.Ring.{ring, V, K, ◌⊕◌, ◌⊖◌, ◌⊗◌}
use Rattle.integer_algebra.proofs.Order.{cancel_same}
use Rattle.plane_exact.specs.Plane.{RationalPoint}
use Rattle.engrave_model.specs.Removal.{tenfold}
use Rattle.plane_exact.specs.Plane.{IsOnPath}

-- a point that is given in tenths, in grid units
unfoldable pub tenth : RationalPoint → RationalPoint
tenth v = record { x = v.x; y = v.y; over = v.over *ℤ pos 10; positive = let p = v.positive in omega (arith, ints) }

-- one coordinate of a path between two such points
both_tenths : (k n v m w o u q : ℤ)
    → (n *ℤ ((m *ℤ pos 10) *ℤ (o *ℤ pos 10))) *ℤ u ≡ q *ℤ ((n -ℤ k) *ℤ ((o *ℤ pos 10) *ℤ v) +ℤ k *ℤ ((m *ℤ pos 10) *ℤ w))
    → (n *ℤ (m *ℤ o)) *ℤ (pos 10 *ℤ u) ≡ q *ℤ ((n -ℤ k) *ℤ (o *ℤ v) +ℤ k *ℤ (m *ℤ w))
both_tenths k n v m w o u q on =
    let xs = k ∷ n ∷ v ∷ m ∷ w ∷ o ∷ u ∷ q ∷ [] in
    cancel_same (pos 10) _ _ (record { lt = tt })
    (ring xs (K (pos 10) ⊗ ((V 1 ⊗ (V 3 ⊗ V 5)) ⊗ (K (pos 10) ⊗ V 6))) ((V 1 ⊗ ((V 3 ⊗ K (pos 10)) ⊗ (V 5 ⊗ K (pos 10)))) ⊗ V 6) tt
    ∙ on
    ∙ ring xs (V 7 ⊗ ((V 1 ⊖ V 0) ⊗ ((V 5 ⊗ K (pos 10)) ⊗ V 2) ⊕ V 0 ⊗ ((V 3 ⊗ K (pos 10)) ⊗ V 4)))
    (K (pos 10) ⊗ (V 7 ⊗ ((V 1 ⊖ V 0) ⊗ (V 5 ⊗ V 2) ⊕ V 0 ⊗ (V 3 ⊗ V 4)))) tt)

-- and of one from such a point to another point
first_tenths : (k n v m w o u q : ℤ)
    → (n *ℤ ((m *ℤ pos 10) *ℤ o)) *ℤ u ≡ q *ℤ ((n -ℤ k) *ℤ (o *ℤ v) +ℤ k *ℤ ((m *ℤ pos 10) *ℤ w))
    → (n *ℤ (m *ℤ o)) *ℤ (pos 10 *ℤ u) ≡ q *ℤ ((n -ℤ k) *ℤ (o *ℤ v) +ℤ k *ℤ (m *ℤ (pos 10 *ℤ w)))
first_tenths k n v m w o u q on =
    let xs = k ∷ n ∷ v ∷ m ∷ w ∷ o ∷ u ∷ q ∷ [] in
    ring xs ((V 1 ⊗ (V 3 ⊗ V 5)) ⊗ (K (pos 10) ⊗ V 6)) ((V 1 ⊗ ((V 3 ⊗ K (pos 10)) ⊗ V 5)) ⊗ V 6) tt
    ∙ on
    ∙ ring xs (V 7 ⊗ ((V 1 ⊖ V 0) ⊗ (V 5 ⊗ V 2) ⊕ V 0 ⊗ ((V 3 ⊗ K (pos 10)) ⊗ V 4)))
    (V 7 ⊗ ((V 1 ⊖ V 0) ⊗ (V 5 ⊗ V 2) ⊕ V 0 ⊗ (V 3 ⊗ (K (pos 10) ⊗ V 4)))) tt

-- the path between two places of the tip, as it is given in tenths
pub path_of_tenths : (v w u : RationalPoint) → IsOnPath (tenth v) (tenth w) u → IsOnPath v w (tenfold u)
unfolding tenth
path_of_tenths v w u on = record {
  at = on.at;
  across = both_tenths on.at.k on.at.n v.x v.over w.x w.over u.x u.over on.across;
  up = both_tenths on.at.k on.at.n v.y v.over w.y w.over u.y u.over on.up;
}

-- the path from a place of the tip to a point of the drawing
pub path_from_tenths : (v w u : RationalPoint) → IsOnPath (tenth v) w u → IsOnPath v (tenfold w) (tenfold u)
unfolding tenth
path_from_tenths v w u on = record {
  at = on.at;
  across = first_tenths on.at.k on.at.n v.x v.over w.x w.over u.x u.over on.across;
  up = first_tenths on.at.k on.at.n v.y v.over w.y w.over u.y u.over on.up;
}
