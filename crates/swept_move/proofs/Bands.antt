-- The rows and the columns that a move can reach: along either axis, what it removes is nearer to one of its ends than the bit's
-- radius there.
use Rattle.std.proofs.Common.{◌≡◌, ◌⊎◌, ◌≤◌, ◌<◌, inl, inr, ℕ, ℤ, pos, negsuc, neg_ℤ, ◌+ℤ◌, ◌-ℤ◌, ◌*ℤ◌, ◌≤ℤ◌, ◌<ℤ◌, [], ◌∷◌, arith, refl, subst}
use Rattle.std.proofs.lemmas.Int.{ints, by_lt_z}
use Rattle.integer_algebra.proofs.Ring.{ring, V, K, M, ◌⊖◌, ◌⊗◌}
use Rattle.integer_algebra.proofs.Order.{cancel_lt, times_le, times_nonpos}
use Rattle.plane_exact.specs.Cone.{Cone}
use Rattle.plane_exact.specs.Distance.{square}
use Rattle.plane_exact.specs.Heights.{GridPlace}
use Rattle.plane_exact.specs.Moves.{depth_of}
use Rattle.plane_exact.specs.Plane.{GridPoint, rational}
use Rattle.engrave_model.specs.Removal.{Removes, tenfold}
use Rattle.swept_move.specs.Band.{AreLinesAround, IsColumnBand, IsSpan}
use Rattle.swept_move.specs.Dip.{move_of}
use Rattle.swept_move.specs.Row.{IsBand}
use Rattle.swept_move.proofs.Cuts.{removed_is, removes_is, same_ways}
use Rattle.swept_move.proofs.Dips.{Reaches}
use Rattle.swept_move.proofs.Hits.{IsNear}
use Rattle.swept_move.proofs.Middles.{near_both}
use Rattle.swept_move.proofs.Removing.{depth_least}

-- ---- one end

pub span_of_lines : (cone : Cone) (z : ℤ) (depth : ℕ) (r low high : ℤ) → 1 ≤ cone.sd → (pos cone.sn *ℤ pos depth) <ℤ (pos cone.sd *ℤ (r +ℤ pos 1)) → AreLinesAround z r low high
    → IsSpan cone z depth low high
span_of_lines cone z depth r low high wide radius lines = record {
  lower = λ i near. let first = lines.first in let least = lines.least in
      let close = cancel_lt (pos cone.sd) (z -ℤ pos 10 *ℤ i) (r +ℤ pos 1) (omega (arith, ints)) (omega (arith, ints)) in omega (arith, ints);
  upper = λ i near. let last = lines.last in let most = lines.most in
      let close = cancel_lt (pos cone.sd) (pos 10 *ℤ i -ℤ z) (r +ℤ pos 1) (omega (arith, ints)) (omega (arith, ints)) in omega (arith, ints);
}

pub span_same : {cone : Cone} {y z low high : ℤ} {a b : ℕ} → y ≡ z → a ≡ b → IsSpan cone y a low high → IsSpan cone z b low high
span_same {cone = cone} {z = z} {low = low} {high = high} {a = a} at depth span = subst (λ n. IsSpan cone z n low high) depth (subst (λ z. IsSpan cone z a low high) at span)

-- an end that isn't below the surface
pub not_below : (h : ℤ) → ¬ (0 < depth_of h) → pos 0 ≤ℤ h
not_below (pos n) _ = omega (arith, ints)
not_below (negsuc n) deep = absurd (deep (omega arith))

-- ---- both ends

one_above : (l m a b : ℤ) → pos 0 ≤ℤ l → pos 0 ≤ℤ m → pos 0 <ℤ (l *ℤ a +ℤ m *ℤ b) → (pos 0 <ℤ a) ⊎ (pos 0 <ℤ b)
one_above l m a b start finish some =
    by_lt_z (pos 0) a inl (λ low. inr (by_lt_z (pos 0) b (λ l. l) (λ low'.
    let p = times_nonpos l a start low in let q = times_nonpos m b finish low' in absurd (omega (arith, ints)))))

module _ (cone : Cone) (a b h k : ℤ) (low high low' high' : ℤ) (span : IsSpan cone a (depth_of h) low high) (span' : IsSpan cone b (depth_of k) low' high') where
  -- a line that holds a point near to a place between the ends is in the span of one of them
  in_spans : (i x x' : ℤ) → Reaches (square (pos cone.sd)) (square (pos cone.sn)) x (a -ℤ pos 10 *ℤ i) (neg_ℤ h) x' (b -ℤ pos 10 *ℤ i) (neg_ℤ k)
      → ((low ≤ℤ i) ⊎ (low' ≤ℤ i)) × ((i ≤ℤ high) ⊎ (i ≤ℤ high'))
  in_spans i x x' reached =
      let sd = pos cone.sd in
      let sn = pos cone.sn in
      let near = near_both cone x _ _ x' _ _ reached in
      let deeper : (h : ℤ) → (sn *ℤ neg_ℤ h) ≤ℤ (sn *ℤ pos (depth_of h)) = λ h. times_le sn (neg_ℤ h) (pos (depth_of h)) (omega (arith, ints)) (depth_least h) in
      let from = deeper h in
      let to = deeper k in
      let turn : (a : ℤ) → sd *ℤ (pos 10 *ℤ i -ℤ a) ≡ neg_ℤ (sd *ℤ (a -ℤ pos 10 *ℤ i)) = λ a. ring (sd ∷ i ∷ a ∷ []) (V 0 ⊗ (K (pos 10) ⊗ V 1 ⊖ V 2)) (M (V 0 ⊗ (V 2 ⊖ K (pos 10) ⊗ V 1))) tt in
      let turned = turn a in
      let turned' = turn b in (
        elim (one_above reached.l reached.m _ _ reached.start reached.finish near.0) [
          | inl some ↦ inl (span.lower i (omega (arith, ints)))
          | inr some ↦ inr (span'.lower i (omega (arith, ints)))
        ],
        elim (one_above reached.l reached.m _ _ reached.start reached.finish near.1) [
          | inl some ↦ inl (span.upper i (omega (arith, ints)))
          | inr some ↦ inr (span'.upper i (omega (arith, ints)))
        ],
      )

  -- and so is each line from the lesser of the least to the greater of the greatest
  in_joined : (i x x' l u : ℤ) → Reaches (square (pos cone.sd)) (square (pos cone.sn)) x (a -ℤ pos 10 *ℤ i) (neg_ℤ h) x' (b -ℤ pos 10 *ℤ i) (neg_ℤ k)
      → (l ≤ℤ low) × (l ≤ℤ low') → (high ≤ℤ u) × (high' ≤ℤ u) → (l ≤ℤ i) × (i ≤ℤ u)
  in_joined i x x' l u reached least greatest =
      let found = in_spans i x x' reached in
      let first = least.0 in
      let last = least.1 in
      let first' = greatest.0 in
      let last' = greatest.1 in (
        elim found.0 [ inl some ↦ omega (arith, ints) | inr some ↦ omega (arith, ints) ],
        elim found.1 [ inl some ↦ omega (arith, ints) | inr some ↦ omega (arith, ints) ],
      )

-- ---- the rows, and the columns

-- rows and columns may change places
near_swapped : (Q R x y d : ℤ) → IsNear Q R x y d → IsNear Q R y x d
near_swapped Q R x y d near =
    let close = near.close in
    let e : x *ℤ x +ℤ y *ℤ y ≡ y *ℤ y +ℤ x *ℤ x = omega (arith, ints) in
    record { below = near.below; close = subst (λ s. (Q *ℤ s) <ℤ (R *ℤ (d *ℤ d))) e near.close }

swapped : {Q R x y d x' y' d' : ℤ} → Reaches Q R x y d x' y' d' → Reaches Q R y x d y' x' d'
swapped reached = record { l = reached.l; m = reached.m; start = reached.start; finish = reached.finish; near = near_swapped _ _ _ _ _ reached.near }

ways : (cone : Cone) (f g : GridPlace) (p : GridPoint) → Removes cone (move_of f g) (rational p)
    → Reaches (square (pos cone.sd)) (square (pos cone.sn)) (f.at.x -ℤ pos 10 *ℤ p.x) (f.at.y -ℤ pos 10 *ℤ p.y) (neg_ℤ f.h) (g.at.x -ℤ pos 10 *ℤ p.x) (g.at.y -ℤ pos 10 *ℤ p.y) (neg_ℤ g.h)
ways cone f g p removed =
    (same_ways cone f g p _ _ _ _ _ _ (record { across = refl; up = refl; depth = refl; across' = refl; up' = refl; depth' = refl })).0
    ((removed_is cone f g (tenfold (rational p))).0 ((removes_is cone f g (rational p)).0 removed))

module _ (cone : Cone) (f g : GridPlace) {low high low' high' l u : ℤ} where
  pub in_rows : IsSpan cone f.at.y (depth_of f.h) low high → IsSpan cone g.at.y (depth_of g.h) low' high' → (l ≤ℤ low) × (l ≤ℤ low') → (high ≤ℤ u) × (high' ≤ℤ u)
      → IsBand cone (move_of f g) l u
  in_rows span span' least greatest p removed = in_joined cone f.at.y g.at.y f.h g.h _ _ _ _ span span' p.y _ _ l u (ways cone f g p removed) least greatest

  pub in_columns : IsSpan cone f.at.x (depth_of f.h) low high → IsSpan cone g.at.x (depth_of g.h) low' high' → (l ≤ℤ low) × (l ≤ℤ low') → (high ≤ℤ u) × (high' ≤ℤ u)
      → IsColumnBand cone (move_of f g) l u
  in_columns span span' least greatest p removed = in_joined cone f.at.x g.at.x f.h g.h _ _ _ _ span span' p.x _ _ l u (swapped (ways cone f g p removed)) least greatest
