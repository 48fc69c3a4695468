-- A safe move that isn't too deep is clear: no moment of it removes a point of an edge, and the place of its first end below the
-- surface, which it removes, is inside.
use Rattle.std.specs.Prelude.{All}
use Rattle.std.proofs.Common.{◌≡◌, ◌≤◌, ◌<◌, ℕ, List, pos, ◌*ℤ◌, ◌<ℤ◌, arith, inl, inr, Bool, true, false, refl, nat_lt, ap, ap₂, length, [], ◌∷◌, ◌∙◌, sym}
use Rattle.std.proofs.lemmas.Int.{ints}
use Rattle.std.proofs.lemmas.List.{get_or_default}
use Rattle.integer_algebra.proofs.Ring.{ring, V, K, ◌⊗◌}
use Rattle.plane_exact.specs.Cone.{Cone}
use Rattle.plane_exact.specs.Moves.{depth_of, first_deep, IsDeep}
use Rattle.plane_exact.specs.Plane.{IsBetween, RationalPoint}
use Rattle.plane_exact.specs.declared.moves.Move.{Move}
use Rattle.plane_exact.specs.declared.point.Seg.{Seg}
use Rattle.engrave_model.specs.Inside.{IsInside, IsOnOutline}
use Rattle.engrave_model.specs.Removal.{IsSafe, from_tenths, place_at, tenfold}
use Rattle.evenodd_region.proofs.Discs.{IsSamePlace}
use Rattle.evenodd_region.proofs.Sparing.{place_removed}
use Rattle.evenodd_region.proofs.Tenths.{tenth}
use Rattle.evenodd_region.proofs.Ways.{deep_end}
use Rattle.swept_move.specs.Clear.{IsClear, PassesEdge}
use Rattle.swept_move.proofs.Moves.{cuts_or_passes}
use Rattle.std.specs.Prelude.{slice_index_or}
use Rattle.depth_rule.specs.Law.{OwnPlaceLaw, SafeMoveLaw}

-- ---- the place of the first end below the surface

slope_some : (cone : Cone) → 1 ≤ cone.sn → pos 0 <ℤ pos cone.sn
slope_some cone some = omega (arith, ints)

-- a place in tenths, over another denominator
same_in_tenths : (p : RationalPoint) (v : RationalPoint) → p ≡ tenth v → IsSamePlace v (tenfold p)
unfolding tenth
same_in_tenths p v same = record {
  across =
      ring (v.over ∷ p.x ∷ []) (V 0 ⊗ (K (pos 10) ⊗ V 1)) ((V 0 ⊗ K (pos 10)) ⊗ V 1) tt
      ∙ ap₂ (λ o x. o *ℤ x) (sym (ap (λ w. w.over) same)) (ap (λ w. w.x) same);
  up =
      ring (v.over ∷ p.y ∷ []) (V 0 ⊗ (K (pos 10) ⊗ V 1)) ((V 0 ⊗ K (pos 10)) ⊗ V 1) tt
      ∙ ap₂ (λ o y. o *ℤ y) (sym (ap (λ w. w.over) same)) (ap (λ w. w.y) same);
}

pub own_place_removed : OwnPlaceLaw
own_place_removed cone mv some deep =
    let first = deep_end mv deep in
    let p = from_tenths (first_deep mv) in
    place_removed cone mv (slope_some cone some) p
    (record { moment = first.moment; deep = first.deep; same = same_in_tenths p (place_at mv first.moment) first.same })

-- ---- the edges

-- a point of an edge is on the outline
pub on_outline : (edges : List Seg) (e : ℕ) (d : Seg) (w : RationalPoint) → e < length edges
    → IsBetween (slice_index_or edges e d).a (slice_index_or edges e d).b w → IsOnOutline edges w
on_outline edges e d w there on = (e, slice_index_or edges e d, there, get_or_default edges e (slice_index_or edges e d) d there, on)

module _ (edges : List Seg) (cone : Cone) (mv : Move) (some : 1 ≤ cone.sn) (safe : IsSafe edges cone mv) where
  all_pass : IsDeep mv → All (PassesEdge cone mv) edges
  all_pass deep e d there =
      elim (cuts_or_passes cone mv (slice_index_or edges e d) some deep) [
        | inl cut ↦ absurd ((safe cut.moment cut.point cut.removed).off_outline (on_outline edges e d cut.point there cut.on))
        | inr passes ↦ passes
      ]

  starts_inside : IsDeep mv → IsInside edges (from_tenths (first_deep mv))
  starts_inside deep = let own = own_place_removed cone mv some deep in safe own.moment (from_tenths (first_deep mv)) own.removed

pub safe_is_clear : SafeMoveLaw
safe_is_clear edges cone mv some narrow safe = by_test (nat_lt 0 (depth_of mv.from.h)) refl (nat_lt 0 (depth_of mv.to.h)) refl
  where
    deep_is_clear : IsDeep mv → IsClear edges cone mv
    deep_is_clear deep = inr (record { narrow = narrow; passes = all_pass edges cone mv some safe deep; inside = starts_inside edges cone mv some safe deep })

    by_test : (from : Bool) → nat_lt 0 (depth_of mv.from.h) ≡ from → (to : Bool) → nat_lt 0 (depth_of mv.to.h) ≡ to → IsClear edges cone mv
    by_test true is to also = deep_is_clear (inl (grind arith))
    by_test false is true also = deep_is_clear (inr (grind arith))
    by_test false is false also = inl (λ deep. elim deep [ inl from ↦ absurd (grind arith) | inr to ↦ absurd (grind arith) ])
