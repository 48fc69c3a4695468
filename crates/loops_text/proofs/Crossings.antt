-- Edges that cross: no other way of meeting is one, and which of a drawing's edges do.
use Rattle.std.specs.Prelude.{All}
use Rattle.std.specs.List.{slice_get}
use Rattle.std.proofs.Common.{◌≡◌, ◌≢◌, ◌⊎◌, inl, inr, ℕ, ◌<◌, List, [], ◌∷◌, Some, ℤ, pos, ◌*ℤ◌, ◌<ℤ◌, arith, ap, subst, sym, ◌∙◌}
use Rattle.std.proofs.lemmas.Int.{ints}
use Rattle.std.proofs.lemmas.List.Elements.{All-nil, All-append, All-head, All-tail}
use Rattle.std.proofs.lemmas.Option.{get_or_from_slice_get, slice_get_within}
use Rattle.integer_algebra.proofs.Ring.{ring, V, ◌⊗◌}
use Rattle.integer_algebra.proofs.Order.{cancel_same}
use Rattle.plane_exact.specs.Plane.{GridPoint, RationalPoint, rational}
use Rattle.plane_exact.specs.Meet.{IsEnd, IsMeet, IsSame}
use Rattle.plane_exact.specs.declared.meet.Meet.{Meet}
use Rattle.plane_exact.specs.declared.meet.Meet.TheVariants.{Apart, AtEnds}
use Rattle.plane_exact.specs.declared.point.Seg.{Seg}
use Rattle.engrave_model.specs.Crossing.{IsCrossPair, IsCrossing}
use Rattle.engrave_model.specs.Drawing.{IsDrawing, IsLoop, edges_of, edges_of_loop}

-- ---- the kinds of meeting exclude each other

-- one coordinate of two points that are both the point (u / o)
same_coordinate : (v w u p q o : ℤ) → pos 0 <ℤ o → v *ℤ o ≡ u *ℤ p → w *ℤ o ≡ u *ℤ q → v *ℤ q ≡ w *ℤ p
same_coordinate v w u p q o some v_is w_is =
    cancel_same o (v *ℤ q) (w *ℤ p) some
    (ring (v ∷ q ∷ o ∷ []) (V 2 ⊗ (V 0 ⊗ V 1)) ((V 0 ⊗ V 2) ⊗ V 1) tt
    ∙ ap (λ z. z *ℤ q) v_is
    ∙ ring (u ∷ p ∷ q ∷ []) ((V 0 ⊗ V 1) ⊗ V 2) ((V 0 ⊗ V 2) ⊗ V 1) tt
    ∙ ap (λ z. z *ℤ p) (sym w_is)
    ∙ ring (w ∷ p ∷ o ∷ []) ((V 0 ⊗ V 2) ⊗ V 1) (V 2 ⊗ (V 0 ⊗ V 1)) tt)

same_both : (v w u : RationalPoint) → IsSame v u → IsSame w u → IsSame v w
same_both v w u v_is w_is =
    let some = u.positive in
    record {
      across = same_coordinate v.x w.x u.x v.over w.over u.over (omega (arith, ints)) v_is.across w_is.across;
      up = same_coordinate v.y w.y u.y v.over w.over u.over (omega (arith, ints)) v_is.up w_is.up;
    }

turned : (v w : RationalPoint) → IsSame v w → IsSame w v
turned v w is = record { across = sym is.across; up = sym is.up }

end_of_same : (s : Seg) (v w : RationalPoint) → IsSame v w → IsEnd s w → IsEnd s v
end_of_same s v w is (inl end) = inl (same_both v (rational s.a) w is (turned w (rational s.a) end))
end_of_same s v w is (inr end) = inr (same_both v (rational s.b) w is (turned w (rational s.b) end))

apart_clear : (s t : Seg) → IsMeet s t Apart → ¬ IsCrossing s t
apart_clear s t apart (inl one) = apart one.point one.common
apart_clear s t apart (inr more) = apart more.point more.common

ends_clear : (s t : Seg) → IsMeet s t AtEnds → ¬ IsCrossing s t
ends_clear s t ends (inl one) =
    let is = ends.only one.point one.common in
    one.these (end_of_same s one.point ends.point is ends.these.0, end_of_same t one.point ends.point is ends.these.1)
ends_clear s t ends (inr more) = more.differ (same_both more.point more.other ends.point (ends.only more.point more.common) (ends.only more.other more.also))

pub other_clear : (s t : Seg) (m : Meet) → IsMeet s t m → (m ≡ Apart) ⊎ (m ≡ AtEnds) → ¬ IsCrossing s t
other_clear s t m is (inl apart) = apart_clear s t (subst (IsMeet s t) apart is)
other_clear s t m is (inr ends) = ends_clear s t (subst (IsMeet s t) ends is)

-- ---- the ends of a drawing's edges differ

pub edges_apart : (loops : List (List GridPoint)) → IsDrawing loops → All (λ e. e.a ≢ e.b) (edges_of loops)
edges_apart loops is = each loops is.each
  where
    each : (loops : List (List GridPoint)) → All IsLoop loops → All (λ e. e.a ≢ e.b) (edges_of loops)
    each [] all = All-nil (λ e. e.a ≢ e.b)
    each (points ∷ loops) all =
        All-append (λ e. e.a ≢ e.b) (edges_of_loop points) (edges_of loops) (All-head IsLoop points loops all).distinct (each loops (All-tail IsLoop points loops all))

-- the ends of the edge of a number differ
pub edge_apart : (loops : List (List GridPoint)) (e : ℕ) (edge : Seg) → IsDrawing loops → slice_get (edges_of loops) e ≡ Some edge → edge.a ≢ edge.b
edge_apart loops e edge is read =
    subst (λ e. e.a ≢ e.b) (get_or_from_slice_get (edges_of loops) e edge edge read)
    (edges_apart loops is e edge (slice_get_within (edges_of loops) e edge read))

-- ---- pairs of edges with a given first

module _ (edges : List Seg) (i : ℕ) (first : Seg) (is_first : slice_get edges i ≡ Some first) where
  pub same_first : (j : ℕ) (pair : IsCrossPair edges i j) → pair.first ≡ first
  same_first j pair = sym (get_or_from_slice_get edges i pair.first first pair.is_first) ∙ get_or_from_slice_get edges i first first is_first

  pub clear_judged : (j : ℕ) (second : Seg) → slice_get edges j ≡ Some second → (i < j → ¬ IsCrossing first second) → ¬ IsCrossPair edges i j
  clear_judged j second is clear pair =
      let same : pair.second ≡ second = sym (get_or_from_slice_get edges j pair.second second pair.is_second) ∙ get_or_from_slice_get edges j second second is in
      clear pair.order (subst (λ s. IsCrossing s second) (same_first j pair) (subst (IsCrossing pair.first) same pair.crossing))

  pub crossed_found : (j : ℕ) (second : Seg) → slice_get edges j ≡ Some second → i < j → IsCrossing first second → IsCrossPair edges i j
  crossed_found j second is order crossing = record { first = first; second = second; order = order; is_first = is_first; is_second = is; crossing = crossing }
