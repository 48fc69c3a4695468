-- The least box that holds the starts of edges, and that these are the points of the drawing.
use Rattle.std.specs.Prelude.{Any, map, MatchOption, Option, None, Some}
use Rattle.std.specs.Int.{int_max, int_min}
use Rattle.std.specs.List.{AllWithin}
use Rattle.std.proofs.Common.{◌≡◌, ◌⊎◌, ℕ, ◌+◌, ◌<◌, ◌≤◌, List, [], ◌∷◌, ◌++◌, length, get_or, ℤ, refl, ap, sym, subst, ◌∙◌, inl, inr, arith}
use Rattle.std.proofs.lemmas.Int.{ints, clamps, by_lt_z}
use Rattle.std.proofs.lemmas.List.{get_or-map, length-map}
use Rattle.std.proofs.lemmas.List.Elements.{All-map, AllWithin-more, AllWithin-upto, All-from_all_within, at_read}
use Rattle.plane_exact.specs.Plane.{GridPoint}
use Rattle.plane_exact.specs.declared.point.Seg.{Seg}
use Rattle.engrave_model.specs.Drawing.{edges_back_to, edges_of_loop, edges_of}
use Rattle.depth_rule.specs.declared.bounds.Bounds.{Bounds}
use Rattle.evenodd_region.specs.Bounds.{IsBoxOf, IsInBox, points_of}

-- ---- the points of a drawing are the starts of its edges

abbrev pub starts : List Seg → List GridPoint
starts edges = map (λ e. e.a) edges

starts_back_to : (first : GridPoint) (points : List GridPoint) → starts (edges_back_to first points) ≡ points
starts_back_to first [] = refl
starts_back_to first (p ∷ []) = refl
starts_back_to first (p ∷ q ∷ points) = ap (λ ps. p ∷ ps) (starts_back_to first (q ∷ points))

starts_of_loop : (points : List GridPoint) → starts (edges_of_loop points) ≡ points
starts_of_loop [] = refl
starts_of_loop (p ∷ points) = starts_back_to p (p ∷ points)

starts_append : (es fs : List Seg) → starts (es ++ fs) ≡ starts es ++ starts fs
starts_append [] fs = refl
starts_append (e ∷ es) fs = ap (λ ps. e.a ∷ ps) (starts_append es fs)

pub starts_of : (loops : List (List GridPoint)) → starts (edges_of loops) ≡ points_of loops
starts_of [] = refl
starts_of (points ∷ loops) =
    starts_append (edges_of_loop points) (edges_of loops)
    ∙ ap (λ ps. ps ++ starts (edges_of loops)) (starts_of_loop points)
    ∙ ap (λ ps. points ++ ps) (starts_of loops)

-- ---- the box of the first so many starts

pub record IsBoxSoFar (edges : List Seg) (n : ℕ) (low high : GridPoint) : Type 0 where
  pub within : AllWithin (λ e. IsInBox low high e.a) edges 0 n
  pub left : Any (λ p. p.x ≡ low.x) (starts edges)
  pub right : Any (λ p. p.x ≡ high.x) (starts edges)
  pub bottom : Any (λ p. p.y ≡ low.y) (starts edges)
  pub top : Any (λ p. p.y ≡ high.y) (starts edges)

-- one of two numbers that points have
one_of : (axis : GridPoint → ℤ) (c d : ℤ) (p : GridPoint) (points : List GridPoint) → (d ≡ c) ⊎ (d ≡ axis p)
    → Any (λ q. axis q ≡ c) points → Any (λ q. axis q ≡ axis p) points → Any (λ q. axis q ≡ d) points
one_of axis c d p points (inl is) old new = (old.0, old.1, old.2, old.3, old.4 ∙ sym is)
one_of axis c d p points (inr is) old new = (new.0, new.1, new.2, new.3, new.4 ∙ sym is)

least : (d c a : ℤ) → d ≡ int_min c a → (d ≡ c) ⊎ (d ≡ a)
least d c a is = by_lt_z a c (λ l. inr (omega (arith, ints, clamps))) (λ l. inl (omega (arith, ints, clamps)))

greatest : (d c a : ℤ) → d ≡ int_max c a → (d ≡ c) ⊎ (d ≡ a)
greatest d c a is = by_lt_z a c (λ l. inl (omega (arith, ints, clamps))) (λ l. inr (omega (arith, ints, clamps)))

module _ (edges : List Seg) (n : ℕ) (low high low' high' : GridPoint) (e : Seg) (below : n < length edges) (is : e ≡ get_or edges n e)
    (left : low'.x ≡ int_min low.x e.a.x) (bottom : low'.y ≡ int_min low.y e.a.y) (right : high'.x ≡ int_max high.x e.a.x) (top : high'.y ≡ int_max high.y e.a.y) where
  wider : (p : GridPoint) → IsInBox low high p → IsInBox low' high' p
  wider p box =
      let across = box.across in
      let up = box.up in
      record {
        across = record { low = omega (arith, ints, clamps); high = omega (arith, ints, clamps) };
        up = record { low = omega (arith, ints, clamps); high = omega (arith, ints, clamps) };
      }

  -- the start is in the box that was made wider for it
  here : IsInBox low' high' e.a
  here = record {
    across = record { low = omega (arith, ints, clamps); high = omega (arith, ints, clamps) };
    up = record { low = omega (arith, ints, clamps); high = omega (arith, ints, clamps) };
  }

  has_it : (axis : GridPoint → ℤ) → Any (λ q. axis q ≡ axis e.a) (starts edges)
  has_it axis = (n, e.a, rw length-map below, get_or-map (λ (e : Seg). e.a) edges n e e.a below ∙ ap (λ (e : Seg). e.a) (sym is), refl)

  pub box_more : IsBoxSoFar edges n low high → IsBoxSoFar edges (n + 1) low' high'
  box_more box = record {
    within = AllWithin-more (λ e. IsInBox low' high' e.a) edges 0 n (λ k d from to. wider _ (box.within k d from to))
        (at_read edges (λ e. IsInBox low' high' e.a) n e below is here);
    left = one_of (λ p. p.x) low.x low'.x e.a (starts edges) (least _ _ _ left) box.left (has_it (λ p. p.x));
    right = one_of (λ p. p.x) high.x high'.x e.a (starts edges) (greatest _ _ _ right) box.right (has_it (λ p. p.x));
    bottom = one_of (λ p. p.y) low.y low'.y e.a (starts edges) (least _ _ _ bottom) box.bottom (has_it (λ p. p.y));
    top = one_of (λ p. p.y) high.y high'.y e.a (starts edges) (greatest _ _ _ top) box.top (has_it (λ p. p.y));
  }

-- all starts are in the box of as many as there are
pub box_of_all : (edges : List Seg) (n : ℕ) (low high : GridPoint) → length edges ≤ n → IsBoxSoFar edges n low high → IsBoxOf (starts edges) low high
box_of_all edges n low high whole box = record {
  within = All-map (IsInBox low high) (λ (e : Seg). e.a) edges
      (All-from_all_within (λ e. IsInBox low high e.a) edges (AllWithin-upto (λ e. IsInBox low high e.a) edges 0 n (length edges) whole box.within));
  left = box.left;
  right = box.right;
  bottom = box.bottom;
  top = box.top;
}

-- what the starts of a drawing's edges have for a box, its points have
pub box_of_drawing : (loops : List (List GridPoint)) (edges : List Seg) (bounds : Option Bounds) → edges ≡ edges_of loops
    → MatchOption bounds (edges ≡ []) (λ b. IsBoxOf (starts edges) b.low b.high) → MatchOption bounds (points_of loops ≡ []) (λ b. IsBoxOf (points_of loops) b.low b.high)
box_of_drawing loops edges None same none = sym (starts_of loops) ∙ ap starts (sym same ∙ none)
box_of_drawing loops edges (Some b) same box = subst (λ ps. IsBoxOf ps b.low b.high) (ap starts same ∙ starts_of loops) box
