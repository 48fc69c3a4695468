-- Levels: a place of a straight path and a place of an edge at one height, and the gap between them.
--
-- All points are weighted sums of the ends, in homogeneous coordinates: s v + t w of a path from v to w is the rational point
-- (s v.x + t w.x, s v.y + t w.y) over s v.over + t w.over. So nothing is ever divided.
use Rattle.std.proofs.Common.{◌≡◌, ℤ, pos, neg_ℤ, ◌+ℤ◌, ◌-ℤ◌, ◌*ℤ◌, ◌≤ℤ◌, ◌<ℤ◌, [], ◌∷◌, arith, ap, ap₂, sym, subst, ◌∙◌}
use Rattle.std.proofs.lemmas.Int.{ints}
use Rattle.integer_algebra.proofs.Ring.{ring, V, K, M, ◌⊕◌, ◌⊖◌, ◌⊗◌}
use Rattle.integer_algebra.proofs.Order.{mix, mix_nonneg, times_nonneg, times_pos}
use Rattle.plane_exact.specs.Plane.{GridPoint, RationalPoint, IsBetween}
use Rattle.plane_exact.specs.Plane.{IsOnPath}

-- weights of two ends
pub record Weights : Type 0 where
  pub first : ℤ
  pub last : ℤ
  pub first_sign : pos 0 ≤ℤ first
  pub last_sign : pos 0 ≤ℤ last

-- the sum of two numbers by their weights
abbrev pub sum_of : Weights → ℤ → ℤ → ℤ
sum_of of s t = mix of.first of.last s t

-- the weights of the ends in the other order
abbrev turned : Weights → Weights
turned of = record { first = of.last; last = of.first; first_sign = of.last_sign; last_sign = of.first_sign }

-- The weights of the path's ends and those of the edge's ends give two places at one height and over one denominator; the
-- gap is how far the edge's place is to the right of the path's, times that denominator.
pub record IsLevel (v w : RationalPoint) (a b : GridPoint) (gap : ℤ) : Type 0 where
  pub path : Weights
  pub edge : Weights
  pub some : pos 1 ≤ℤ (edge.first +ℤ edge.last)
  pub over : sum_of path v.over w.over ≡ edge.first +ℤ edge.last
  pub height : sum_of path v.y w.y ≡ sum_of edge a.y b.y
  pub apart : gap ≡ sum_of edge a.x b.x -ℤ sum_of path v.x w.x

module _ (v w : RationalPoint) (a b : GridPoint) (gap : ℤ) where
  -- the path turned round, and the edge
  pub path_turned : IsLevel w v a b gap → IsLevel v w a b gap
  path_turned l =
      let over = l.over in
      let height = l.height in
      let apart = l.apart in
      record { path = turned l.path; edge = l.edge; some = l.some; over = omega (arith, ints); height = omega (arith, ints); apart = omega (arith, ints) }

  pub edge_turned : IsLevel v w b a gap → IsLevel v w a b gap
  edge_turned l =
      let some = l.some in
      let over = l.over in
      let height = l.height in
      let apart = l.apart in
      record { path = l.path; edge = turned l.edge; some = omega (arith, ints); over = omega (arith, ints); height = omega (arith, ints); apart = omega (arith, ints) }

-- ---- weighted sums of two levels

pub mix_some : (h g s t : ℤ) → pos 0 <ℤ h → pos 0 ≤ℤ g → pos 1 ≤ℤ s → pos 0 ≤ℤ t → pos 1 ≤ℤ mix h g s t
mix_some h g s t h_sign g_sign s_sign t_sign =
    let p = times_pos h s h_sign (omega (arith, ints)) in
    let q = times_nonneg g t g_sign t_sign in
    omega (arith, ints)

exchanged : (h g s s' t t' p q : ℤ) → mix (mix h g s s') (mix h g t t') p q ≡ mix h g (mix s t p q) (mix s' t' p q)
exchanged h g s s' t t' p q =
    ring (h ∷ g ∷ s ∷ s' ∷ t ∷ t' ∷ p ∷ q ∷ [])
    ((V 0 ⊗ V 2 ⊕ V 1 ⊗ V 3) ⊗ V 6 ⊕ (V 0 ⊗ V 4 ⊕ V 1 ⊗ V 5) ⊗ V 7)
    (V 0 ⊗ (V 2 ⊗ V 6 ⊕ V 4 ⊗ V 7) ⊕ V 1 ⊗ (V 3 ⊗ V 6 ⊕ V 5 ⊗ V 7)) tt

parted : (h g s s' t t' : ℤ) → mix h g (s +ℤ t) (s' +ℤ t') ≡ mix h g s s' +ℤ mix h g t t'
parted h g s s' t t' =
    ring (h ∷ g ∷ s ∷ s' ∷ t ∷ t' ∷ []) (V 0 ⊗ (V 2 ⊕ V 4) ⊕ V 1 ⊗ (V 3 ⊕ V 5)) ((V 0 ⊗ V 2 ⊕ V 1 ⊗ V 3) ⊕ (V 0 ⊗ V 4 ⊕ V 1 ⊗ V 5)) tt

-- two gaps, each weighted by the other, cancel
cancelled : (g h e p e' p' : ℤ) → g ≡ e -ℤ p → h ≡ e' -ℤ p' → pos 0 ≡ mix h (neg_ℤ g) e e' -ℤ mix h (neg_ℤ g) p p'
cancelled g h e p e' p' first second = sym
    (ring (g ∷ h ∷ e ∷ p ∷ e' ∷ p' ∷ [])
    ((V 1 ⊗ V 2 ⊕ M (V 0) ⊗ V 4) ⊖ (V 1 ⊗ V 3 ⊕ M (V 0) ⊗ V 5))
    (V 1 ⊗ (V 2 ⊖ V 3) ⊕ M (V 0) ⊗ (V 4 ⊖ V 5)) tt
    ∙ ap₂ (mix h (neg_ℤ g)) (sym first) (sym second)
    ∙ ring (g ∷ h ∷ []) (V 1 ⊗ V 0 ⊕ M (V 0) ⊗ V 1) (K (pos 0)) tt)

-- the weighted sum of two weights
mixed : (h g : ℤ) → pos 0 ≤ℤ h → pos 0 ≤ℤ g → Weights → Weights → Weights
mixed h g h_sign g_sign l m = record {
  first = mix h g l.first m.first;
  last = mix h g l.last m.last;
  first_sign = mix_nonneg h g _ _ h_sign g_sign l.first_sign m.first_sign;
  last_sign = mix_nonneg h g _ _ h_sign g_sign l.last_sign m.last_sign;
}

module _ (v w : RationalPoint) (a b : GridPoint) where
  -- Where one level's gap isn't to the right and another's is, path and edge meet: of both levels a weighted sum has no gap.
  pub meeting : (g h : ℤ) → IsLevel v w a b g → IsLevel v w a b h → g ≤ℤ pos 0 → pos 0 <ℤ h → IsLevel v w a b (pos 0)
  unfolding mixed
  meeting g h l m left right =
      let of : ℤ → ℤ → ℤ = mix h (neg_ℤ g) in
      let h_sign : pos 0 ≤ℤ h = omega (arith, ints) in
      let g_sign : pos 0 ≤ℤ neg_ℤ g = omega (arith, ints) in
      let path = mixed h (neg_ℤ g) h_sign g_sign l.path m.path in
      let edge = mixed h (neg_ℤ g) h_sign g_sign l.edge m.edge in
      let of_path = λ (s t : ℤ). exchanged h (neg_ℤ g) l.path.first m.path.first l.path.last m.path.last s t in
      let of_edge = λ (s t : ℤ). exchanged h (neg_ℤ g) l.edge.first m.edge.first l.edge.last m.edge.last s t in
      let all_some : pos 1 ≤ℤ of (l.edge.first +ℤ l.edge.last) (m.edge.first +ℤ m.edge.last) =
      mix_some h (neg_ℤ g) _ _ right g_sign l.some (let some = m.some in omega (arith, ints)) in
      let whole = parted h (neg_ℤ g) l.edge.first m.edge.first l.edge.last m.edge.last in
      record {
        path = path;
        edge = edge;
        some = subst (λ z. pos 1 ≤ℤ z) whole all_some;
        over = of_path v.over w.over ∙ ap₂ of l.over m.over ∙ whole;
        height = of_path v.y w.y ∙ ap₂ of l.height m.height ∙ sym (of_edge a.y b.y);
        apart = cancelled g h _ _ _ _ l.apart m.apart ∙ sym (ap₂ (λ e p. e -ℤ p) (of_edge a.x b.x) (of_path v.x w.x));
      }

-- ---- a level without gap is a common point

pub record IsShared (v w : RationalPoint) (a b : GridPoint) : Type 0 where
  pub point : RationalPoint
  pub on_path : IsOnPath v w point
  pub on_edge : IsBetween a b point

-- one coordinate of a weighted sum of the ends, as a place of the edge and as one of the path
edge_place : (s t a b : ℤ) → (s +ℤ t) *ℤ mix s t a b ≡ (s +ℤ t) *ℤ ((s +ℤ t) *ℤ a +ℤ t *ℤ (b -ℤ a))
edge_place s t a b =
    ring (s ∷ t ∷ a ∷ b ∷ []) ((V 0 ⊕ V 1) ⊗ (V 0 ⊗ V 2 ⊕ V 1 ⊗ V 3)) ((V 0 ⊕ V 1) ⊗ ((V 0 ⊕ V 1) ⊗ V 2 ⊕ V 1 ⊗ (V 3 ⊖ V 2))) tt

path_place : (s t v m w o n x : ℤ) → mix s t m o ≡ n → mix s t v w ≡ x
    → (n *ℤ (m *ℤ o)) *ℤ x ≡ n *ℤ ((n -ℤ t *ℤ o) *ℤ (o *ℤ v) +ℤ (t *ℤ o) *ℤ (m *ℤ w))
path_place s t v m w o n x over place =
    ap (λ z. (n *ℤ (m *ℤ o)) *ℤ z) (sym place)
    ∙ ring (s ∷ t ∷ v ∷ m ∷ w ∷ o ∷ n ∷ [])
    ((V 6 ⊗ (V 3 ⊗ V 5)) ⊗ (V 0 ⊗ V 2 ⊕ V 1 ⊗ V 4))
    (V 6 ⊗ (((V 0 ⊗ V 3 ⊕ V 1 ⊗ V 5) ⊖ V 1 ⊗ V 5) ⊗ (V 5 ⊗ V 2) ⊕ (V 1 ⊗ V 5) ⊗ (V 3 ⊗ V 4))) tt
    ∙ ap (λ z. n *ℤ ((z -ℤ t *ℤ o) *ℤ (o *ℤ v) +ℤ (t *ℤ o) *ℤ (m *ℤ w))) over

module _ (v w : RationalPoint) (a b : GridPoint) where
  pub shared : IsLevel v w a b (pos 0) → IsShared v w a b
  shared l =
      let path = l.path in
      let edge = l.edge in
      let n = edge.first +ℤ edge.last in
      let no_gap = l.apart in
      let across : sum_of path v.x w.x ≡ sum_of edge a.x b.x = omega (arith, ints) in
      let a_sign = edge.first_sign in
      let over = l.over in
      let v_over = v.positive in
      let w_over = w.positive in
      let from_v = times_nonneg path.first v.over path.first_sign (omega (arith, ints)) in
      let from_w = times_nonneg path.last w.over path.last_sign (omega (arith, ints)) in
      record {
        point = record { x = sum_of edge a.x b.x; y = sum_of edge a.y b.y; over = n; positive = l.some };
        on_path = record {
          at = record { k = path.last *ℤ w.over; n = n; start = from_w; finish = omega (arith, ints); some = l.some };
          across = path_place path.first path.last v.x v.over w.x w.over n _ over across;
          up = path_place path.first path.last v.y v.over w.y w.over n _ over l.height;
        };
        on_edge = record {
          at = record { k = edge.last; n = n; start = edge.last_sign; finish = omega (arith, ints); some = l.some };
          across = edge_place edge.first edge.last a.x b.x;
          up = edge_place edge.first edge.last a.y b.y;
        };
      }
