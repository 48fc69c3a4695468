-- The way from a point of the edge to a place of the path: at the ends of the edge, where the lines of path and edge meet, and along
-- both where they are parallel.
use Rattle.std.proofs.Common.{◌≡◌, ℤ, pos, ◌+ℤ◌, ◌-ℤ◌, ◌*ℤ◌, neg_ℤ, [], ◌∷◌, List, ap, ◌∙◌}
use Rattle.integer_algebra.proofs.Ring.{ring, Term, V, K, M, ◌⊕◌, ◌⊖◌, ◌⊗◌}
use Rattle.integer_algebra.proofs.Order.{times_zero}
use Rattle.swept_move.proofs.Hits.{away}

-- ---- at an end of the edge, in one coordinate, where the path goes from f to g and the edge from a to b

pub at_a : (f g a b S N : ℤ) → away (f -ℤ a) (g -ℤ f) (b -ℤ a) S (pos 0) N ≡ N *ℤ (f -ℤ a) +ℤ S *ℤ (g -ℤ f)
at_a f g a b S N =
    ring (f ∷ g ∷ a ∷ b ∷ S ∷ N ∷ []) (V 5 ⊗ (V 0 ⊖ V 2) ⊕ V 4 ⊗ (V 1 ⊖ V 0) ⊖ K (pos 0) ⊗ (V 3 ⊖ V 2)) (V 5 ⊗ (V 0 ⊖ V 2) ⊕ V 4 ⊗ (V 1 ⊖ V 0)) tt

pub at_b : (f g a b S N : ℤ) → away (f -ℤ a) (g -ℤ f) (b -ℤ a) S N N ≡ N *ℤ (f -ℤ b) +ℤ S *ℤ (g -ℤ f)
at_b f g a b S N =
    ring (f ∷ g ∷ a ∷ b ∷ S ∷ N ∷ []) (V 5 ⊗ (V 0 ⊖ V 2) ⊕ V 4 ⊗ (V 1 ⊖ V 0) ⊖ V 5 ⊗ (V 3 ⊖ V 2)) (V 5 ⊗ (V 0 ⊖ V 3) ⊕ V 4 ⊗ (V 1 ⊖ V 0)) tt

-- ---- the level directions

module _ (ex ey qx qy dx dy : ℤ) where
  abbrev atoms : List ℤ
  atoms = ex ∷ ey ∷ qx ∷ qy ∷ dx ∷ dy ∷ []

  -- to where the lines of path and edge meet
  pub meets_x : away ex qx dx (dx *ℤ ey -ℤ dy *ℤ ex) (qx *ℤ ey -ℤ qy *ℤ ex) (qx *ℤ dy -ℤ qy *ℤ dx) ≡ pos 0
  meets_x = ring atoms ((V 2 ⊗ V 5 ⊖ V 3 ⊗ V 4) ⊗ V 0 ⊕ (V 4 ⊗ V 1 ⊖ V 5 ⊗ V 0) ⊗ V 2 ⊖ (V 2 ⊗ V 1 ⊖ V 3 ⊗ V 0) ⊗ V 4) (K (pos 0)) tt

  pub meets_y : away ey qy dy (dx *ℤ ey -ℤ dy *ℤ ex) (qx *ℤ ey -ℤ qy *ℤ ex) (qx *ℤ dy -ℤ qy *ℤ dx) ≡ pos 0
  meets_y = ring atoms ((V 2 ⊗ V 5 ⊖ V 3 ⊗ V 4) ⊗ V 1 ⊕ (V 4 ⊗ V 1 ⊖ V 5 ⊗ V 0) ⊗ V 3 ⊖ (V 2 ⊗ V 1 ⊖ V 3 ⊗ V 0) ⊗ V 5) (K (pos 0)) tt

  -- along both, where they are parallel
  pub beside_x : qx *ℤ dy -ℤ qy *ℤ dx ≡ pos 0 → away ex qx dx (dx *ℤ dx +ℤ dy *ℤ dy) (qx *ℤ dx +ℤ qy *ℤ dy) (pos 0) ≡ pos 0
  beside_x parallel =
      ring atoms (K (pos 0) ⊗ V 0 ⊕ (V 4 ⊗ V 4 ⊕ V 5 ⊗ V 5) ⊗ V 2 ⊖ (V 2 ⊗ V 4 ⊕ V 3 ⊗ V 5) ⊗ V 4) (V 5 ⊗ (V 2 ⊗ V 5 ⊖ V 3 ⊗ V 4)) tt
      ∙ ap (λ z. dy *ℤ z) parallel ∙ times_zero dy

  pub beside_y : qx *ℤ dy -ℤ qy *ℤ dx ≡ pos 0 → away ey qy dy (dx *ℤ dx +ℤ dy *ℤ dy) (qx *ℤ dx +ℤ qy *ℤ dy) (pos 0) ≡ pos 0
  beside_y parallel =
      ring atoms (K (pos 0) ⊗ V 1 ⊕ (V 4 ⊗ V 4 ⊕ V 5 ⊗ V 5) ⊗ V 3 ⊖ (V 2 ⊗ V 4 ⊕ V 3 ⊗ V 5) ⊗ V 5) (M (V 4) ⊗ (V 2 ⊗ V 5 ⊖ V 3 ⊗ V 4)) tt
      ∙ ap (λ z. neg_ℤ dx *ℤ z) parallel ∙ times_zero (neg_ℤ dx)

-- along the edge, where it is one point
pub alone : (e q d : ℤ) → d ≡ pos 0 → away e q d (pos 0) (pos 1) (pos 0) ≡ pos 0
alone e q d none =
    ring (e ∷ q ∷ d ∷ []) (K (pos 0) ⊗ V 0 ⊕ K (pos 0) ⊗ V 1 ⊖ K (pos 1) ⊗ V 2) (M (V 2)) tt ∙ ap neg_ℤ none

-- ---- a meeting strictly within path and edge is a crossing

module _ (fx fy gx gy ax ay bx by : ℤ) where
  abbrev ends : List ℤ
  ends = fx ∷ fy ∷ gx ∷ gy ∷ ax ∷ ay ∷ bx ∷ by ∷ []

  -- the meeting's moment, its point of the edge, and the denominator of both
  abbrev pub meeting_s : ℤ
  meeting_s = (bx -ℤ ax) *ℤ (fy -ℤ ay) -ℤ (by -ℤ ay) *ℤ (fx -ℤ ax)

  abbrev pub meeting_t : ℤ
  meeting_t = (gx -ℤ fx) *ℤ (fy -ℤ ay) -ℤ (gy -ℤ fy) *ℤ (fx -ℤ ax)

  abbrev pub meeting_n : ℤ
  meeting_n = (gx -ℤ fx) *ℤ (by -ℤ ay) -ℤ (gy -ℤ fy) *ℤ (bx -ℤ ax)

  abbrev term_s : Term
  term_s = (V 6 ⊖ V 4) ⊗ (V 1 ⊖ V 5) ⊖ (V 7 ⊖ V 5) ⊗ (V 0 ⊖ V 4)

  abbrev term_t : Term
  term_t = (V 2 ⊖ V 0) ⊗ (V 1 ⊖ V 5) ⊖ (V 3 ⊖ V 1) ⊗ (V 0 ⊖ V 4)

  abbrev term_n : Term
  term_n = (V 2 ⊖ V 0) ⊗ (V 7 ⊖ V 5) ⊖ (V 3 ⊖ V 1) ⊗ (V 6 ⊖ V 4)

  pub edge_parted : ((gx -ℤ fx) *ℤ (ay -ℤ fy) -ℤ (gy -ℤ fy) *ℤ (ax -ℤ fx)) *ℤ ((gx -ℤ fx) *ℤ (by -ℤ fy) -ℤ (gy -ℤ fy) *ℤ (bx -ℤ fx)) ≡ meeting_t *ℤ (meeting_t -ℤ meeting_n)
  edge_parted =
      ring ends (((V 2 ⊖ V 0) ⊗ (V 5 ⊖ V 1) ⊖ (V 3 ⊖ V 1) ⊗ (V 4 ⊖ V 0)) ⊗ ((V 2 ⊖ V 0) ⊗ (V 7 ⊖ V 1) ⊖ (V 3 ⊖ V 1) ⊗ (V 6 ⊖ V 0)))
      (term_t ⊗ (term_t ⊖ term_n)) tt

-- ---- a direction turned round

pub turned_away : (e q d s t n : ℤ) → away e q d s t n ≡ pos 0 → away e q d (neg_ℤ s) (neg_ℤ t) (neg_ℤ n) ≡ pos 0
turned_away e q d s t n level =
    ring (e ∷ q ∷ d ∷ s ∷ t ∷ n ∷ []) (M (V 5) ⊗ V 0 ⊕ M (V 3) ⊗ V 1 ⊖ M (V 4) ⊗ V 2) (M (V 5 ⊗ V 0 ⊕ V 3 ⊗ V 1 ⊖ V 4 ⊗ V 2)) tt ∙ ap neg_ℤ level

pub turned_product : (s n : ℤ) → neg_ℤ s *ℤ (neg_ℤ s -ℤ neg_ℤ n) ≡ s *ℤ (s -ℤ n)
turned_product s n = ring (s ∷ n ∷ []) (M (V 0) ⊗ (M (V 0) ⊖ M (V 1))) (V 0 ⊗ (V 0 ⊖ V 1)) tt
