-- Rational points by their places along segments: what a point of two segments has, which points are the same, and which are ends.
use Rattle.std.proofs.Common.{◌≡◌, ℤ, pos, ◌+ℤ◌, ◌-ℤ◌, ◌*ℤ◌, ◌≤ℤ◌, ◌<ℤ◌, ◌⊎◌, inl, inr, List, [], ◌∷◌, arith, sym, ap, ap₂, ◌∙◌}
use Rattle.std.proofs.lemmas.Int.{ints}
use Rattle.integer_algebra.proofs.Ring.{ring, V, K, ◌⊕◌, ◌⊖◌, ◌⊗◌}
use Rattle.integer_algebra.proofs.Order.{cancel_same, zero_product}
use Rattle.plane_exact.specs.Plane.{GridPoint, RationalPoint, IsBetween, rational}
use Rattle.plane_exact.specs.Product.{cross_of, dot_of}
use Rattle.plane_exact.specs.Meet.{IsSame}

-- a + (k / n) (b - a)
abbrev pub at : GridPoint → GridPoint → (k n : ℤ) → pos 1 ≤ℤ n → RationalPoint
at a b k n some = record { x = n *ℤ a.x +ℤ k *ℤ (b.x -ℤ a.x); y = n *ℤ a.y +ℤ k *ℤ (b.y -ℤ a.y); over = n; positive = some }

-- w is a + (k / over) (b - a)
pub record IsAt (a b : GridPoint) (k : ℤ) (w : RationalPoint) : Type 0 where
  pub across : w.x ≡ w.over *ℤ a.x +ℤ k *ℤ (b.x -ℤ a.x)
  pub up : w.y ≡ w.over *ℤ a.y +ℤ k *ℤ (b.y -ℤ a.y)

pub between : (a b : GridPoint) (k : ℤ) (w : RationalPoint) → pos 0 ≤ℤ k → k ≤ℤ w.over → IsAt a b k w → IsBetween a b w
between a b k w start finish is = record { at = record { k = k; n = w.over; start = start; finish = finish; some = w.positive }; across = ap (λ z. w.over *ℤ z) is.across; up = ap (λ z. w.over *ℤ z) is.up }

-- ---- points of two segments

agreed : (n m o p q z : ℤ) → pos 0 <ℤ o → n *ℤ z ≡ o *ℤ p → m *ℤ z ≡ o *ℤ q → m *ℤ p ≡ n *ℤ q
agreed n m o p q z h e f =
    let xs = n ∷ m ∷ o ∷ p ∷ q ∷ z ∷ [] in
    cancel_same o (m *ℤ p) (n *ℤ q) h
    (ring xs (V 2 ⊗ (V 1 ⊗ V 3)) (V 1 ⊗ (V 2 ⊗ V 3)) tt
    ∙ ap (λ u. m *ℤ u) (sym e)
    ∙ ring xs (V 1 ⊗ (V 0 ⊗ V 5)) (V 0 ⊗ (V 1 ⊗ V 5)) tt
    ∙ ap (λ u. n *ℤ u) f
    ∙ ring xs (V 0 ⊗ (V 2 ⊗ V 4)) (V 2 ⊗ (V 0 ⊗ V 4)) tt)

module _ (a b c g : GridPoint) (w : RationalPoint) (p : IsBetween a b w) (q : IsBetween c g w) where
  agreed_across : q.at.n *ℤ (p.at.n *ℤ a.x +ℤ p.at.k *ℤ (b.x -ℤ a.x)) ≡ p.at.n *ℤ (q.at.n *ℤ c.x +ℤ q.at.k *ℤ (g.x -ℤ c.x))
  agreed_across = let positive = w.positive in agreed p.at.n q.at.n w.over _ _ w.x (omega (arith, ints)) p.across q.across

  agreed_up : q.at.n *ℤ (p.at.n *ℤ a.y +ℤ p.at.k *ℤ (b.y -ℤ a.y)) ≡ p.at.n *ℤ (q.at.n *ℤ c.y +ℤ q.at.k *ℤ (g.y -ℤ c.y))
  agreed_up = let positive = w.positive in agreed p.at.n q.at.n w.over _ _ w.y (omega (arith, ints)) p.up q.up

  -- what both places are made of
  abbrev numbers : List ℤ
  numbers = a.x ∷ a.y ∷ b.x ∷ b.y ∷ c.x ∷ c.y ∷ g.x ∷ g.y ∷ p.at.k ∷ p.at.n ∷ q.at.k ∷ q.at.n ∷ []

  -- the place along the first by the heights of its ends over the second
  pub by_heights : p.at.k *ℤ (cross_of c g a -ℤ cross_of c g b) ≡ p.at.n *ℤ cross_of c g a
  by_heights =
      let some = q.at.some in
      let ex = V 6 ⊖ V 4 in
      let ey = V 7 ⊖ V 5 in
      let s = ex ⊗ (V 1 ⊖ V 5) ⊖ ey ⊗ (V 0 ⊖ V 4) in
      let f = ex ⊗ (V 3 ⊖ V 5) ⊖ ey ⊗ (V 2 ⊖ V 4) in
      let left = ex ⊗ (V 11 ⊗ (V 9 ⊗ V 1 ⊕ V 8 ⊗ (V 3 ⊖ V 1))) ⊖ ey ⊗ (V 11 ⊗ (V 9 ⊗ V 0 ⊕ V 8 ⊗ (V 2 ⊖ V 0))) in
      let right = ex ⊗ (V 9 ⊗ (V 11 ⊗ V 5 ⊕ V 10 ⊗ ey)) ⊖ ey ⊗ (V 9 ⊗ (V 11 ⊗ V 4 ⊕ V 10 ⊗ ex)) in
      let same = ap₂ (λ x y. (g.x -ℤ c.x) *ℤ y -ℤ (g.y -ℤ c.y) *ℤ x) agreed_across agreed_up in
      let split = ring numbers (V 11 ⊗ (V 9 ⊗ s)) (V 11 ⊗ (V 8 ⊗ (s ⊖ f)) ⊕ (left ⊖ right)) tt in
      cancel_same q.at.n (p.at.k *ℤ (cross_of c g a -ℤ cross_of c g b)) (p.at.n *ℤ cross_of c g a) (omega (arith, ints)) (omega (arith, ints))

  -- the place along the first by the feet of the ends of the second
  pub by_feet : q.at.n *ℤ (p.at.k *ℤ dot_of a b b) ≡ p.at.n *ℤ (q.at.n *ℤ dot_of a b c +ℤ q.at.k *ℤ (dot_of a b g -ℤ dot_of a b c))
  by_feet =
      let dx = V 2 ⊖ V 0 in
      let dy = V 3 ⊖ V 1 in
      let ta = dx ⊗ (V 4 ⊖ V 0) ⊕ dy ⊗ (V 5 ⊖ V 1) in
      let tb = dx ⊗ (V 6 ⊖ V 0) ⊕ dy ⊗ (V 7 ⊖ V 1) in
      let left = dx ⊗ (V 11 ⊗ (V 9 ⊗ V 0 ⊕ V 8 ⊗ dx)) ⊕ dy ⊗ (V 11 ⊗ (V 9 ⊗ V 1 ⊕ V 8 ⊗ dy)) in
      let right = dx ⊗ (V 9 ⊗ (V 11 ⊗ V 4 ⊕ V 10 ⊗ (V 6 ⊖ V 4))) ⊕ dy ⊗ (V 9 ⊗ (V 11 ⊗ V 5 ⊕ V 10 ⊗ (V 7 ⊖ V 5))) in
      let same = ap₂ (λ x y. (b.x -ℤ a.x) *ℤ x +ℤ (b.y -ℤ a.y) *ℤ y) agreed_across agreed_up in
      let split = ring numbers (V 11 ⊗ (V 8 ⊗ (dx ⊗ dx ⊕ dy ⊗ dy))) (V 9 ⊗ (V 11 ⊗ ta ⊕ V 10 ⊗ (tb ⊖ ta)) ⊕ (left ⊖ right)) tt in
      omega (arith, ints)

-- ---- the same point

same_coordinate : (n k N P o z a d : ℤ) → pos 1 ≤ℤ n → n *ℤ z ≡ o *ℤ (n *ℤ a +ℤ k *ℤ d) → k *ℤ N ≡ n *ℤ P → z *ℤ N ≡ (N *ℤ a +ℤ P *ℤ d) *ℤ o
same_coordinate n k N P o z a d h e f =
    let xs = n ∷ k ∷ N ∷ P ∷ o ∷ z ∷ a ∷ d ∷ [] in
    cancel_same n _ _ (omega (arith, ints))
    (ring xs (V 0 ⊗ (V 5 ⊗ V 2)) (V 2 ⊗ (V 0 ⊗ V 5)) tt
    ∙ ap (λ u. N *ℤ u) e
    ∙ ring xs (V 2 ⊗ (V 4 ⊗ (V 0 ⊗ V 6 ⊕ V 1 ⊗ V 7))) (V 4 ⊗ (V 0 ⊗ (V 2 ⊗ V 6) ⊕ (V 1 ⊗ V 2) ⊗ V 7)) tt
    ∙ ap (λ u. o *ℤ (n *ℤ (N *ℤ a) +ℤ u *ℤ d)) f
    ∙ ring xs (V 4 ⊗ (V 0 ⊗ (V 2 ⊗ V 6) ⊕ (V 0 ⊗ V 3) ⊗ V 7)) (V 0 ⊗ ((V 2 ⊗ V 6 ⊕ V 3 ⊗ V 7) ⊗ V 4)) tt)

pub same_place : (a b : GridPoint) (v : RationalPoint) (p : IsBetween a b v) (k n : ℤ) (some : pos 1 ≤ℤ n) → p.at.k *ℤ n ≡ p.at.n *ℤ k → IsSame v (at a b k n some)
same_place a b v p k n some e =
    record {
      across = same_coordinate p.at.n p.at.k n k v.over v.x a.x (b.x -ℤ a.x) p.at.some p.across e;
      up = same_coordinate p.at.n p.at.k n k v.over v.y a.y (b.y -ℤ a.y) p.at.some p.up e;
    }

-- ---- ends

start_here : (x n a k d : ℤ) → x ≡ n *ℤ a +ℤ k *ℤ d → k ≡ pos 0 → x *ℤ pos 1 ≡ a *ℤ n
start_here x n a k d e z = ap (λ u. u *ℤ pos 1) (e ∙ ap (λ u. n *ℤ a +ℤ u *ℤ d) z) ∙ ring (n ∷ a ∷ d ∷ []) ((V 0 ⊗ V 1 ⊕ K (pos 0) ⊗ V 2) ⊗ K (pos 1)) (V 1 ⊗ V 0) tt

finish_here : (x n a k b : ℤ) → x ≡ n *ℤ a +ℤ k *ℤ (b -ℤ a) → k ≡ n → x *ℤ pos 1 ≡ b *ℤ n
finish_here x n a k b e z = ap (λ u. u *ℤ pos 1) (e ∙ ap (λ u. n *ℤ a +ℤ u *ℤ (b -ℤ a)) z) ∙ ring (n ∷ a ∷ b ∷ []) ((V 0 ⊗ V 1 ⊕ V 0 ⊗ (V 2 ⊖ V 1)) ⊗ K (pos 1)) (V 2 ⊗ V 0) tt

here_start : (x n a k d : ℤ) → x ≡ n *ℤ a +ℤ k *ℤ d → x *ℤ pos 1 ≡ a *ℤ n → k *ℤ d ≡ pos 0
here_start x n a k d e f = let turned = ring (n ∷ a ∷ []) (V 1 ⊗ V 0) (V 0 ⊗ V 1) tt in omega (arith, ints)

here_finish : (x n a k b : ℤ) → x ≡ n *ℤ a +ℤ k *ℤ (b -ℤ a) → x *ℤ pos 1 ≡ b *ℤ n → (k -ℤ n) *ℤ (b -ℤ a) ≡ pos 0
here_finish x n a k b e f = let split = ring (n ∷ a ∷ k ∷ b ∷ []) ((V 2 ⊖ V 0) ⊗ (V 3 ⊖ V 1)) (V 0 ⊗ V 1 ⊕ V 2 ⊗ (V 3 ⊖ V 1) ⊖ V 3 ⊗ V 0) tt in omega (arith, ints)

-- no number but 0 makes both parts 0
abbrev pub IsDirection : ℤ → ℤ → Type 0
IsDirection dx dy = (z : ℤ) → z *ℤ dx ≡ pos 0 → z *ℤ dy ≡ pos 0 → z ≡ pos 0

pub direction_of : (dx dy ex ey : ℤ) → ¬ (dx *ℤ ey -ℤ dy *ℤ ex ≡ pos 0) → IsDirection dx dy
direction_of dx dy ex ey h z e f =
    let none : z *ℤ (dx *ℤ ey -ℤ dy *ℤ ex) ≡ pos 0 =
    ring (z ∷ dx ∷ dy ∷ ex ∷ ey ∷ []) (V 0 ⊗ (V 1 ⊗ V 4 ⊖ V 2 ⊗ V 3)) ((V 0 ⊗ V 1) ⊗ V 4 ⊖ (V 0 ⊗ V 2) ⊗ V 3) tt
    ∙ ap₂ (λ x y. x *ℤ ey -ℤ y *ℤ ex) e f
    ∙ ring (ex ∷ ey ∷ []) (K (pos 0) ⊗ V 1 ⊖ K (pos 0) ⊗ V 0) (K (pos 0)) tt in
    first (zero_product z (dx *ℤ ey -ℤ dy *ℤ ex) none)
  where
    first : (z ≡ pos 0) ⊎ (dx *ℤ ey -ℤ dy *ℤ ex ≡ pos 0) → z ≡ pos 0
    first (inl e) = e
    first (inr e) = absurd (h e)

module _ (a b : GridPoint) (k : ℤ) (w : RationalPoint) (is : IsAt a b k w) where
  pub at_end : (k ≡ pos 0) ⊎ (k ≡ w.over) → IsSame w (rational a) ⊎ IsSame w (rational b)
  at_end (inl e) = inl (record { across = start_here w.x w.over a.x k _ is.across e; up = start_here w.y w.over a.y k _ is.up e })
  at_end (inr e) = inr (record { across = finish_here w.x w.over a.x k b.x is.across e; up = finish_here w.y w.over a.y k b.y is.up e })

  pub end_at : IsDirection (b.x -ℤ a.x) (b.y -ℤ a.y) → IsSame w (rational a) ⊎ IsSame w (rational b) → (k ≡ pos 0) ⊎ (k -ℤ w.over ≡ pos 0)
  end_at way (inl e) = inl (way k (here_start w.x w.over a.x k _ is.across e.across) (here_start w.y w.over a.y k _ is.up e.up))
  end_at way (inr e) = inr (way (k -ℤ w.over) (here_finish w.x w.over a.x k b.x is.across e.across) (here_finish w.y w.over a.y k b.y is.up e.up))
