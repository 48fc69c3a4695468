-- Laws for loops over the numbers that `Grid::near` gives: they are those of edges, and at the end every edge is done.
use Rattle.std.proofs.Common.{◌≡◌, ℕ, zero, suc, ◌+◌, ◌<◌, List, [], ◌∷◌, length, map, Bool, true, false, ◌⊎◌, inl, inr, refl, ap, ◌∙◌, subst, ⊎_elim, arith, slice_index_or, pos}
use Rattle.std.specs.Prelude.{if◌then◌else◌}
use Rattle.std.specs.List.{All, Contains, enumerate_from}
use Rattle.std.proofs.lemmas.List.{get_or-map, get_or_default, length-map}
use Rattle.std.proofs.lemmas.List.Elements.{All-nil, All-cons}
use Rattle.std.proofs.lemmas.List.Sorted.{All-permutation, Contains-permutation}
use Rattle.plane_exact.specs.declared.point.Seg.{Seg}
use Rattle.lane_kernels.specs.Boxes.{is_met}
use Rattle.lane_kernels.specs.declared.boxes.Rect.{Rect}
use Rattle.segment_grid.specs.Near.{AreNear, box_of, hits}

-- of each edge the number is still to come, or P holds
abbrev pub Done : (ℕ → Type 0) → List Seg → List ℕ → Type 0
Done P edges left = (k : ℕ) → k < length edges → Contains left k ⊎ P k

-- a number that is put before others where its box is met, or left out
All-hit : (P : ℕ → Type 0) (met : Bool) (n : ℕ) (ns : List ℕ) → P n → All P ns → All P (if met then n ∷ ns else ns)
All-hit P true n ns here rest = All-cons P n ns here rest
All-hit P false n ns here rest = rest

Contains-cons : (n x : ℕ) (ns : List ℕ) → Contains ns x → Contains (n ∷ ns) x
Contains-cons n x ns h = (suc h.0, omega (arith, h.1), h.2)

Contains-hit : (met : Bool) (n x : ℕ) (ns : List ℕ) → Contains ns x → Contains (if met then n ∷ ns else ns) x
Contains-hit true n x ns h = Contains-cons n x ns h
Contains-hit false n x ns h = h

hit_here : (met : Bool) (n : ℕ) (ns : List ℕ) → met ≡ true → Contains (if met then n ∷ ns else ns) n
hit_here true n ns e = (0, omega arith, refl)
hit_here false n ns e = cc

-- the hits are numbers of boxes
hits_below : (q : Rect) (i m : ℕ) (boxes : List Rect) → i + length boxes ≡ m → All (λ e. e < m) (hits q (enumerate_from i boxes))
hits_below q i m [] e = All-nil (λ e. e < m)
hits_below q i m (b ∷ boxes) e =
    All-hit (λ e. e < m) (is_met q b) i _ (omega (arith, e)) (hits_below q (i + 1) m boxes (omega (arith, e)))

-- a box that is met is a hit
hits_have : (q : Rect) (i k m : ℕ) (d : Rect) (boxes : List Rect) → k < length boxes → i + k ≡ m → is_met q (slice_index_or boxes k d) ≡ true
    → Contains (hits q (enumerate_from i boxes)) m
hits_have q i k m d [] l e met = absurd (omega (arith, l))
hits_have q i zero m d (b ∷ boxes) l e met =
    let same : i ≡ m = omega (arith, e) in
    subst (λ n. Contains (hits q (enumerate_from i (b ∷ boxes))) n) same (hit_here (is_met q b) i (hits q (enumerate_from (i + 1) boxes)) met)
hits_have q i (suc k) m d (b ∷ boxes) l e met =
    Contains-hit (is_met q b) i m _ (hits_have q (i + 1) k m d boxes (omega (arith, l)) (omega (arith, e)) met)

module _ (q : Rect) (edges : List Seg) (ns : List ℕ) (near : AreNear edges q ns) where
  -- each number is that of an edge
  pub near_there : All (λ e. e < length edges) ns
  near_there =
      All-permutation (λ e. e < length edges) _ ns near
      (hits_below q 0 (length edges) (map box_of edges) (omega (arith, length-map edges box_of)))

  -- at the beginning, where P holds of each edge whose box isn't met
  pub near_done : (P : ℕ → Type 0) → ((k : ℕ) → k < length edges → ((d : Seg) → is_met q (box_of (slice_index_or edges k d)) ≡ false) → P k) → Done P edges ns
  near_done P missed k l = cases (is_met q (box_of (slice_index_or edges k some))) refl
    where
      some : Seg
      some = record { a = record { x = pos 0; y = pos 0 }; b = record { x = pos 0; y = pos 0 } }

      cases : (met : Bool) → is_met q (box_of (slice_index_or edges k some)) ≡ met → Contains ns k ⊎ P k
      cases true e =
          let here : is_met q (slice_index_or (map box_of edges) k (box_of some)) ≡ true = ap (is_met q) (get_or-map box_of edges k some (box_of some) l) ∙ e in
          inl (Contains-permutation _ ns k near (hits_have q 0 k k (box_of some) (map box_of edges) (omega (arith, length-map edges box_of)) (omega arith) here))
      cases false e = inr (missed k l (λ d. ap (λ edge. is_met q (box_of edge)) (get_or_default edges k d some l) ∙ e))

Contains_cases : (x z : ℕ) (xs : List ℕ) (at : ℕ) → at < length (x ∷ xs) → slice_index_or (x ∷ xs) at z ≡ z → (x ≡ z) ⊎ Contains xs z
Contains_cases x z xs zero l e = inl e
Contains_cases x z xs (suc at) l e = inr (at, omega arith, e)

module _ (P Q : ℕ → Type 0) (edges : List Seg) where
  -- after a step, in which P became Q, and Q came to hold of the number that was the first
  pub done_step : (x : ℕ) (all left : List ℕ) → all ≡ x ∷ left → ((k : ℕ) → P k → Q k) → Q x → Done P edges all → Done Q edges left
  done_step x all left e becomes here done k l = ⊎_elim came (λ p. inr (becomes k p)) (done k l)
    where
      came : Contains all k → Contains left k ⊎ Q k
      came held =
          let c = subst (λ ns. Contains ns k) e held in
          ⊎_elim (λ same. inr (subst Q same here)) inl (Contains_cases x k left c.0 c.1 c.2)

-- at the end P holds of every edge
pub done_end : (P : ℕ → Type 0) (edges : List Seg) (left : List ℕ) → left ≡ [] → Done P edges left → (k : ℕ) → k < length edges → P k
done_end P edges left e done k l = ⊎_elim none (λ p. p) (done k l)
  where
    none : Contains left k → P k
    none held = let l : held.0 < length left = held.1 in absurd (omega (arith, l, ap length e))
