-- A grid point is a point of a segment just where it lies on the segment's line and between its ends.
use Rattle.std.proofs.Common.{◌≡◌, ℤ, pos, ◌+ℤ◌, ◌-ℤ◌, ◌*ℤ◌, ◌≤ℤ◌, ◌<ℤ◌, [], ◌∷◌, arith, ap, ap₂, ◌∙◌}
use Rattle.std.proofs.lemmas.Int.{ints, by_lt_z}
use Rattle.integer_algebra.proofs.Ring.{ring, V, K, ◌⊕◌, ◌⊖◌, ◌⊗◌}
use Rattle.integer_algebra.proofs.Order.{square_nonneg, times_nonpos, times_pos, times_le, times_lt, times_zero, cancel_same, sign_of_nonpos, squares_zero}
use Rattle.plane_exact.specs.Plane.{Fraction, GridPoint, IsBetween, rational}
use Rattle.plane_exact.specs.Product.{cross_of, dot_of}
use Rattle.plane_exact.proofs.Fractions.{first}

-- f is (k / n) d, for some k from 0 to n
record IsPart (fx fy dx dy : ℤ) : Type 0 where
  at : Fraction
  across : at.n *ℤ fx ≡ at.k *ℤ dx
  up : at.n *ℤ fy ≡ at.k *ℤ dy

-- F L ≡ P P and F ≤ P
shorter : (F P L : ℤ) → pos 0 ≤ℤ L → F *ℤ L ≡ P *ℤ P → F ≤ℤ P → P ≤ℤ L
shorter F P L h e k = by_lt_z L P
    (λ l.
    let p = times_le L F P h k in
    let q = times_lt P L P (omega (arith, ints)) l in
    let turned = ring (F ∷ L ∷ []) (V 1 ⊗ V 0) (V 0 ⊗ V 1) tt in
    let swapped = ring (P ∷ L ∷ []) (V 1 ⊗ V 0) (V 0 ⊗ V 1) tt in
    absurd (omega (arith, ints)))
    (λ l. l)

-- where its cross product with d is 0, f is (d·f / d·d) d
pub foot : (dx dy fx fy : ℤ) → dx *ℤ fy -ℤ dy *ℤ fx ≡ pos 0
    → ((dx *ℤ dx +ℤ dy *ℤ dy) *ℤ fx ≡ (dx *ℤ fx +ℤ dy *ℤ fy) *ℤ dx) × ((dx *ℤ dx +ℤ dy *ℤ dy) *ℤ fy ≡ (dx *ℤ fx +ℤ dy *ℤ fy) *ℤ dy)
foot dx dy fx fy level =
    let none : (z : ℤ) → z *ℤ (dx *ℤ fy -ℤ dy *ℤ fx) ≡ pos 0 = (λ z. ap (λ t. z *ℤ t) level ∙ times_zero z) in
    let none_x = none dx in
    let none_y = none dy in
    let xs = dx ∷ dy ∷ fx ∷ fy ∷ [] in
    let l = V 0 ⊗ V 0 ⊕ V 1 ⊗ V 1 in
    let p = V 0 ⊗ V 2 ⊕ V 1 ⊗ V 3 in
    let t = V 0 ⊗ V 3 ⊖ V 1 ⊗ V 2 in
    let across = ring xs (l ⊗ V 2) (p ⊗ V 0 ⊖ V 1 ⊗ t) tt in
    let up = ring xs (l ⊗ V 3) (p ⊗ V 1 ⊕ V 0 ⊗ t) tt in
    (omega (arith, ints), omega (arith, ints))

module _ (fx fy dx dy : ℤ) where
  part_of : dx *ℤ fy -ℤ dy *ℤ fx ≡ pos 0 → (fx *ℤ fx +ℤ fy *ℤ fy) ≤ℤ (dx *ℤ fx +ℤ dy *ℤ fy) → IsPart fx fy dx dy
  part_of level near =
      let F = fx *ℤ fx +ℤ fy *ℤ fy in
      let P = dx *ℤ fx +ℤ dy *ℤ fy in
      let L = dx *ℤ dx +ℤ dy *ℤ dy in
      let T = dx *ℤ fy -ℤ dy *ℤ fx in
      let xs = fx ∷ fy ∷ dx ∷ dy ∷ [] in
      let f = V 0 ⊗ V 0 ⊕ V 1 ⊗ V 1 in
      let p = V 2 ⊗ V 0 ⊕ V 3 ⊗ V 1 in
      let l = V 2 ⊗ V 2 ⊕ V 3 ⊗ V 3 in
      let t = V 2 ⊗ V 1 ⊖ V 3 ⊗ V 0 in
      let f_nonneg : pos 0 ≤ℤ F = (let p = square_nonneg fx in let q = square_nonneg fy in omega (arith, ints)) in
      let l_nonneg : pos 0 ≤ℤ L = (let p = square_nonneg dx in let q = square_nonneg dy in omega (arith, ints)) in
      by_lt_z (pos 0) L
      (λ long.
      let none : T *ℤ T ≡ pos 0 = ap (λ z. T *ℤ z) level ∙ times_zero T in
      let squares = ring xs (f ⊗ l) (p ⊗ p ⊕ t ⊗ t) tt in
      record {
        at = record { k = P; n = L; start = omega (arith, ints); finish = shorter F P L l_nonneg (omega (arith, ints)) near; some = omega (arith, ints) };
        across = (foot dx dy fx fy level).0;
        up = (foot dx dy fx fy level).1;
      })
      (λ short.
      let no_way = squares_zero dx dy short in
      let flat = ap₂ (λ x y. x *ℤ fx +ℤ y *ℤ fy) no_way.0 no_way.1 in
      let at_start = squares_zero fx fy (omega (arith, ints)) in
      let at_x = at_start.0 in
      let at_y = at_start.1 in
      record {
        at = first;
        across = omega (arith, ints);
        up = omega (arith, ints);
      })

  level_of : IsPart fx fy dx dy → dx *ℤ fy -ℤ dy *ℤ fx ≡ pos 0
  level_of part =
      let k = part.at.k in
      let n = part.at.n in
      let some = part.at.some in
      let xs = fx ∷ fy ∷ dx ∷ dy ∷ k ∷ n ∷ [] in
      cancel_same n _ (pos 0) (omega (arith, ints))
      (ring xs (V 5 ⊗ (V 2 ⊗ V 1 ⊖ V 3 ⊗ V 0)) (V 2 ⊗ (V 5 ⊗ V 1) ⊖ V 3 ⊗ (V 5 ⊗ V 0)) tt
      ∙ ap₂ (λ x y. dx *ℤ y -ℤ dy *ℤ x) part.across part.up
      ∙ ring xs (V 2 ⊗ (V 4 ⊗ V 3) ⊖ V 3 ⊗ (V 4 ⊗ V 2)) (V 5 ⊗ K (pos 0)) tt)

  near_of : IsPart fx fy dx dy → (fx *ℤ fx +ℤ fy *ℤ fy -ℤ (dx *ℤ fx +ℤ dy *ℤ fy)) ≤ℤ pos 0
  near_of part =
      let k = part.at.k in
      let n = part.at.n in
      let some = part.at.some in
      let start = part.at.start in
      let finish = part.at.finish in
      let L = dx *ℤ dx +ℤ dy *ℤ dy in
      let l_nonneg : pos 0 ≤ℤ L = (let p = square_nonneg dx in let q = square_nonneg dy in omega (arith, ints)) in
      let whole : pos 0 <ℤ (n *ℤ n) = times_pos n n (omega (arith, ints)) (omega (arith, ints)) in
      let less : (k *ℤ (k -ℤ n)) ≤ℤ pos 0 = times_nonpos k (k -ℤ n) start (omega (arith, ints)) in
      let below : (L *ℤ (k *ℤ (k -ℤ n))) ≤ℤ pos 0 = times_nonpos L (k *ℤ (k -ℤ n)) l_nonneg less in
      let xs = fx ∷ fy ∷ dx ∷ dy ∷ k ∷ n ∷ [] in
      let is : (n *ℤ n) *ℤ (fx *ℤ fx +ℤ fy *ℤ fy -ℤ (dx *ℤ fx +ℤ dy *ℤ fy)) ≡ L *ℤ (k *ℤ (k -ℤ n)) =
      ring xs ((V 5 ⊗ V 5) ⊗ (V 0 ⊗ V 0 ⊕ V 1 ⊗ V 1 ⊖ (V 2 ⊗ V 0 ⊕ V 3 ⊗ V 1)))
      ((V 5 ⊗ V 0) ⊗ (V 5 ⊗ V 0 ⊖ V 5 ⊗ V 2) ⊕ (V 5 ⊗ V 1) ⊗ (V 5 ⊗ V 1 ⊖ V 5 ⊗ V 3)) tt
      ∙ ap₂ (λ x y. x *ℤ (x -ℤ n *ℤ dx) +ℤ y *ℤ (y -ℤ n *ℤ dy)) part.across part.up
      ∙ ring xs ((V 4 ⊗ V 2) ⊗ (V 4 ⊗ V 2 ⊖ V 5 ⊗ V 2) ⊕ (V 4 ⊗ V 3) ⊗ (V 4 ⊗ V 3 ⊖ V 5 ⊗ V 3))
      ((V 2 ⊗ V 2 ⊕ V 3 ⊗ V 3) ⊗ (V 4 ⊗ (V 4 ⊖ V 5))) tt in
      sign_of_nonpos (n *ℤ n) _ whole (omega (arith, ints))

-- one coordinate of a part of the segment, and of a point of it
placed : (a b p k n : ℤ) → n *ℤ (p -ℤ a) ≡ k *ℤ (b -ℤ a) → n *ℤ p ≡ pos 1 *ℤ (n *ℤ a +ℤ k *ℤ (b -ℤ a))
placed a b p k n e =
    let xs = a ∷ b ∷ p ∷ k ∷ n ∷ [] in
    ring xs (V 4 ⊗ V 2) (V 4 ⊗ V 0 ⊕ V 4 ⊗ (V 2 ⊖ V 0)) tt
    ∙ ap (λ z. n *ℤ a +ℤ z) e
    ∙ ring xs (V 4 ⊗ V 0 ⊕ V 3 ⊗ (V 1 ⊖ V 0)) (K (pos 1) ⊗ (V 4 ⊗ V 0 ⊕ V 3 ⊗ (V 1 ⊖ V 0))) tt

moved : (a b p k n : ℤ) → n *ℤ p ≡ pos 1 *ℤ (n *ℤ a +ℤ k *ℤ (b -ℤ a)) → n *ℤ (p -ℤ a) ≡ k *ℤ (b -ℤ a)
moved a b p k n e =
    let xs = a ∷ b ∷ p ∷ k ∷ n ∷ [] in
    ring xs (V 4 ⊗ (V 2 ⊖ V 0)) (V 4 ⊗ V 2 ⊖ V 4 ⊗ V 0) tt
    ∙ ap (λ z. z -ℤ n *ℤ a) e
    ∙ ring xs (K (pos 1) ⊗ (V 4 ⊗ V 0 ⊕ V 3 ⊗ (V 1 ⊖ V 0)) ⊖ V 4 ⊗ V 0) (V 3 ⊗ (V 1 ⊖ V 0)) tt

module _ (a b p : GridPoint) where
  the_part : IsBetween a b (rational p) → IsPart (p.x -ℤ a.x) (p.y -ℤ a.y) (b.x -ℤ a.x) (b.y -ℤ a.y)
  the_part on = record {
    at = on.at;
    across = moved a.x b.x p.x on.at.k on.at.n on.across;
    up = moved a.y b.y p.y on.at.k on.at.n on.up;
  }

  -- what the dot product of the ways from p to both ends is
  facing : dot_of p a b ≡ (p.x -ℤ a.x) *ℤ (p.x -ℤ a.x) +ℤ (p.y -ℤ a.y) *ℤ (p.y -ℤ a.y) -ℤ ((b.x -ℤ a.x) *ℤ (p.x -ℤ a.x) +ℤ (b.y -ℤ a.y) *ℤ (p.y -ℤ a.y))
  facing =
      let fx = V 0 ⊖ V 2 in
      let fy = V 1 ⊖ V 3 in
      ring (p.x ∷ p.y ∷ a.x ∷ a.y ∷ b.x ∷ b.y ∷ []) ((V 2 ⊖ V 0) ⊗ (V 4 ⊖ V 0) ⊕ (V 3 ⊖ V 1) ⊗ (V 5 ⊖ V 1)) (fx ⊗ fx ⊕ fy ⊗ fy ⊖ ((V 4 ⊖ V 2) ⊗ fx ⊕ (V 5 ⊖ V 3) ⊗ fy)) tt

  pub on_segment : cross_of a b p ≡ pos 0 → dot_of p a b ≤ℤ pos 0 → IsBetween a b (rational p)
  on_segment level near =
      let is = facing in
      let part = part_of (p.x -ℤ a.x) (p.y -ℤ a.y) (b.x -ℤ a.x) (b.y -ℤ a.y) level (omega (arith, ints)) in
      record {
        at = part.at;
        across = placed a.x b.x p.x part.at.k part.at.n part.across;
        up = placed a.y b.y p.y part.at.k part.at.n part.up;
      }

  pub on_line : IsBetween a b (rational p) → cross_of a b p ≡ pos 0
  on_line on = level_of (p.x -ℤ a.x) (p.y -ℤ a.y) (b.x -ℤ a.x) (b.y -ℤ a.y) (the_part on)

  pub between_ends : IsBetween a b (rational p) → dot_of p a b ≤ℤ pos 0
  between_ends on =
      let is = facing in
      let h = near_of (p.x -ℤ a.x) (p.y -ℤ a.y) (b.x -ℤ a.x) (b.y -ℤ a.y) (the_part on) in
      omega (arith, ints)
