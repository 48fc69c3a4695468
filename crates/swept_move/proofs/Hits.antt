-- First law: along a direction in which the way stays and the depth doesn't fall, a hit stays a hit.
--
-- A straight pass of a cone over a straight edge, and the places at which a disc of the pass holds a point of the edge.
--
-- A place is a triple S, T, N: the moment S / N of the pass and the point T / N of the edge. With e the way from the edge's
-- start to the start of the path, q the path and d the edge, the way from the point to the tip, times N, is
-- N e + S q - T d; and the depth, times N, is N z + S descent. Both are linear in the triple. The place is a hit where the
-- depth is above 0 and Q |way|^2 < R depth^2.
use Rattle.std.proofs.Common.{◌≡◌, ℤ, pos, ◌+ℤ◌, ◌-ℤ◌, ◌*ℤ◌, ◌≤ℤ◌, ◌<ℤ◌, [], ◌∷◌, arith, ap, ap₂, ◌∙◌}
use Rattle.std.proofs.lemmas.Int.{ints, by_lt_z}
use Rattle.integer_algebra.proofs.Ring.{ring, V, K, ◌⊕◌, ◌⊖◌, ◌⊗◌}
use Rattle.integer_algebra.proofs.Order.{mix, square_nonneg, square_le, times_nonneg, times_pos, times_le, times_lt, times_zero, sign_of_pos}

pub record Pass : Type 0 where
  pub Q : ℤ
  pub R : ℤ
  pub ex : ℤ
  pub ey : ℤ
  pub qx : ℤ
  pub qy : ℤ
  pub dx : ℤ
  pub dy : ℤ
  pub z : ℤ
  pub descent : ℤ

-- the way from the point to the tip, in one coordinate
abbrev pub away : (e q d S T N : ℤ) → ℤ
away e q d S T N = N *ℤ e +ℤ S *ℤ q -ℤ T *ℤ d

abbrev pub deep : (z descent S N : ℤ) → ℤ
deep z descent S N = N *ℤ z +ℤ S *ℤ descent

-- Q (x^2 + y^2) < R depth^2
pub record IsNear (Q R x y depth : ℤ) : Type 0 where
  pub below : pos 0 <ℤ depth
  pub close : (Q *ℤ (x *ℤ x +ℤ y *ℤ y)) <ℤ (R *ℤ (depth *ℤ depth))

abbrev pub IsHit : (p : Pass) (S T N : ℤ) → Type 0
IsHit p S T N = IsNear p.Q p.R (away p.ex p.qx p.dx S T N) (away p.ey p.qy p.dy S T N) (deep p.z p.descent S N)

-- ---- along a direction in which the way stays and the depth doesn't fall, a hit stays a hit

mixed_away : (e q d S T N s t n m k : ℤ) → away e q d s t n ≡ pos 0 → away e q d (mix m k S s) (mix m k T t) (mix m k N n) ≡ m *ℤ away e q d S T N
mixed_away e q d S T N s t n m k level =
    let xs = e ∷ q ∷ d ∷ S ∷ T ∷ N ∷ s ∷ t ∷ n ∷ m ∷ k ∷ [] in
    ring xs ((V 9 ⊗ V 5 ⊕ V 10 ⊗ V 8) ⊗ V 0 ⊕ (V 9 ⊗ V 3 ⊕ V 10 ⊗ V 6) ⊗ V 1 ⊖ (V 9 ⊗ V 4 ⊕ V 10 ⊗ V 7) ⊗ V 2)
    (V 9 ⊗ (V 5 ⊗ V 0 ⊕ V 3 ⊗ V 1 ⊖ V 4 ⊗ V 2) ⊕ V 10 ⊗ (V 8 ⊗ V 0 ⊕ V 6 ⊗ V 1 ⊖ V 7 ⊗ V 2)) tt
    ∙ ap (λ y. m *ℤ away e q d S T N +ℤ k *ℤ y) level
    ∙ ring xs (V 9 ⊗ (V 5 ⊗ V 0 ⊕ V 3 ⊗ V 1 ⊖ V 4 ⊗ V 2) ⊕ V 10 ⊗ K (pos 0)) (V 9 ⊗ (V 5 ⊗ V 0 ⊕ V 3 ⊗ V 1 ⊖ V 4 ⊗ V 2)) tt

mixed_deep : (z descent S N s n m k : ℤ) → deep z descent (mix m k S s) (mix m k N n) ≡ mix m k (deep z descent S N) (deep z descent s n)
mixed_deep z descent S N s n m k =
    ring (z ∷ descent ∷ S ∷ N ∷ s ∷ n ∷ m ∷ k ∷ []) ((V 6 ⊗ V 3 ⊕ V 7 ⊗ V 5) ⊗ V 0 ⊕ (V 6 ⊗ V 2 ⊕ V 7 ⊗ V 4) ⊗ V 1)
    (V 6 ⊗ (V 3 ⊗ V 0 ⊕ V 2 ⊗ V 1) ⊕ V 7 ⊗ (V 5 ⊗ V 0 ⊕ V 4 ⊗ V 1)) tt

pub near_deeper : (Q R x y depth depth' : ℤ) → pos 0 ≤ℤ R → depth ≤ℤ depth' → IsNear Q R x y depth → IsNear Q R x y depth'
near_deeper Q R x y depth depth' r more near =
    let below = near.below in
    let close = near.close in
    let grown : (R *ℤ (depth *ℤ depth)) ≤ℤ (R *ℤ (depth' *ℤ depth')) =
    times_le R (depth *ℤ depth) (depth' *ℤ depth') r (square_le depth depth' (omega (arith, ints)) more) in
    record { below = omega (arith, ints); close = omega (arith, ints) }

-- m times as far, and at least m times as deep
pub near_mixed : (Q R x y depth m x' y' depth' : ℤ) → pos 0 ≤ℤ R → pos 0 <ℤ m → x' ≡ m *ℤ x → y' ≡ m *ℤ y → (m *ℤ depth) ≤ℤ depth' → IsNear Q R x y depth → IsNear Q R x' y' depth'
near_mixed Q R x y depth m x' y' depth' r some ex ey least near =
    let scaled = times_lt (m *ℤ m) (Q *ℤ (x *ℤ x +ℤ y *ℤ y)) (R *ℤ (depth *ℤ depth)) (times_pos m m some some) near.close in
    let left : Q *ℤ (x' *ℤ x' +ℤ y' *ℤ y') ≡ (m *ℤ m) *ℤ (Q *ℤ (x *ℤ x +ℤ y *ℤ y)) =
    ap₂ (λ u v. Q *ℤ (u *ℤ u +ℤ v *ℤ v)) ex ey
    ∙ ring (Q ∷ m ∷ x ∷ y ∷ []) (V 0 ⊗ ((V 1 ⊗ V 2) ⊗ (V 1 ⊗ V 2) ⊕ (V 1 ⊗ V 3) ⊗ (V 1 ⊗ V 3))) ((V 1 ⊗ V 1) ⊗ (V 0 ⊗ (V 2 ⊗ V 2 ⊕ V 3 ⊗ V 3))) tt in
    let right = ring (R ∷ m ∷ depth ∷ []) ((V 1 ⊗ V 1) ⊗ (V 0 ⊗ (V 2 ⊗ V 2))) (V 0 ⊗ ((V 1 ⊗ V 2) ⊗ (V 1 ⊗ V 2))) tt in
    near_deeper Q R x' y' (m *ℤ depth) depth' r least (record { below = times_pos m depth some near.below; close = omega (arith, ints) })

-- a place with no way at all, above which the tip is deep
pub near_zero : (Q R x y depth x' y' depth' : ℤ) → pos 0 ≤ℤ Q → x' ≡ pos 0 → y' ≡ pos 0 → pos 0 <ℤ depth' → IsNear Q R x y depth → IsNear Q R x' y' depth'
near_zero Q R x y depth x' y' depth' q ex ey below near =
    let close = near.close in
    let least : pos 0 ≤ℤ (Q *ℤ (x *ℤ x +ℤ y *ℤ y)) =
    times_nonneg Q (x *ℤ x +ℤ y *ℤ y) q (let a = square_nonneg x in let b = square_nonneg y in omega (arith, ints)) in
    let turned = ring (R ∷ depth ∷ []) (V 0 ⊗ (V 1 ⊗ V 1)) ((V 1 ⊗ V 1) ⊗ V 0) tt in
    let steep : pos 0 <ℤ R = sign_of_pos (depth *ℤ depth) R (square_nonneg depth) (omega (arith, ints)) in
    let wide : pos 0 <ℤ (R *ℤ (depth' *ℤ depth')) = times_pos R (depth' *ℤ depth') steep (times_pos depth' depth' below below) in
    let none : Q *ℤ (x' *ℤ x' +ℤ y' *ℤ y') ≡ pos 0 = ap₂ (λ u v. Q *ℤ (u *ℤ u +ℤ v *ℤ v)) ex ey ∙ times_zero Q in
    record { below = below; close = omega (arith, ints) }

module _ (p : Pass) (S T N s t n m k : ℤ) where
  -- the way stays along a level direction; where moreover the depth doesn't fall, a hit stays a hit
  pub hit_stays : pos 0 ≤ℤ p.R → away p.ex p.qx p.dx s t n ≡ pos 0 → away p.ey p.qy p.dy s t n ≡ pos 0 → pos 0 ≤ℤ deep p.z p.descent s n
      → pos 0 <ℤ m → pos 0 ≤ℤ k → IsHit p S T N → IsHit p (mix m k S s) (mix m k T t) (mix m k N n)
  hit_stays r level_x level_y sinks some forth hit =
      let share = times_nonneg k (deep p.z p.descent s n) forth sinks in
      let sum = mixed_deep p.z p.descent S N s n m k in
      near_mixed p.Q p.R _ _ (deep p.z p.descent S N) m _ _ _ r some
      (mixed_away p.ex p.qx p.dx S T N s t n m k level_x)
      (mixed_away p.ey p.qy p.dy S T N s t n m k level_y)
      (omega (arith, ints)) hit

-- a hit is at a moment: its denominator isn't 0
pub some_over : (z descent S N : ℤ) → pos 0 ≤ℤ S → S ≤ℤ N → pos 0 <ℤ deep z descent S N → pos 1 ≤ℤ N
some_over z descent S N start finish below =
    by_lt_z (pos 0) N (λ l. omega (arith, ints)) (λ l.
    let none_over : N ≡ pos 0 = omega (arith, ints) in
    let none_at : S ≡ pos 0 = omega (arith, ints) in
    let none : deep z descent S N ≡ pos 0 = ap₂ (λ a b. a *ℤ z +ℤ b *ℤ descent) none_over none_at ∙ ring (z ∷ descent ∷ []) (K (pos 0) ⊗ V 0 ⊕ K (pos 0) ⊗ V 1) (K (pos 0)) tt in
    absurd (omega (arith, ints)))
