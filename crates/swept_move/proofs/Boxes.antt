-- How far the bit stays from an edge that lies beside the path.
use Rattle.std.proofs.Common.{inl, inr, ℤ, pos, ◌+ℤ◌, ◌-ℤ◌, ◌*ℤ◌, ◌≤ℤ◌, neg_ℤ, [], ◌∷◌, arith}
use Rattle.std.proofs.lemmas.Int.{ints, by_lt_z}
use Rattle.integer_algebra.proofs.Ring.{ring, V, M, ◌⊕◌, ◌⊖◌, ◌⊗◌}
use Rattle.integer_algebra.proofs.Order.{square_nonneg, square_le, times_nonneg, times_le}
use Rattle.swept_move.specs.Beside.{AreBelow, AreBeside}
use Rattle.swept_move.proofs.Hits.{away}

-- a moment from the start to the finish, and a point of the edge from a to b
pub record IsPlace (S T N : ℤ) : Type 0 where
  pub start : pos 0 ≤ℤ S
  pub finish : S ≤ℤ N
  pub a : pos 0 ≤ℤ T
  pub b : T ≤ℤ N
  pub some : pos 1 ≤ℤ N

-- ---- the way to a point of the edge from a place of the path, in one coordinate, where the path lies before the edge

before_by : (r m f g a b S T N : ℤ) → f ≤ℤ m → g ≤ℤ m → (m +ℤ r) ≤ℤ a → (m +ℤ r) ≤ℤ b → IsPlace S T N
    → (N *ℤ r) ≤ℤ neg_ℤ (away (f -ℤ a) (g -ℤ f) (b -ℤ a) S T N)
before_by r m f g a b S T N f_m g_m m_a m_b place =
    let start = place.start in
    let finish = place.finish in
    let at_a = place.a in
    let at_b = place.b in
    let p = times_nonneg (N -ℤ S) (m -ℤ f) (omega (arith, ints)) (omega (arith, ints)) in
    let q = times_nonneg S (m -ℤ g) start (omega (arith, ints)) in
    let u = times_nonneg (N -ℤ T) (a -ℤ (m +ℤ r)) (omega (arith, ints)) (omega (arith, ints)) in
    let v = times_nonneg T (b -ℤ (m +ℤ r)) at_a (omega (arith, ints)) in
    let e = ring (r ∷ m ∷ f ∷ g ∷ a ∷ b ∷ S ∷ T ∷ N ∷ [])
    (M (V 8 ⊗ (V 2 ⊖ V 4) ⊕ V 6 ⊗ (V 3 ⊖ V 2) ⊖ V 7 ⊗ (V 5 ⊖ V 4)))
    ((V 8 ⊖ V 6) ⊗ (V 1 ⊖ V 2) ⊕ V 6 ⊗ (V 1 ⊖ V 3) ⊕ ((V 8 ⊖ V 7) ⊗ (V 4 ⊖ (V 1 ⊕ V 0)) ⊕ V 7 ⊗ (V 5 ⊖ (V 1 ⊕ V 0))) ⊕ V 8 ⊗ V 0) tt in
    omega (arith, ints)

-- the same from the other side: all is mirrored
behind_by : (r m f g a b S T N : ℤ) → m ≤ℤ f → m ≤ℤ g → (a +ℤ r) ≤ℤ m → (b +ℤ r) ≤ℤ m → IsPlace S T N
    → (N *ℤ r) ≤ℤ away (f -ℤ a) (g -ℤ f) (b -ℤ a) S T N
behind_by r m f g a b S T N m_f m_g a_m b_m place =
    let mirrored = before_by r (neg_ℤ m) (neg_ℤ f) (neg_ℤ g) (neg_ℤ a) (neg_ℤ b) S T N (omega (arith, ints)) (omega (arith, ints)) (omega (arith, ints)) (omega (arith, ints)) place in
    let e = ring (f ∷ g ∷ a ∷ b ∷ S ∷ T ∷ N ∷ [])
    (M (V 6 ⊗ (M (V 0) ⊖ M (V 2)) ⊕ V 4 ⊗ (M (V 1) ⊖ M (V 0)) ⊖ V 5 ⊗ (M (V 3) ⊖ M (V 2))))
    (V 6 ⊗ (V 0 ⊖ V 2) ⊕ V 4 ⊗ (V 1 ⊖ V 0) ⊖ V 5 ⊗ (V 3 ⊖ V 2)) tt in
    omega (arith, ints)

-- ---- how far the bit reaches

-- a way that is at least x long is at least as long as the bit reaches
pub far_by : (sn sd x X Y depth : ℤ) → pos 0 ≤ℤ sn → pos 0 ≤ℤ depth → (sn *ℤ depth) ≤ℤ (sd *ℤ x) → (x *ℤ x) ≤ℤ (X *ℤ X +ℤ Y *ℤ Y)
    → ((sn *ℤ sn) *ℤ (depth *ℤ depth)) ≤ℤ ((sd *ℤ sd) *ℤ (X *ℤ X +ℤ Y *ℤ Y))
far_by sn sd x X Y depth h k least long =
    let p = square_le (sn *ℤ depth) (sd *ℤ x) (times_nonneg sn depth h k) least in
    let q = times_le (sd *ℤ sd) (x *ℤ x) (X *ℤ X +ℤ Y *ℤ Y) (square_nonneg sd) long in
    let e = ring (sn ∷ depth ∷ []) ((V 0 ⊗ V 1) ⊗ (V 0 ⊗ V 1)) ((V 0 ⊗ V 0) ⊗ (V 1 ⊗ V 1)) tt in
    let f = ring (sd ∷ x ∷ []) ((V 0 ⊗ V 1) ⊗ (V 0 ⊗ V 1)) ((V 0 ⊗ V 0) ⊗ (V 1 ⊗ V 1)) tt in
    omega (arith, ints)

-- ---- a way of which one coordinate is long

module _ (r N x y : ℤ) (wide : pos 0 ≤ℤ (N *ℤ r)) where
  long_back : (N *ℤ r) ≤ℤ neg_ℤ x → ((N *ℤ r) *ℤ (N *ℤ r)) ≤ℤ (x *ℤ x +ℤ y *ℤ y)
  long_back h =
      let p = square_le (N *ℤ r) (neg_ℤ x) wide h in
      let q = square_nonneg y in
      let e = ring (x ∷ []) (M (V 0) ⊗ M (V 0)) (V 0 ⊗ V 0) tt in
      omega (arith, ints)

  long_on : (N *ℤ r) ≤ℤ x → ((N *ℤ r) *ℤ (N *ℤ r)) ≤ℤ (x *ℤ x +ℤ y *ℤ y)
  long_on h = let p = square_le (N *ℤ r) x wide h in let q = square_nonneg y in omega (arith, ints)

-- two numbers that are below two others keep that distance on every place between
all_before : (r f g a b S T N : ℤ) → AreBelow r f g a b → IsPlace S T N → (N *ℤ r) ≤ℤ neg_ℤ (away (f -ℤ a) (g -ℤ f) (b -ℤ a) S T N)
all_before r f g a b S T N below place =
    by_lt_z f g
    (λ rising. before_by r g f g a b S T N (omega (arith, ints)) (omega (arith, ints)) below.b_c below.b_d place)
    (λ falling. before_by r f f g a b S T N (omega (arith, ints)) falling below.a_c below.a_d place)

all_behind : (r f g a b S T N : ℤ) → AreBelow r a b f g → IsPlace S T N → (N *ℤ r) ≤ℤ away (f -ℤ a) (g -ℤ f) (b -ℤ a) S T N
all_behind r f g a b S T N above place =
    by_lt_z f g
    (λ rising. behind_by r f f g a b S T N (omega (arith, ints)) (omega (arith, ints)) above.a_c above.b_c place)
    (λ falling. behind_by r g f g a b S T N falling (omega (arith, ints)) above.a_d above.b_d place)

pub long_way : (r f g a b : ℤ) → pos 0 ≤ℤ r → AreBeside r f g a b → (S T N y : ℤ) → IsPlace S T N
    → (let x = away (f -ℤ a) (g -ℤ f) (b -ℤ a) S T N in ((N *ℤ r) *ℤ (N *ℤ r)) ≤ℤ (x *ℤ x +ℤ y *ℤ y))
long_way r f g a b some beside S T N y place =
    let some_over = place.some in
    let wide = times_nonneg N r (omega (arith, ints)) some in
    elim beside [
      | inl below ↦ long_back r N _ y wide (all_before r f g a b S T N below place)
      | inr above ↦ long_on r N _ y wide (all_behind r f g a b S T N above place)
    ]
