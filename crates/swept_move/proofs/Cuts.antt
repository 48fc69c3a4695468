-- The points that a move removes, by the ways from a point to its ends: in whole numbers, with no moment.
use Rattle.std.proofs.Common.{◌≡◌, ◌↔◌, ℤ, pos, neg_ℤ, ◌+ℤ◌, ◌-ℤ◌, ◌*ℤ◌, ◌≤ℤ◌, ◌<ℤ◌, [], ◌∷◌, arith, refl, ap, ap₂, subst, sym, ◌∙◌}
use Rattle.std.proofs.lemmas.Int.{ints, by_lt_z}
use Rattle.integer_algebra.proofs.Ring.{ring, V, M, ◌⊕◌, ◌⊖◌, ◌⊗◌}
use Rattle.integer_algebra.proofs.Order.{cancel_same, sign_of_pos, square_nonneg, times_lt, times_neg, times_nonneg, times_pos, zero_times}
use Rattle.plane_exact.specs.Cone.{Cone}
use Rattle.plane_exact.specs.Distance.{square}
use Rattle.plane_exact.specs.Heights.{GridPlace}
use Rattle.plane_exact.specs.Plane.{GridPoint, RationalPoint, rational}
use Rattle.engrave_model.specs.Depth.{IsInDisc}
use Rattle.engrave_model.specs.Removal.{Moment, Removes, depth_at, place_at, tenfold}
use Rattle.swept_move.specs.Dip.{IsMet, move_of}
use Rattle.swept_move.specs.Part.{with_half}
use Rattle.swept_move.specs.Sweep.{margin_of}
use Rattle.swept_move.proofs.Dips.{Reaches, met, met_same, reaches_same, reaches_turned}
use Rattle.swept_move.proofs.Hits.{IsNear}
use Rattle.swept_move.proofs.Nappe.{lean, near_same}
use Rattle.swept_move.proofs.Removing.{near_there}

-- ---- the way and the depth at the moment k / n, by the weights n - k and k of the ends

way_now : (k n w o f g : ℤ) → w *ℤ n -ℤ ((n -ℤ k) *ℤ f +ℤ k *ℤ g) *ℤ o ≡ neg_ℤ ((n -ℤ k) *ℤ (o *ℤ f -ℤ w) +ℤ k *ℤ (o *ℤ g -ℤ w))
way_now k n w o f g =
    ring (k ∷ n ∷ w ∷ o ∷ f ∷ g ∷ []) (V 2 ⊗ V 1 ⊖ ((V 1 ⊖ V 0) ⊗ V 4 ⊕ V 0 ⊗ V 5) ⊗ V 3)
    (M ((V 1 ⊖ V 0) ⊗ (V 3 ⊗ V 4 ⊖ V 2) ⊕ V 0 ⊗ (V 3 ⊗ V 5 ⊖ V 2))) tt

deep_now : (k n o h h' : ℤ) → o *ℤ neg_ℤ ((n -ℤ k) *ℤ h +ℤ k *ℤ h') ≡ (n -ℤ k) *ℤ (o *ℤ neg_ℤ h) +ℤ k *ℤ (o *ℤ neg_ℤ h')
deep_now k n o h h' =
    ring (k ∷ n ∷ o ∷ h ∷ h' ∷ []) (V 2 ⊗ M ((V 1 ⊖ V 0) ⊗ V 3 ⊕ V 0 ⊗ V 4)) ((V 1 ⊖ V 0) ⊗ (V 2 ⊗ M (V 3)) ⊕ V 0 ⊗ (V 2 ⊗ M (V 4))) tt

-- of any two weights the sum is the denominator
weighed : (l m a b : ℤ) → l *ℤ a +ℤ m *ℤ b ≡ ((l +ℤ m) -ℤ m) *ℤ a +ℤ m *ℤ b
weighed l m a b = ap (λ z. z *ℤ a +ℤ m *ℤ b) (let e : l ≡ (l +ℤ m) -ℤ m = omega (arith, ints) in e)

-- ---- near, in whole numbers, is in the disc

disc_there : (sd sn n o X Y D x y z : ℤ) → pos 0 <ℤ n → X ≡ neg_ℤ x → Y ≡ neg_ℤ y → o *ℤ D ≡ z → IsNear (square sd) (square sn) x y z
    → ((square X +ℤ square Y) *ℤ square (sd *ℤ n)) <ℤ (square (sn *ℤ D) *ℤ square (n *ℤ o))
disc_there sd sn n o X Y D x y z some ex ey ez near =
    let scaled = times_lt (n *ℤ n) (square sd *ℤ (x *ℤ x +ℤ y *ℤ y)) (square sn *ℤ (z *ℤ z)) (times_pos n n some some) near.close in
    let left : (square X +ℤ square Y) *ℤ square (sd *ℤ n) ≡ (n *ℤ n) *ℤ (square sd *ℤ (x *ℤ x +ℤ y *ℤ y)) =
    ap₂ (λ u v. (square u +ℤ square v) *ℤ square (sd *ℤ n)) ex ey
    ∙ ring (x ∷ y ∷ sd ∷ n ∷ []) ((M (V 0) ⊗ M (V 0) ⊕ M (V 1) ⊗ M (V 1)) ⊗ ((V 2 ⊗ V 3) ⊗ (V 2 ⊗ V 3)))
    ((V 3 ⊗ V 3) ⊗ ((V 2 ⊗ V 2) ⊗ (V 0 ⊗ V 0 ⊕ V 1 ⊗ V 1))) tt in
    let right : (n *ℤ n) *ℤ (square sn *ℤ (z *ℤ z)) ≡ square (sn *ℤ D) *ℤ square (n *ℤ o) =
    ap (λ u. (n *ℤ n) *ℤ (square sn *ℤ (u *ℤ u))) (sym ez)
    ∙ ring (o ∷ sn ∷ D ∷ n ∷ []) ((V 3 ⊗ V 3) ⊗ ((V 1 ⊗ V 1) ⊗ ((V 0 ⊗ V 2) ⊗ (V 0 ⊗ V 2))))
    (((V 1 ⊗ V 2) ⊗ (V 1 ⊗ V 2)) ⊗ ((V 3 ⊗ V 0) ⊗ (V 3 ⊗ V 0))) tt in
    omega (arith, ints)

-- one of the weights isn't 0
pub some_weight : (l m d e : ℤ) → pos 0 ≤ℤ l → pos 0 ≤ℤ m → pos 0 <ℤ (l *ℤ d +ℤ m *ℤ e) → pos 1 ≤ℤ (l +ℤ m)
some_weight l m d e start finish below =
    by_lt_z (pos 0) (l +ℤ m) (λ some. omega (arith, ints)) (λ none.
    let first : l *ℤ d ≡ pos 0 = ap (λ z. z *ℤ d) (let h : l ≡ pos 0 = omega (arith, ints) in h) ∙ zero_times d in
    let last : m *ℤ e ≡ pos 0 = ap (λ z. z *ℤ e) (let h : m ≡ pos 0 = omega (arith, ints) in h) ∙ zero_times e in
    absurd (omega (arith, ints)))

-- ---- the points that a move removes, in the unit of its places

-- some moment holds w in the bit's disc
pub record HasRemoved (cone : Cone) (f g : GridPlace) (w : RationalPoint) : Type 0 where
  pub moment : Moment
  pub removed : IsInDisc cone (place_at (move_of f g) moment) (depth_at (move_of f g) moment) moment.n w

-- by the ways from w to the ends, times its denominator
abbrev pub ReachesAt : Cone → GridPlace → GridPlace → RationalPoint → Type 0
ReachesAt cone f g w = Reaches (square (pos cone.sd)) (square (pos cone.sn))
    (w.over *ℤ f.at.x -ℤ w.x) (w.over *ℤ f.at.y -ℤ w.y) (w.over *ℤ neg_ℤ f.h) (w.over *ℤ g.at.x -ℤ w.x) (w.over *ℤ g.at.y -ℤ w.y) (w.over *ℤ neg_ℤ g.h)

module _ (cone : Cone) (f g : GridPlace) (w : RationalPoint) where
  removed_reaches : HasRemoved cone f g w → ReachesAt cone f g w
  removed_reaches some =
      let s = some.moment in
      let k = s.k in
      let n = s.n in
      let o = w.over in
      let positive = w.positive in
      let finish = s.finish in
      let scaled : (X x : ℤ) → X ≡ neg_ℤ x → o *ℤ X ≡ neg_ℤ (o *ℤ x) = λ X x e. ap (λ z. o *ℤ z) e ∙ times_neg o x in
      record {
        l = n -ℤ k;
        m = k;
        start = omega (arith, ints);
        finish = s.start;
        near = near_same _ _ _ _ _ _ _ _ refl refl (deep_now k n o f.h g.h)
            (near_there (pos cone.sd) (pos cone.sn) n o o _ _ _ _ _ (omega (arith, ints))
            (scaled _ _ (way_now k n w.x o f.at.x g.at.x)) (scaled _ _ (way_now k n w.y o f.at.y g.at.y)) some.removed.deep some.removed.close);
      }

  reaches_removed : ReachesAt cone f g w → HasRemoved cone f g w
  reaches_removed reached =
      let l = reached.l in
      let m = reached.m in
      let o = w.over in
      let positive = w.positive in
      let start = reached.start in
      let finish = reached.finish in
      let weight = some_weight l m _ _ reached.start reached.finish reached.near.below in
      let near = near_same _ _ _ _ _ _ _ _ (weighed l m _ _) (weighed l m _ _) (weighed l m _ _) reached.near in
      let depth = deep_now m (l +ℤ m) o f.h g.h in
      record {
        moment = record { k = m; n = l +ℤ m; start = reached.finish; finish = omega (arith, ints); some = weight };
        removed = record {
          deep = sign_of_pos o _ (omega (arith, ints)) (subst (λ z. pos 0 <ℤ z) (sym depth) near.below);
          close = disc_there (pos cone.sd) (pos cone.sn) (l +ℤ m) o _ _ _ _ _ _ (omega (arith, ints)) (way_now m (l +ℤ m) w.x o f.at.x g.at.x) (way_now m (l +ℤ m) w.y o f.at.y g.at.y) depth near;
        };
      }

  pub removed_is : HasRemoved cone f g w ↔ ReachesAt cone f g w
  removed_is = (removed_reaches, reaches_removed)

-- a motion turned round holds the same
pub removed_turned : (cone : Cone) (f g : GridPlace) (w : RationalPoint) → HasRemoved cone f g w → HasRemoved cone g f w
removed_turned cone f g w some =
    reaches_removed cone g f w (reaches_turned _ _ _ _ _ _ _ _ (removed_reaches cone f g w some))

-- from the surface up the disc holds nothing
pub none_above : (cone : Cone) (f g : GridPlace) (w : RationalPoint) → pos 0 ≤ℤ f.h → pos 0 ≤ℤ g.h → ¬ HasRemoved cone f g w
none_above cone f g w first last some =
    let s = some.moment in
    let start = s.start in
    let finish = s.finish in
    let p = times_nonneg (s.n -ℤ s.k) f.h (omega (arith, ints)) first in
    let q = times_nonneg s.k g.h start last in
    let deep = some.removed.deep in
    omega (arith, ints)

-- ---- points of the drawing

pub removes_is : (cone : Cone) (f g : GridPlace) (w : RationalPoint) → Removes cone (move_of f g) w ↔ HasRemoved cone f g (tenfold w)
removes_is cone f g w = (
  (λ some. record { moment = some.moment; removed = some.removed }),
  (λ some. record { moment = some.moment; removed = some.removed }),
)

-- a move turned round removes the same
pub removes_turned : (cone : Cone) (f g : GridPlace) (w : RationalPoint) → Removes cone (move_of f g) w → Removes cone (move_of g f) w
removes_turned cone f g w some = (removes_is cone g f w).1 (removed_turned cone f g (tenfold w) ((removes_is cone f g w).0 some))

-- from the surface up nothing is removed
pub removes_nothing : (cone : Cone) (f g : GridPlace) (w : RationalPoint) → pos 0 ≤ℤ f.h → pos 0 ≤ℤ g.h → ¬ Removes cone (move_of f g) w
removes_nothing cone f g w first last some = none_above cone f g (tenfold w) first last ((removes_is cone f g w).0 some)

-- ---- as the code has them

-- of an end in tenths, from a point of the grid
in_units : (z x : ℤ) → pos 1 *ℤ z -ℤ pos 10 *ℤ x ≡ z -ℤ pos 10 *ℤ x
in_units z x = omega (arith, ints)

-- the numbers of the two ways as the code has them
pub record AreWays (f g : GridPlace) (p : GridPoint) (x y d x' y' d' : ℤ) : Type 0 where
  pub across : x ≡ f.at.x -ℤ pos 10 *ℤ p.x
  pub up : y ≡ f.at.y -ℤ pos 10 *ℤ p.y
  pub depth : d ≡ neg_ℤ f.h
  pub across' : x' ≡ g.at.x -ℤ pos 10 *ℤ p.x
  pub up' : y' ≡ g.at.y -ℤ pos 10 *ℤ p.y
  pub depth' : d' ≡ neg_ℤ g.h

module _ (cone : Cone) (f g : GridPlace) (p : GridPoint) (x y d x' y' d' : ℤ) (ways : AreWays f g p x y d x' y' d') where
  abbrev Q : ℤ
  Q = square (pos cone.sd)

  abbrev R : ℤ
  R = square (pos cone.sn)

  pub same_ways : ReachesAt cone f g (tenfold (rational p)) ↔ Reaches Q R x y d x' y' d'
  same_ways =
      let e : pos 1 *ℤ f.at.x -ℤ pos 10 *ℤ p.x ≡ x = in_units f.at.x p.x ∙ sym ways.across in
      let e₁ : pos 1 *ℤ f.at.y -ℤ pos 10 *ℤ p.y ≡ y = in_units f.at.y p.y ∙ sym ways.up in
      let e₂ : pos 1 *ℤ neg_ℤ f.h ≡ d = one_times (neg_ℤ f.h) ∙ sym ways.depth in
      let e₃ : pos 1 *ℤ g.at.x -ℤ pos 10 *ℤ p.x ≡ x' = in_units g.at.x p.x ∙ sym ways.across' in
      let e₄ : pos 1 *ℤ g.at.y -ℤ pos 10 *ℤ p.y ≡ y' = in_units g.at.y p.y ∙ sym ways.up' in
      let e₅ : pos 1 *ℤ neg_ℤ g.h ≡ d' = one_times (neg_ℤ g.h) ∙ sym ways.depth' in
      (reaches_same Q R e e₁ e₂ e₃ e₄ e₅, reaches_same Q R (sym e) (sym e₁) (sym e₂) (sym e₃) (sym e₄) (sym e₅))
    where
      one_times : (z : ℤ) → pos 1 *ℤ z ≡ z
      one_times z = omega (arith, ints)

  -- the coefficients of a clearance are the three products
  pub removes_met : (a half c : ℤ) → pos 0 <ℤ d → with_half a half c ≡ margin_of cone x y x' y' d d' → Removes cone (move_of f g) (rational p) ↔ IsMet c half a d d'
  removes_met a half c below is =
      let first : c ≡ lean Q R x y d x y d = ap (λ q. q.c) is in
      let last : a ≡ lean Q R x' y' d' x' y' d' = ap (λ q. q.a) is in
      let both : half ≡ lean Q R x y d x' y' d' = cancel_same (pos 2) half _ (record { lt = tt }) (ap (λ q. q.b) is) in
      let there = removes_is cone f g (rational p) in
      let reach = removed_is cone f g (tenfold (rational p)) in
      let ways = same_ways in
      let tests = met Q R x y d x' y' d' (square_nonneg (pos cone.sd)) below in (
        (λ r. met_same d d' _ _ _ _ _ _ (sym first) (sym both) (sym last) (tests.0 (ways.0 (reach.0 (there.0 r))))),
        (λ t. there.1 (reach.1 (ways.1 (tests.1 (met_same d d' _ _ _ _ _ _ first both last t))))),
      )
