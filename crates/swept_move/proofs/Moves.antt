-- Moves in tenths of a grid unit against the edges of a drawing: the laws of motions between places, with the edge tenfold.
use Rattle.std.proofs.Common.{◌≡◌, ◌≤◌, ◌<◌, ◌*◌, inl, inr, true, nat_lt, if◌then◌else◌, ℕ, zero, suc, ℤ, pos, negsuc, ◌+ℤ◌, ◌-ℤ◌, ◌*ℤ◌, List, [], ◌∷◌, get_or, arith, ap, subst, sym, ◌∙◌}
use Rattle.std.proofs.lemmas.Int.{ints, by_lt_z}
use Rattle.integer_algebra.proofs.Order.{times_lt, times_pos}
use Rattle.integer_algebra.proofs.Ring.{ring, V, K, ◌⊕◌, ◌⊖◌, ◌⊗◌}
use Rattle.plane_exact.specs.Cone.{Cone}
use Rattle.plane_exact.specs.Distance.{IsCloser}
use Rattle.plane_exact.specs.Moves.{IsDeep, IsTooWide, depth_of, first_deep}
use Rattle.plane_exact.specs.Plane.{GridPoint, RationalPoint, IsBetween, rational}
use Rattle.plane_exact.specs.declared.moves.Move.{Move}
use Rattle.plane_exact.specs.declared.point.Seg.{Seg}
use Rattle.engrave_model.specs.Depth.{IsInDisc}
use Rattle.engrave_model.specs.Inside.{IsInside}
use Rattle.engrave_model.specs.Removal.{IsRemoved, Moment, RemovesSome, from_tenths, place_at, tenfold}
use Rattle.swept_move.specs.Clear.{IsClear, IsClearDeep, PassesEdge, tenfold_edge}
use Rattle.swept_move.specs.Law.{ClearRunLaw, CutLaw, ExactLaw, SweptLaw, at_height, level_move}
use Rattle.swept_move.specs.Motion.{IsOnWay, sweep_between}
use Rattle.swept_move.specs.Reach.{IsReach, ReachLaw}
use Rattle.swept_move.specs.Sweep.{IsReached, IsTouched}
use Rattle.swept_move.proofs.Aside.{beside_is_clear}
use Rattle.swept_move.proofs.Motions.{depth_at, spares_edge, touches_or_keeps_off}
use Rattle.swept_move.proofs.Successive.{is_joined}

-- one coordinate of a point of an edge, and of the edge in tenths
in_tenths : (k n w o a b : ℤ) → n *ℤ w ≡ o *ℤ (n *ℤ a +ℤ k *ℤ (b -ℤ a)) → n *ℤ (pos 10 *ℤ w) ≡ o *ℤ (n *ℤ (pos 10 *ℤ a) +ℤ k *ℤ (pos 10 *ℤ b -ℤ pos 10 *ℤ a))
in_tenths k n w o a b on =
    ring (n ∷ w ∷ []) (V 0 ⊗ (K (pos 10) ⊗ V 1)) (K (pos 10) ⊗ (V 0 ⊗ V 1)) tt
    ∙ ap (λ z. pos 10 *ℤ z) on
    ∙ ring (k ∷ n ∷ o ∷ a ∷ b ∷ []) (K (pos 10) ⊗ (V 2 ⊗ (V 1 ⊗ V 3 ⊕ V 0 ⊗ (V 4 ⊖ V 3))))
    (V 2 ⊗ (V 1 ⊗ (K (pos 10) ⊗ V 3) ⊕ V 0 ⊗ (K (pos 10) ⊗ V 4 ⊖ K (pos 10) ⊗ V 3))) tt

pub on_tenfold : (e : Seg) (w : RationalPoint) → IsBetween e.a e.b w → IsBetween (tenfold_edge e).a (tenfold_edge e).b (tenfold w)
on_tenfold e w on = record {
  at = on.at;
  across = in_tenths on.at.k on.at.n w.x w.over e.a.x e.b.x on.across;
  up = in_tenths on.at.k on.at.n w.y w.over e.a.y e.b.y on.up;
}

-- and back
in_units : (k n w o a b : ℤ) → n *ℤ w ≡ o *ℤ (n *ℤ (pos 10 *ℤ a) +ℤ k *ℤ (pos 10 *ℤ b -ℤ pos 10 *ℤ a)) → n *ℤ w ≡ (o *ℤ pos 10) *ℤ (n *ℤ a +ℤ k *ℤ (b -ℤ a))
in_units k n w o a b on =
    on
    ∙ ring (k ∷ n ∷ o ∷ a ∷ b ∷ []) (V 2 ⊗ (V 1 ⊗ (K (pos 10) ⊗ V 3) ⊕ V 0 ⊗ (K (pos 10) ⊗ V 4 ⊖ K (pos 10) ⊗ V 3)))
    ((V 2 ⊗ K (pos 10)) ⊗ (V 1 ⊗ V 3 ⊕ V 0 ⊗ (V 4 ⊖ V 3))) tt

-- the point of the drawing that is w in tenths
abbrev whole_point : RationalPoint → RationalPoint
whole_point w = record { x = w.x; y = w.y; over = w.over *ℤ pos 10; positive = let p = w.positive in omega (arith, ints) }

-- it is as near to another point in tenths
as_close : (num den : ℤ) (v w : RationalPoint) → IsCloser num den v w → IsCloser num den v (tenfold (whole_point w))
as_close num den v w close =
    let far = times_lt (pos 100) _ _ (record { lt = tt }) close in
    let x = V 2 ⊗ V 1 ⊖ V 0 ⊗ V 4 in
    let y = V 3 ⊗ V 1 ⊖ V 5 ⊗ V 4 in
    let x' = (K (pos 10) ⊗ V 2) ⊗ V 1 ⊖ V 0 ⊗ (V 4 ⊗ K (pos 10)) in
    let y' = (K (pos 10) ⊗ V 3) ⊗ V 1 ⊖ V 5 ⊗ (V 4 ⊗ K (pos 10)) in
    let left = ring (v.x ∷ v.over ∷ w.x ∷ w.y ∷ w.over ∷ v.y ∷ den ∷ [])
    (K (pos 100) ⊗ ((x ⊗ x ⊕ y ⊗ y) ⊗ (V 6 ⊗ V 6))) ((x' ⊗ x' ⊕ y' ⊗ y') ⊗ (V 6 ⊗ V 6)) tt in
    let right = ring (v.over ∷ w.over ∷ num ∷ []) (K (pos 100) ⊗ ((V 2 ⊗ V 2) ⊗ ((V 0 ⊗ V 1) ⊗ (V 0 ⊗ V 1))))
    ((V 2 ⊗ V 2) ⊗ ((V 0 ⊗ (V 1 ⊗ K (pos 10))) ⊗ (V 0 ⊗ (V 1 ⊗ K (pos 10))))) tt in
    omega (arith, ints)

module _ (cone : Cone) (mv : Move) where
  -- what a moment removes it reaches, in tenths
  reached_of_removed : (s : Moment) (w : RationalPoint) → IsRemoved cone mv s w → IsReached cone (sweep_between mv.from mv.to) s (tenfold w)
  reached_of_removed s w removed =
      subst (λ d. IsInDisc cone (place_at mv s) d s.n (tenfold w)) (sym (depth_at mv.from mv.to s)) removed

  removed_of_reached : (s : Moment) (w : RationalPoint) → IsReached cone (sweep_between mv.from mv.to) s w → IsRemoved cone mv s (whole_point w)
  removed_of_reached s w reached =
      let removed = subst (λ d. IsInDisc cone (place_at mv s) d s.n w) (depth_at mv.from mv.to s) reached in
      record { deep = removed.deep; close = as_close _ _ (place_at mv s) w removed.close }

  some_of_touched : (e : Seg) → IsTouched cone (sweep_between mv.from mv.to) (tenfold_edge e) → RemovesSome cone mv e
  some_of_touched e touched =
      let w = touched.point in
      let on = touched.on in
      record {
        moment = touched.moment;
        point = whole_point w;
        on = record {
          at = on.at;
          across = in_units on.at.k on.at.n w.x w.over e.a.x e.b.x on.across;
          up = in_units on.at.k on.at.n w.y w.over e.a.y e.b.y on.up;
        };
        removed = removed_of_reached touched.moment w touched.reached;
      }

pub removes_none : SweptLaw
unfolding PassesEdge
removes_none cone mv e passes s w on removed =
    spares_edge cone mv.from mv.to (tenfold_edge e) passes (tenfold w) (on_tenfold e w on) s (reached_of_removed cone mv s w removed)

pub cuts_or_passes : CutLaw
unfolding PassesEdge
cuts_or_passes cone mv e slope deep =
    elim (touches_or_keeps_off cone mv.from mv.to (tenfold_edge e) slope deep) [
      | inl touched ↦ inl (some_of_touched cone mv e touched)
      | inr passes ↦ inr passes
    ]

pub passes_exactly : ExactLaw
passes_exactly cone mv e slope deep = (
  (λ passes. removes_none cone mv e passes),
  (λ spares. elim (cuts_or_passes cone mv e slope deep) [
    | inl some ↦ absurd (spares some.moment some.point some.on some.removed)
    | inr passes ↦ passes
  ]),
)

-- ---- an edge beside a move

-- the bit is no wider than its greatest radius, in tenths
pub narrow_at : (cone : Cone) (z : ℕ) → ¬ IsTooWide cone z → cone.sn * z ≤ cone.sd * (10 * cone.rmax)
narrow_at cone z narrow =
    let e = ring (pos cone.sd ∷ pos cone.rmax ∷ []) (V 0 ⊗ (K (pos 10) ⊗ V 1)) (K (pos 10) ⊗ (V 0 ⊗ V 1)) tt in
    by_lt_z (pos 10 *ℤ (pos cone.sd *ℤ pos cone.rmax)) (pos cone.sn *ℤ pos z) (λ wide. absurd (narrow (omega (arith, ints)))) (λ least. omega (arith, ints))

-- a bit of some width that goes below the surface reaches some way
reach_some : (sn sd r z : ℕ) → 1 ≤ sn → 0 < z → sn * z ≤ sd * r → 1 ≤ r
reach_some sn sd zero z some deep narrow =
    let p = times_pos (pos sn) (pos z) (omega (arith, ints)) (omega (arith, ints)) in
    let none : sd * 0 ≡ 0 = omega arith in
    absurd (omega (arith, ints))
reach_some sn sd (suc r) z some deep narrow = omega arith

pub deep_reaches : (cone : Cone) (mv : Move) (r : ℕ) → 1 ≤ cone.sn → IsReach cone mv r → IsDeep mv → 1 ≤ r
deep_reaches cone mv r steep reach (inl start) = reach_some cone.sn cone.sd r (depth_of mv.from.h) steep start reach.start
deep_reaches cone mv r steep reach (inr finish) = reach_some cone.sn cone.sd r (depth_of mv.to.h) steep finish reach.finish

pub reach_passes : ReachLaw
unfolding PassesEdge
reach_passes cone mv r e some deep reach beside =
    beside_is_clear cone r mv.from mv.to (tenfold_edge e) some deep reach.start reach.finish beside

-- ---- moves that follow each other on a line, at one height

-- a point of a segment is on the way of a move at one height, by each coordinate
on_way : (k n q p r : ℤ) → n *ℤ q ≡ pos 1 *ℤ (n *ℤ p +ℤ k *ℤ (r -ℤ p)) → n *ℤ q ≡ (n -ℤ k) *ℤ p +ℤ k *ℤ r
on_way k n q p r on = on ∙ ring (k ∷ n ∷ p ∷ r ∷ []) (K (pos 1) ⊗ (V 1 ⊗ V 2 ⊕ V 0 ⊗ (V 3 ⊖ V 2))) ((V 1 ⊖ V 0) ⊗ V 2 ⊕ V 0 ⊗ V 3) tt

level_way : (h : ℤ) (p q r : GridPoint) → IsBetween p r (rational q) → IsOnWay (at_height h p) (at_height h q) (at_height h r)
level_way h p q r on = record {
  moment = on.at;
  across = on_way on.at.k on.at.n q.x p.x r.x on.across;
  up = on_way on.at.k on.at.n q.y p.y r.y on.up;
  height = ring (on.at.k ∷ on.at.n ∷ h ∷ []) (V 1 ⊗ V 2) ((V 1 ⊖ V 0) ⊗ V 2 ⊕ V 0 ⊗ V 2) tt;
}

-- below the surface the first deep end is the first
starts_deep : (n : ℕ) (p q : GridPoint) → first_deep (level_move (negsuc n) p q) ≡ p
starts_deep n p q = let deep : nat_lt 0 (suc n) ≡ true = grind arith in ap (λ b. if b then p else q) deep

module _ (edges : List Seg) (cone : Cone) (steep : 1 ≤ cone.sn) where
  -- at a height below the surface
  joined_deep : (n : ℕ) (p q r : GridPoint) → IsBetween p r (rational q)
      → IsClearDeep edges cone (level_move (negsuc n) p q) → IsClearDeep edges cone (level_move (negsuc n) q r) → IsClearDeep edges cone (level_move (negsuc n) p r)
  unfolding PassesEdge
  joined_deep n p q r on before after = record {
    narrow = before.narrow;
    passes = λ k d l.
        let join = is_joined cone _ _ _ (tenfold_edge (get_or edges k d)) steep (level_way (negsuc n) p q r on) in
        join.1 ((λ deep. before.passes k d l), (λ deep. after.passes k d l)) (inl (omega arith));
    inside = subst (λ u. IsInside edges (from_tenths u)) (starts_deep n p q ∙ sym (starts_deep n p r)) before.inside;
  }

  joined_clear : (h : ℤ) (p q r : GridPoint) → IsBetween p r (rational q)
      → IsClear edges cone (level_move h p q) → IsClear edges cone (level_move h q r) → IsClear edges cone (level_move h p r)
  joined_clear (pos n) p q r on before after = inl (λ deep. elim deep [ inl l ↦ absurd (omega arith) | inr l ↦ absurd (omega arith) ])
  joined_clear (negsuc n) p q r on before after =
      elim before [
        | inl shallow ↦ inl shallow
        | inr first ↦ elim after [ inl shallow ↦ inl shallow | inr second ↦ inr (joined_deep n p q r on first second) ]
      ]

pub run_is_clear : ClearRunLaw
run_is_clear edges cone h first p [] steep on clear = clear.0
run_is_clear edges cone h first p (q ∷ rest) steep on clear =
    run_is_clear edges cone h first q rest steep on.1 (joined_clear edges cone steep h first p q on.0 clear.0 clear.1.0, clear.1.1)
