-- A point of a row that a move removes, where one is: over an end, or where the path crosses the row.
use Rattle.std.proofs.Common.{◌≡◌, ◌⊎◌, ◌≤◌, inl, inr, ℕ, ℤ, pos, neg_ℤ, ◌+ℤ◌, ◌-ℤ◌, ◌*ℤ◌, ◌≤ℤ◌, ◌<ℤ◌, [], ◌∷◌, arith, refl, ap, ap₂, sym, ◌∙◌}
use Rattle.std.proofs.lemmas.Int.{ints, by_lt_z}
use Rattle.integer_algebra.proofs.Ring.{ring, V, K, M, times_plus, ◌⊕◌, ◌⊖◌, ◌⊗◌}
use Rattle.integer_algebra.proofs.Order.{root_lt, sign_of_negative, sign_of_pos, square_nonneg, times_neg, times_nonneg, times_nonpos, times_pos, times_zero}
use Rattle.plane_exact.specs.Cone.{Cone}
use Rattle.plane_exact.specs.Distance.{square}
use Rattle.plane_exact.specs.Heights.{GridPlace}
use Rattle.plane_exact.specs.Plane.{GridPoint, RationalPoint, rational}
use Rattle.engrave_model.specs.Removal.{tenfold}
use Rattle.swept_move.specs.Dip.{move_of}
use Rattle.integer_algebra.specs.Floors.{IsFloor}
use Rattle.swept_move.specs.Middle.{IsCrossing, IsMiddle, IsRowMissed, IsSight, MeetsRow}
use Rattle.swept_move.proofs.Cuts.{AreWays, removed_is, removes_is, removes_turned, same_ways}
use Rattle.swept_move.proofs.Dips.{Reaches}
use Rattle.swept_move.proofs.Hits.{IsNear}
use Rattle.swept_move.proofs.Nappe.{near_same, near_times}

-- ---- how far up a near way goes; z is as far up as y or as far down

within_reach : (sd sn x y z d : ℤ) → pos 0 ≤ℤ sn → z *ℤ z ≡ y *ℤ y → IsNear (square sd) (square sn) x y d → (sd *ℤ z) <ℤ (sn *ℤ d)
within_reach sd sn x y z d some same near =
    let close = near.close in
    let below = near.below in
    let across = times_nonneg (sd *ℤ sd) (x *ℤ x) (square_nonneg sd) (square_nonneg x) in
    let left = ring (sd ∷ x ∷ y ∷ []) ((V 0 ⊗ V 0) ⊗ (V 1 ⊗ V 1 ⊕ V 2 ⊗ V 2)) ((V 0 ⊗ V 0) ⊗ (V 1 ⊗ V 1) ⊕ (V 0 ⊗ V 0) ⊗ (V 2 ⊗ V 2)) tt in
    let up = ring (sd ∷ z ∷ []) ((V 0 ⊗ V 1) ⊗ (V 0 ⊗ V 1)) ((V 0 ⊗ V 0) ⊗ (V 1 ⊗ V 1)) tt ∙ ap (λ s. (sd *ℤ sd) *ℤ s) same in
    let right = ring (sn ∷ d ∷ []) ((V 0 ⊗ V 0) ⊗ (V 1 ⊗ V 1)) ((V 0 ⊗ V 1) ⊗ (V 0 ⊗ V 1)) tt in
    root_lt (sd *ℤ z) (sn *ℤ d) (omega (arith, ints)) (times_nonneg sn d some (omega (arith, ints)))

square_neg : (y : ℤ) → neg_ℤ y *ℤ neg_ℤ y ≡ y *ℤ y
square_neg y = ring (y ∷ []) (M (V 0) ⊗ M (V 0)) (V 0 ⊗ V 0) tt

natural : (n : ℕ) → pos 0 ≤ℤ pos n
natural n = omega (arith, ints)

-- the disc of an end that meets the row holds the point of the row over which the end is
near_row : (cone : Cone) (up depth : ℤ) → MeetsRow cone up depth → IsNear (square (pos cone.sd)) (square (pos cone.sn)) (pos 0) up depth
near_row cone up depth meets =
    let above = meets.above in
    let below = meets.below in
    let sd = pos cone.sd in
    let sn = pos cone.sn in
    let turned = times_neg sd up in
    let both = times_pos (sn *ℤ depth -ℤ sd *ℤ up) (sn *ℤ depth +ℤ sd *ℤ up) (omega (arith, ints)) (omega (arith, ints)) in
    let squares = ring (sn ∷ depth ∷ sd ∷ up ∷ []) ((V 0 ⊗ V 1 ⊖ V 2 ⊗ V 3) ⊗ (V 0 ⊗ V 1 ⊕ V 2 ⊗ V 3))
    ((V 0 ⊗ V 0) ⊗ (V 1 ⊗ V 1) ⊖ (V 2 ⊗ V 2) ⊗ (K (pos 0) ⊗ K (pos 0) ⊕ V 3 ⊗ V 3)) tt in
    record { below = sign_of_pos sn depth (natural cone.sn) (omega (arith, ints)); close = omega (arith, ints) }

-- ---- two ends that don't meet the row, and a place between them that does, lie on different sides of it

factors : (l m a b a' b' : ℤ) → pos 0 ≤ℤ l → pos 0 ≤ℤ m → pos 0 <ℤ (l *ℤ a +ℤ m *ℤ a') → pos 0 <ℤ (l *ℤ b +ℤ m *ℤ b') → a ≤ℤ pos 0 → b' ≤ℤ pos 0
    → (pos 0 <ℤ a') × (pos 0 <ℤ b) × ((a *ℤ b') <ℤ (a' *ℤ b))
factors l m a b a' b' start finish first last a_low b'_low =
    let p = times_nonpos l a start a_low in
    let q = times_nonpos m b' finish b'_low in
    let s = times_pos (m *ℤ a' +ℤ l *ℤ a) (l *ℤ b) (omega (arith, ints)) (omega (arith, ints)) in
    let t = times_nonneg (neg_ℤ (l *ℤ a)) (l *ℤ b +ℤ m *ℤ b') (omega (arith, ints)) (omega (arith, ints)) in
    let sum = ring (l ∷ m ∷ a ∷ b ∷ a' ∷ b' ∷ []) ((V 1 ⊗ V 4 ⊕ V 0 ⊗ V 2) ⊗ (V 0 ⊗ V 3) ⊕ M (V 0 ⊗ V 2) ⊗ (V 0 ⊗ V 3 ⊕ V 1 ⊗ V 5))
    ((V 0 ⊗ V 1) ⊗ (V 4 ⊗ V 3 ⊖ V 2 ⊗ V 5)) tt in
    let less = sign_of_pos (l *ℤ m) (a' *ℤ b -ℤ a *ℤ b') (times_nonneg l m start finish) (omega (arith, ints)) in
    (sign_of_pos m a' finish (omega (arith, ints)), sign_of_pos l b start (omega (arith, ints)), omega (arith, ints))

-- the first end lies above the row, the last below it
crossing_of : (sd sn l m y d y' d' : ℤ) → pos 0 ≤ℤ sd → pos 0 ≤ℤ sn → pos 0 ≤ℤ l → pos 0 ≤ℤ m
    → pos 0 <ℤ (l *ℤ (sn *ℤ d -ℤ sd *ℤ y) +ℤ m *ℤ (sn *ℤ d' -ℤ sd *ℤ y')) → pos 0 <ℤ (l *ℤ (sn *ℤ d +ℤ sd *ℤ y) +ℤ m *ℤ (sn *ℤ d' +ℤ sd *ℤ y'))
    → (sn *ℤ d) ≤ℤ (sd *ℤ y) → (sn *ℤ d') ≤ℤ neg_ℤ (sd *ℤ y') → IsCrossing y' d' y d
crossing_of sd sn l m y d y' d' sd_sign sn_sign start finish first last high low =
    let found = factors l m (sn *ℤ d -ℤ sd *ℤ y) (sn *ℤ d +ℤ sd *ℤ y) (sn *ℤ d' -ℤ sd *ℤ y') (sn *ℤ d' +ℤ sd *ℤ y') start finish first last (omega (arith, ints)) (omega (arith, ints)) in
    let down = found.0 in
    let up = found.1 in
    let less = found.2 in
    let e = ring (sd ∷ sn ∷ y ∷ d ∷ y' ∷ d' ∷ []) ((V 1 ⊗ V 5 ⊖ V 0 ⊗ V 4) ⊗ (V 1 ⊗ V 3 ⊕ V 0 ⊗ V 2) ⊖ (V 1 ⊗ V 3 ⊖ V 0 ⊗ V 2) ⊗ (V 1 ⊗ V 5 ⊕ V 0 ⊗ V 4))
    (K (pos 2) ⊗ ((V 0 ⊗ V 1) ⊗ (V 2 ⊗ V 5 ⊖ V 4 ⊗ V 3))) tt in
    let deep = sign_of_pos (sd *ℤ sn) (y *ℤ d' -ℤ y' *ℤ d) (times_nonneg sd sn sd_sign sn_sign) (omega (arith, ints)) in
    record { under = sign_of_negative sd y' sd_sign (omega (arith, ints)); over = sign_of_pos sd y sd_sign (omega (arith, ints)); deep = omega (arith, ints) }

-- an end that doesn't meet the row is too far above it, or too far below
off_row : (cone : Cone) (up depth : ℤ) → ¬ MeetsRow cone up depth → ((pos cone.sn *ℤ depth) ≤ℤ (pos cone.sd *ℤ up)) ⊎ ((pos cone.sn *ℤ depth) ≤ℤ neg_ℤ (pos cone.sd *ℤ up))
off_row cone up depth off =
    let turned = times_neg (pos cone.sd) up in
    by_lt_z (pos cone.sd *ℤ up) (pos cone.sn *ℤ depth)
    (λ above. inr (by_lt_z (pos cone.sd *ℤ neg_ℤ up) (pos cone.sn *ℤ depth) (λ below. absurd (off (record { above = above; below = below }))) (λ low. omega (arith, ints))))
    inl

-- of a place that holds a point of the row
module _ (cone : Cone) (x y d x' y' d' : ℤ) (reached : Reaches (square (pos cone.sd)) (square (pos cone.sn)) x y d x' y' d') where
  abbrev sd : ℤ
  sd = pos cone.sd

  abbrev sn : ℤ
  sn = pos cone.sn

  -- its disc reaches up to the row, if it is below, and down to it, if it is above
  pub near_both : (pos 0 <ℤ (reached.l *ℤ (sn *ℤ d -ℤ sd *ℤ y) +ℤ reached.m *ℤ (sn *ℤ d' -ℤ sd *ℤ y')))
      × (pos 0 <ℤ (reached.l *ℤ (sn *ℤ d +ℤ sd *ℤ y) +ℤ reached.m *ℤ (sn *ℤ d' +ℤ sd *ℤ y')))
  near_both =
      let l = reached.l in
      let m = reached.m in
      let Y = l *ℤ y +ℤ m *ℤ y' in
      let D = l *ℤ d +ℤ m *ℤ d' in
      let above = within_reach sd sn (l *ℤ x +ℤ m *ℤ x') Y Y D (natural cone.sn) refl reached.near in
      let below = within_reach sd sn (l *ℤ x +ℤ m *ℤ x') Y (neg_ℤ Y) D (natural cone.sn) (square_neg Y) reached.near in
      let turned = times_neg sd Y in
      let xs = sd ∷ sn ∷ l ∷ m ∷ y ∷ d ∷ y' ∷ d' ∷ [] in
      let e = ring xs (V 2 ⊗ (V 1 ⊗ V 5 ⊖ V 0 ⊗ V 4) ⊕ V 3 ⊗ (V 1 ⊗ V 7 ⊖ V 0 ⊗ V 6)) (V 1 ⊗ (V 2 ⊗ V 5 ⊕ V 3 ⊗ V 7) ⊖ V 0 ⊗ (V 2 ⊗ V 4 ⊕ V 3 ⊗ V 6)) tt in
      let e' = ring xs (V 2 ⊗ (V 1 ⊗ V 5 ⊕ V 0 ⊗ V 4) ⊕ V 3 ⊗ (V 1 ⊗ V 7 ⊕ V 0 ⊗ V 6)) (V 1 ⊗ (V 2 ⊗ V 5 ⊕ V 3 ⊗ V 7) ⊕ V 0 ⊗ (V 2 ⊗ V 4 ⊕ V 3 ⊗ V 6)) tt in
      (omega (arith, ints), omega (arith, ints))

  row_met : ¬ MeetsRow cone y d → ¬ MeetsRow cone y' d' → IsCrossing y d y' d' ⊎ IsCrossing y' d' y d
  row_met off off' =
      let l = reached.l in
      let m = reached.m in
      let first = near_both.0 in
      let last = near_both.1 in
      let none : (a a' : ℤ) → a ≤ℤ pos 0 → a' ≤ℤ pos 0 → ¬ (pos 0 <ℤ (l *ℤ a +ℤ m *ℤ a')) = λ a a' low low' some.
      let p = times_nonpos l a reached.start low in let q = times_nonpos m a' reached.finish low' in omega (arith, ints) in
      elim (off_row cone y d off) [
        | inl high ↦ elim (off_row cone y' d' off') [
          | inl high' ↦ absurd (none _ _ (omega (arith, ints)) (omega (arith, ints)) first)
          | inr low' ↦ inr (crossing_of sd sn l m y d y' d' (natural cone.sd) (natural cone.sn) reached.start reached.finish first last high low')
        ]
        | inr low ↦ elim (off_row cone y' d' off') [
          | inl high' ↦ inl (crossing_of sd sn m l y' d' y d (natural cone.sd) (natural cone.sn) reached.finish reached.start (omega (arith, ints)) (omega (arith, ints)) high' low)
          | inr low' ↦ absurd (none _ _ (omega (arith, ints)) (omega (arith, ints)) last)
        ]
      ]

-- ---- the three points

near_zero : (Q R x y d : ℤ) → x ≡ pos 0 → y ≡ pos 0 → pos 0 <ℤ R → pos 0 <ℤ d → IsNear Q R x y d
near_zero Q R x y d ex ey steep below =
    let square = times_pos R (d *ℤ d) steep (times_pos d d below below) in
    let none : Q *ℤ (x *ℤ x +ℤ y *ℤ y) ≡ pos 0 = ap₂ (λ u v. Q *ℤ (u *ℤ u +ℤ v *ℤ v)) ex ey ∙ times_zero Q in
    record { below = below; close = omega (arith, ints) }

module _ (cone : Cone) (f g : GridPlace) (p : GridPoint) {x y d x' y' d' : ℤ} (ways : AreWays f g p x y d x' y' d') where
  -- no point of the row is removed where none of the three is
  pub missed : ¬ MeetsRow cone y d → ¬ MeetsRow cone y' d' → ¬ IsCrossing y d y' d' → ¬ IsCrossing y' d' y d → IsRowMissed cone (move_of f g) p.y
  missed off off' apart apart' z removed =
      let q : GridPoint = record { x = z; y = p.y } in
      let there = (removed_is cone f g (tenfold (rational q))).0 ((removes_is cone f g (rational q)).0 removed) in
      let reached = (same_ways cone f g q _ y d _ y' d' (record { across = refl; up = ways.up; depth = ways.depth; across' = refl; up' = ways.up'; depth' = ways.depth' })).0 there in
      elim (row_met cone _ y d _ y' d' reached off off') [ inl first ↦ apart first | inr last ↦ apart' last ]

  -- the way between the ends goes over the point num / (10 den) to the right of p at the weights l and m
  middle_at : (num den l m i : ℤ) → pos 1 ≤ℤ den → pos 0 ≤ℤ l → pos 0 ≤ℤ m → l *ℤ (den *ℤ x -ℤ num) +ℤ m *ℤ (den *ℤ x' -ℤ num) ≡ pos 0
      → IsNear (square (pos cone.sd)) (square (pos cone.sn)) (pos 0) (l *ℤ y +ℤ m *ℤ y') (l *ℤ d +ℤ m *ℤ d') → IsFloor num (pos 10 *ℤ den) i
      → IsMiddle cone (move_of f g) p i
  middle_at num den l m i some start finish over near floor =
      let w : RationalPoint = record { x = (pos 10 *ℤ den) *ℤ p.x +ℤ num; y = (pos 10 *ℤ den) *ℤ p.y; over = pos 10 *ℤ den; positive = omega (arith, ints) } in
      let low = floor.low in
      let high = floor.high in
      let at_low = times_plus (pos 10 *ℤ den) p.x i in
      let at_high = times_plus (pos 10 *ℤ den) (p.x +ℤ i) (pos 1) in
      let at_next = times_plus (pos 10 *ℤ den) i (pos 1) in
      let large = near_times _ _ (pos 10) _ _ _ (record { lt = tt }) (near_times _ _ den _ _ _ (omega (arith, ints)) near) in
      record {
        point = w;
        low = omega (arith, ints);
        high = omega (arith, ints);
        up = refl;
        removed = (removes_is cone f g w).1 ((removed_is cone f g (tenfold w)).1 (record {
          l = l;
          m = m;
          start = start;
          finish = finish;
          near = near_same _ _ _ _ _ _ _ _ (sym (across f.at.x g.at.x p.x ways.across ways.across')) (sym (upward f.at.y g.at.y p.y ways.up ways.up')) (sym (deeper f.h g.h ways.depth ways.depth')) large;
        }));
      }
    where
      across : (a b c : ℤ) → x ≡ a -ℤ pos 10 *ℤ c → x' ≡ b -ℤ pos 10 *ℤ c
          → l *ℤ ((pos 10 *ℤ den) *ℤ a -ℤ pos 10 *ℤ ((pos 10 *ℤ den) *ℤ c +ℤ num)) +ℤ m *ℤ ((pos 10 *ℤ den) *ℤ b -ℤ pos 10 *ℤ ((pos 10 *ℤ den) *ℤ c +ℤ num)) ≡ pos 10 *ℤ (den *ℤ pos 0)
      across a b c e e' =
          let ten = K (pos 10) in
          let first = ten ⊗ V 3 in
          ring (l ∷ m ∷ num ∷ den ∷ a ∷ b ∷ c ∷ []) (V 0 ⊗ (first ⊗ V 4 ⊖ ten ⊗ (first ⊗ V 6 ⊕ V 2)) ⊕ V 1 ⊗ (first ⊗ V 5 ⊖ ten ⊗ (first ⊗ V 6 ⊕ V 2)))
          (ten ⊗ (V 0 ⊗ (V 3 ⊗ (V 4 ⊖ ten ⊗ V 6) ⊖ V 2) ⊕ V 1 ⊗ (V 3 ⊗ (V 5 ⊖ ten ⊗ V 6) ⊖ V 2))) tt
          ∙ ap₂ (λ u v. pos 10 *ℤ (l *ℤ (den *ℤ u -ℤ num) +ℤ m *ℤ (den *ℤ v -ℤ num))) (sym e) (sym e')
          ∙ ap (λ z. pos 10 *ℤ z) (over ∙ sym (times_zero den))

      upward : (a b c : ℤ) → y ≡ a -ℤ pos 10 *ℤ c → y' ≡ b -ℤ pos 10 *ℤ c
          → l *ℤ ((pos 10 *ℤ den) *ℤ a -ℤ pos 10 *ℤ ((pos 10 *ℤ den) *ℤ c)) +ℤ m *ℤ ((pos 10 *ℤ den) *ℤ b -ℤ pos 10 *ℤ ((pos 10 *ℤ den) *ℤ c)) ≡ pos 10 *ℤ (den *ℤ (l *ℤ y +ℤ m *ℤ y'))
      upward a b c e e' =
          let ten = K (pos 10) in
          let first = ten ⊗ V 2 in
          ring (l ∷ m ∷ den ∷ a ∷ b ∷ c ∷ []) (V 0 ⊗ (first ⊗ V 3 ⊖ ten ⊗ (first ⊗ V 5)) ⊕ V 1 ⊗ (first ⊗ V 4 ⊖ ten ⊗ (first ⊗ V 5)))
          (ten ⊗ (V 2 ⊗ (V 0 ⊗ (V 3 ⊖ ten ⊗ V 5) ⊕ V 1 ⊗ (V 4 ⊖ ten ⊗ V 5)))) tt
          ∙ ap₂ (λ u v. pos 10 *ℤ (den *ℤ (l *ℤ u +ℤ m *ℤ v))) (sym e) (sym e')

      deeper : (h k : ℤ) → d ≡ neg_ℤ h → d' ≡ neg_ℤ k → l *ℤ ((pos 10 *ℤ den) *ℤ neg_ℤ h) +ℤ m *ℤ ((pos 10 *ℤ den) *ℤ neg_ℤ k) ≡ pos 10 *ℤ (den *ℤ (l *ℤ d +ℤ m *ℤ d'))
      deeper h k e e' =
          ring (l ∷ m ∷ den ∷ h ∷ k ∷ []) (V 0 ⊗ ((K (pos 10) ⊗ V 2) ⊗ M (V 3)) ⊕ V 1 ⊗ ((K (pos 10) ⊗ V 2) ⊗ M (V 4)))
          (K (pos 10) ⊗ (V 2 ⊗ (V 0 ⊗ M (V 3) ⊕ V 1 ⊗ M (V 4)))) tt
          ∙ ap₂ (λ u v. pos 10 *ℤ (den *ℤ (l *ℤ u +ℤ m *ℤ v))) (sym e) (sym e')

  -- over the start
  pub middle_start : (i : ℤ) → MeetsRow cone y d → IsFloor x (pos 10) i → IsMiddle cone (move_of f g) p i
  middle_start i meets floor =
      middle_at x (pos 1) (pos 1) (pos 0) i (record { le = tt }) (record { le = tt }) (record { le = tt })
      (ring (x ∷ x' ∷ []) (K (pos 1) ⊗ (K (pos 1) ⊗ V 0 ⊖ V 0) ⊕ K (pos 0) ⊗ (K (pos 1) ⊗ V 1 ⊖ V 0)) (K (pos 0)) tt)
      (near_same _ _ _ _ _ _ _ _ refl (first y y') (first d d') (near_row cone y d meets)) floor
    where
      first : (a b : ℤ) → a ≡ pos 1 *ℤ a +ℤ pos 0 *ℤ b
      first a b = ring (a ∷ b ∷ []) (V 0) (K (pos 1) ⊗ V 0 ⊕ K (pos 0) ⊗ V 1) tt

  -- where the path crosses the row from below to above
  pub middle_crossing : (i : ℤ) → 1 ≤ cone.sn → IsCrossing y d y' d' → IsFloor (x *ℤ y' -ℤ y *ℤ x') (pos 10 *ℤ (y' -ℤ y)) i → IsMiddle cone (move_of f g) p i
  middle_crossing i wide is floor =
      let under = is.under in
      let over = is.over in
      let deep = is.deep in
      let steep : pos 0 <ℤ pos cone.sn = omega (arith, ints) in
      let depth = ring (y ∷ d ∷ y' ∷ d' ∷ []) (V 2 ⊗ V 1 ⊕ M (V 0) ⊗ V 3) (V 2 ⊗ V 1 ⊖ V 0 ⊗ V 3) tt in
      middle_at (x *ℤ y' -ℤ y *ℤ x') (y' -ℤ y) y' (neg_ℤ y) i (omega (arith, ints)) (omega (arith, ints)) (omega (arith, ints))
      (ring (x ∷ y ∷ x' ∷ y' ∷ []) (V 3 ⊗ ((V 3 ⊖ V 1) ⊗ V 0 ⊖ (V 0 ⊗ V 3 ⊖ V 1 ⊗ V 2)) ⊕ M (V 1) ⊗ ((V 3 ⊖ V 1) ⊗ V 2 ⊖ (V 0 ⊗ V 3 ⊖ V 1 ⊗ V 2))) (K (pos 0)) tt)
      (near_zero _ _ _ _ _ refl (ring (y ∷ y' ∷ []) (V 1 ⊗ V 0 ⊕ M (V 0) ⊗ V 1) (K (pos 0)) tt) (times_pos _ _ steep steep) (omega (arith, ints)))
      floor

pub ways_of : {f g : GridPlace} {p : GridPoint} {x y d x' y' d' : ℤ} → IsSight p f x y d → IsSight p g x' y' d' → AreWays f g p x y d x' y' d'
ways_of first last = record { across = first.across; up = first.up; depth = first.deep; across' = last.across; up' = last.up; depth' = last.deep }

-- a move turned round
pub middle_turned : (cone : Cone) (f g : GridPlace) (p : GridPoint) (i : ℤ) → IsMiddle cone (move_of f g) p i → IsMiddle cone (move_of g f) p i
middle_turned cone f g p i middle =
    record { point = middle.point; low = middle.low; high = middle.high; up = middle.up; removed = removes_turned cone f g middle.point middle.removed }
