-- The three tests of an edge against an open disc: by its start, by its end and by its line.
use Rattle.std.proofs.Common.{◌≡◌, ◌↔◌, ℤ, pos, ◌+ℤ◌, ◌-ℤ◌, ◌*ℤ◌, ◌≤ℤ◌, ◌<ℤ◌, List, [], ◌∷◌, arith, ap, ap₂}
use Rattle.std.proofs.lemmas.Int.{ints}
use Rattle.integer_algebra.proofs.Ring.{ring, Term, V, M, ◌⊕◌, ◌⊖◌, ◌⊗◌}
use Rattle.integer_algebra.proofs.Order.{cancel_le, times_le, times_nonpos, times_nonneg, times_pos, times_negative}
use Rattle.plane_exact.specs.Distance.{square}
use Rattle.plane_exact.specs.Plane.{RationalPoint}
use Rattle.plane_exact.specs.declared.point.Seg.{Seg}
use Rattle.plane_exact.proofs.Apart.{SegmentKeepsOff, far_of_off, off_of_far}
use Rattle.plane_exact.proofs.Fractions.{first, last}
use Rattle.plane_exact.proofs.Nearest.{length_squared, foot, nearest_start, nearest_finish, nearest_foot, off_by_nearest, at_first, at_last, at_foot}
use Rattle.tangent_disc.specs.OpenDisc.{IsOff}

module _ (v : RationalPoint) (reach : ℤ) (e : Seg) where
  -- the ways from the edge's ends to the centre, times its denominator, and the way along the edge
  abbrev start_x : ℤ
  start_x = v.x -ℤ v.over *ℤ e.a.x

  abbrev start_y : ℤ
  start_y = v.y -ℤ v.over *ℤ e.a.y

  abbrev finish_x : ℤ
  finish_x = v.x -ℤ v.over *ℤ e.b.x

  abbrev finish_y : ℤ
  finish_y = v.y -ℤ v.over *ℤ e.b.y

  abbrev along_x : ℤ
  along_x = e.b.x -ℤ e.a.x

  abbrev along_y : ℤ
  along_y = e.b.y -ℤ e.a.y

  -- the same as the lemmas on the nearest point have them
  abbrev ex : ℤ
  ex = v.over *ℤ e.a.x -ℤ v.x

  abbrev ey : ℤ
  ey = v.over *ℤ e.a.y -ℤ v.y

  abbrev dx : ℤ
  dx = v.over *ℤ along_x

  abbrev dy : ℤ
  dy = v.over *ℤ along_y

  abbrev atoms : List ℤ
  atoms = v.x ∷ v.y ∷ v.over ∷ e.a.x ∷ e.a.y ∷ e.b.x ∷ e.b.y ∷ reach ∷ []

  abbrev sx : Term
  sx = V 0 ⊖ V 2 ⊗ V 3

  abbrev sy : Term
  sy = V 1 ⊖ V 2 ⊗ V 4

  abbrev fx : Term
  fx = V 0 ⊖ V 2 ⊗ V 5

  abbrev fy : Term
  fy = V 1 ⊖ V 2 ⊗ V 6

  abbrev ax : Term
  ax = V 5 ⊖ V 3

  abbrev ay : Term
  ay = V 6 ⊖ V 4

  abbrev tex : Term
  tex = V 2 ⊗ V 3 ⊖ V 0

  abbrev tey : Term
  tey = V 2 ⊗ V 4 ⊖ V 1

  abbrev tdx : Term
  tdx = V 2 ⊗ ax

  abbrev tdy : Term
  tdy = V 2 ⊗ ay

  off_of_keeping : SegmentKeepsOff reach (pos 1) v e.a e.b → IsOff v reach e
  unfolding IsOff
  off_of_keeping keeps w on = let far = far_of_off reach (pos 1) v e.a e.b keeps w on in omega (arith, ints)

  keeping_of_off : IsOff v reach e → SegmentKeepsOff reach (pos 1) v e.a e.b
  unfolding IsOff
  keeping_of_off off = off_of_far reach (pos 1) v e.a e.b (λ w on. let h = off w on in omega (arith, ints))

  -- where the start is the nearest
  pub off_by_start : (start_x *ℤ along_x +ℤ start_y *ℤ along_y) ≤ℤ pos 0 → (reach ≤ℤ (square start_x +ℤ square start_y)) ↔ IsOff v reach e
  off_by_start away =
      let some = v.positive in
      let p = times_nonpos v.over _ (omega (arith, ints)) away in
      let turned = ring atoms (tex ⊗ tdx ⊕ tey ⊗ tdy) (M (V 2 ⊗ (sx ⊗ ax ⊕ sy ⊗ ay))) tt in
      let long = ring atoms (tex ⊗ tex ⊕ tey ⊗ tey) (sx ⊗ sx ⊕ sy ⊗ sy) tt in
      let test = at_first reach (pos 1) ex ey dx dy in (
        (λ h. off_of_keeping (off_by_nearest reach (pos 1) ex ey dx dy (omega (arith, ints)) first (nearest_start ex ey dx dy (omega (arith, ints))) (test.1 (omega (arith, ints))))),
        (λ off. let h = test.0 (keeping_of_off off first) in omega (arith, ints)),
      )

  -- where the end is
  pub off_by_finish : pos 0 ≤ℤ (finish_x *ℤ along_x +ℤ finish_y *ℤ along_y) → (reach ≤ℤ (square finish_x +ℤ square finish_y)) ↔ IsOff v reach e
  off_by_finish near =
      let some = v.positive in
      let p = times_nonneg v.over _ (omega (arith, ints)) near in
      let turned = ring atoms ((tex ⊕ tdx) ⊗ tdx ⊕ (tey ⊕ tdy) ⊗ tdy) (M (V 2 ⊗ (fx ⊗ ax ⊕ fy ⊗ ay))) tt in
      let long = ring atoms ((tex ⊕ tdx) ⊗ (tex ⊕ tdx) ⊕ (tey ⊕ tdy) ⊗ (tey ⊕ tdy)) (fx ⊗ fx ⊕ fy ⊗ fy) tt in
      let test = at_last reach (pos 1) ex ey dx dy in (
        (λ h. off_of_keeping (off_by_nearest reach (pos 1) ex ey dx dy (omega (arith, ints)) last (nearest_finish ex ey dx dy (omega (arith, ints))) (test.1 (omega (arith, ints))))),
        (λ off. let h = test.0 (keeping_of_off off last) in omega (arith, ints)),
      )

  -- where the foot of the centre on the edge's line is
  pub off_by_line : pos 0 <ℤ (start_x *ℤ along_x +ℤ start_y *ℤ along_y) → (finish_x *ℤ along_x +ℤ finish_y *ℤ along_y) <ℤ pos 0
      → ((reach *ℤ (square along_x +ℤ square along_y)) ≤ℤ square (start_x *ℤ along_y -ℤ start_y *ℤ along_x)) ↔ IsOff v reach e
  off_by_line facing_start facing_finish =
      let some = v.positive in
      let p = times_pos v.over _ (omega (arith, ints)) facing_start in
      let q = times_negative v.over _ (omega (arith, ints)) facing_finish in
      let at_start = ring atoms (tex ⊗ tdx ⊕ tey ⊗ tdy) (M (V 2 ⊗ (sx ⊗ ax ⊕ sy ⊗ ay))) tt in
      let at_finish = ring atoms ((tex ⊗ tdx ⊕ tey ⊗ tdy) ⊕ (tdx ⊗ tdx ⊕ tdy ⊗ tdy)) (M (V 2 ⊗ (fx ⊗ ax ⊕ fy ⊗ ay))) tt in
      let before : (ex *ℤ dx +ℤ ey *ℤ dy) ≤ℤ pos 0 = omega (arith, ints) in
      let after : pos 0 ≤ℤ (ex *ℤ dx +ℤ ey *ℤ dy +ℤ length_squared dx dy) = omega (arith, ints) in
      let long : pos 0 <ℤ length_squared dx dy = omega (arith, ints) in
      let O = v.over *ℤ v.over in
      let height = sx ⊗ ay ⊖ sy ⊗ ax in
      let beside = tdx ⊗ tey ⊖ tdy ⊗ tex in
      let left = ring atoms (V 7 ⊗ (tdx ⊗ tdx ⊕ tdy ⊗ tdy)) ((V 2 ⊗ V 2) ⊗ (V 7 ⊗ (ax ⊗ ax ⊕ ay ⊗ ay))) tt in
      let right = ring atoms (beside ⊗ beside) ((V 2 ⊗ V 2) ⊗ (height ⊗ height)) tt in
      let squared = times_pos v.over v.over (omega (arith, ints)) (omega (arith, ints)) in
      let f = foot ex ey dx dy before after long in
      let test = at_foot reach (pos 1) ex ey dx dy before after long in (
        (λ h. let more = times_le O _ _ (omega (arith, ints)) h in
            off_of_keeping (off_by_nearest reach (pos 1) ex ey dx dy (omega (arith, ints)) f (nearest_foot ex ey dx dy before after long) (test.1 (omega (arith, ints))))),
        (λ off. let h = test.0 (keeping_of_off off f) in cancel_le O _ _ squared (omega (arith, ints))),
      )

-- ---- the same, for ways that the code computed

module _ (v : RationalPoint) (reach : ℤ) (e : Seg) (x y ax ay : ℤ) (along_across : ax ≡ e.b.x -ℤ e.a.x) (along_up : ay ≡ e.b.y -ℤ e.a.y) (Yes : Type 0) where
  same_dot : (u w : ℤ) → x ≡ u → y ≡ w → x *ℤ ax +ℤ y *ℤ ay ≡ u *ℤ (e.b.x -ℤ e.a.x) +ℤ w *ℤ (e.b.y -ℤ e.a.y)
  same_dot u w across up = ap₂ (λ p q. p +ℤ q) (ap₂ (λ p q. p *ℤ q) across along_across) (ap₂ (λ p q. p *ℤ q) up along_up)

  same_length : (u w : ℤ) → x ≡ u → y ≡ w → square x +ℤ square y ≡ square u +ℤ square w
  same_length u w across up = ap₂ (λ p q. square p +ℤ square q) across up

  -- what was told of the length of the way, by the length of what it is
  long_answers : (u w : ℤ) → x ≡ u → y ≡ w → (reach ≤ℤ (square u +ℤ square w)) ↔ IsOff v reach e → Yes ↔ (reach ≤ℤ (square x +ℤ square y)) → Yes ↔ IsOff v reach e
  long_answers u w across up off told =
      let long = same_length u w across up in (
        (λ yes. let far = told.0 yes in off.0 (omega (arith, ints))),
        (λ is. let far = off.1 is in told.1 (omega (arith, ints))),
      )

  pub start_answers : x ≡ v.x -ℤ v.over *ℤ e.a.x → y ≡ v.y -ℤ v.over *ℤ e.a.y → (x *ℤ ax +ℤ y *ℤ ay) ≤ℤ pos 0 → Yes ↔ (reach ≤ℤ (square x +ℤ square y)) → Yes ↔ IsOff v reach e
  start_answers across up away told =
      let dot = same_dot _ _ across up in
      long_answers _ _ across up (off_by_start v reach e (omega (arith, ints))) told

  pub finish_answers : x ≡ v.x -ℤ v.over *ℤ e.b.x → y ≡ v.y -ℤ v.over *ℤ e.b.y → pos 0 ≤ℤ (x *ℤ ax +ℤ y *ℤ ay) → Yes ↔ (reach ≤ℤ (square x +ℤ square y)) → Yes ↔ IsOff v reach e
  finish_answers across up near told =
      let dot = same_dot _ _ across up in
      long_answers _ _ across up (off_by_finish v reach e (omega (arith, ints))) told

  pub line_answers : (fx fy : ℤ) → x ≡ v.x -ℤ v.over *ℤ e.a.x → y ≡ v.y -ℤ v.over *ℤ e.a.y → fx ≡ v.x -ℤ v.over *ℤ e.b.x → fy ≡ v.y -ℤ v.over *ℤ e.b.y
      → pos 0 <ℤ (x *ℤ ax +ℤ y *ℤ ay) → (fx *ℤ ax +ℤ fy *ℤ ay) <ℤ pos 0
      → Yes ↔ ((reach *ℤ (square ax +ℤ square ay)) ≤ℤ square (x *ℤ ay -ℤ y *ℤ ax)) → Yes ↔ IsOff v reach e
  line_answers fx fy across up finish_across finish_up facing_start facing_finish told =
      let dot = same_dot _ _ across up in
      let finish_dot = ap₂ (λ p q. p +ℤ q) (ap₂ (λ p q. p *ℤ q) finish_across along_across) (ap₂ (λ p q. p *ℤ q) finish_up along_up) in
      let long = ap (λ z. reach *ℤ z) (ap₂ (λ p q. square p +ℤ square q) along_across along_up) in
      let height = ap square (ap₂ (λ p q. p -ℤ q) (ap₂ (λ p q. p *ℤ q) across along_up) (ap₂ (λ p q. p *ℤ q) up along_across)) in
      let off = off_by_line v reach e (omega (arith, ints)) (omega (arith, ints)) in (
        (λ yes. let far = told.0 yes in off.0 (omega (arith, ints))),
        (λ is. let far = off.1 is in told.1 (omega (arith, ints))),
      )
