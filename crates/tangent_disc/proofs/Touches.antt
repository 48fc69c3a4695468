-- The centres of the discs at a contact: their denominators and steps, and how far they go.
use Rattle.std.proofs.Common.{◌≡◌, ℕ, ◌≤◌, lit<, ℤ, pos, neg_ℤ, ◌+ℤ◌, ◌-ℤ◌, ◌*ℤ◌, ◌≤ℤ◌, [], ◌∷◌, w64, arith, ap, ap₂, refl, sym, subst}
use Rattle.std.proofs.lemmas.Int.{ints}
use Rattle.integer_algebra.specs.Ranges.{IsWithin}
use Rattle.integer_algebra.proofs.Ring.{ring, V, M, ◌⊕◌, ◌⊖◌, ◌⊗◌}
use Rattle.integer_algebra.proofs.Order.{product_up_to, root_le, square_nonneg, sum_up_to, times_le, times_mono, times_nonneg, times_pos}
use Rattle.plane_exact.specs.Distance.{square}
use Rattle.plane_exact.specs.Product.{dot_of}
use Rattle.plane_exact.specs.declared.point.Seg.{Seg}
use Rattle.plane_exact.proofs.Stored.{IsStoredUpTo, stored_up_to, wide}
use Rattle.plane_exact.proofs.Ranges.{wide_is}
use Rattle.evenodd_region.specs.Lookup.{IsNearGrid}
use Rattle.tangent_disc.specs.Tangent.{IsEdgePoint, centre_over, normal, point_x, point_y}
use Rattle.tangent_disc.specs.Touch.{IsDiscOf, IsTouchAt}
use Rattle.tangent_disc.specs.Ways.{IsAmongGrid, IsOpenDisc, IsStep, most_over}
use Rattle.tangent_disc.specs.declared.disc.Side.{Side}
use Rattle.tangent_disc.specs.declared.disc.Side.TheVariants.{Left, Right, Nowhere}
use Rattle.tangent_disc.specs.declared.edge_point.EdgePoint.{EdgePoint}
use Rattle.tangent_disc.specs.declared.open_disc.OpenDisc.{OpenDisc}
use Rattle.tangent_disc.specs.declared.ways.Progress.{Progress}
use Rattle.tangent_disc.proofs.Reach.{product_kept}

-- a normal is no longer than its edge
normal_length : (side : Side) (e : Seg) → (square (normal side e).x +ℤ square (normal side e).y) ≤ℤ dot_of e.a e.b e.b
normal_length Left e =
    let same = ring (e.a.x ∷ e.a.y ∷ e.b.x ∷ e.b.y ∷ []) ((V 1 ⊖ V 3) ⊗ (V 1 ⊖ V 3) ⊕ (V 2 ⊖ V 0) ⊗ (V 2 ⊖ V 0)) ((V 2 ⊖ V 0) ⊗ (V 2 ⊖ V 0) ⊕ (V 3 ⊖ V 1) ⊗ (V 3 ⊖ V 1)) tt in
    omega (arith, ints)
normal_length Right e =
    let same = ring (e.a.x ∷ e.a.y ∷ e.b.x ∷ e.b.y ∷ []) ((V 3 ⊖ V 1) ⊗ (V 3 ⊖ V 1) ⊕ (V 0 ⊖ V 2) ⊗ (V 0 ⊖ V 2)) ((V 2 ⊖ V 0) ⊗ (V 2 ⊖ V 0) ⊕ (V 3 ⊖ V 1) ⊗ (V 3 ⊖ V 1)) tt in
    omega (arith, ints)
normal_length Nowhere e =
    let p = square_nonneg (e.b.x -ℤ e.a.x) in
    let q = square_nonneg (e.b.y -ℤ e.a.y) in
    omega (arith, ints)

-- ---- making the centres

module _ (p : EdgePoint) (range : IsEdgePoint p) where
  pub over_kept : IsStoredUpTo w64 (pos 759242752) (centre_over p) (wide p.n *ℤ wide p.length)
  over_kept =
      let n_low = range.pieces.low in
      let n_high = range.pieces.high in
      let low = range.long.low in
      let high = range.long.high in
      product_kept 8192 92681 (wide p.n) (wide p.length) p.n p.length (wide_is p.n (omega (arith, ints))) (wide_is p.length (omega (arith, ints)))
      (record { low = omega (arith, ints); high = omega (arith, ints) }) (record { low = omega (arith, ints); high = omega (arith, ints) }) (lit< tt)

  over_some : pos 1 ≤ℤ centre_over p
  over_some =
      let n_low = range.pieces.low in
      let low = range.long.low in
      let p = times_pos p.n p.length (omega (arith, ints)) (omega (arith, ints)) in
      omega (arith, ints)

  over_small : centre_over p ≤ℤ most_over
  over_small =
      let n_low = range.pieces.low in
      let n_high = range.pieces.high in
      let low = range.long.low in
      let high = range.long.high in
      times_mono p.n (pos 8192) p.length (pos 92681) (omega (arith, ints)) n_high (omega (arith, ints)) high

  -- a step is at most 1 long
  step_short : (side : Side) (a b : ℤ) → a ≡ p.n *ℤ (normal side p.edge).x → b ≡ p.n *ℤ (normal side p.edge).y → (square a +ℤ square b) ≤ℤ square (centre_over p)
  step_short side a b across up =
      let mx = (normal side p.edge).x in
      let my = (normal side p.edge).y in
      let same = ap₂ (λ u v. square u +ℤ square v) across up in
      let parted = ring (p.n ∷ mx ∷ my ∷ []) ((V 0 ⊗ V 1) ⊗ (V 0 ⊗ V 1) ⊕ (V 0 ⊗ V 2) ⊗ (V 0 ⊗ V 2)) ((V 0 ⊗ V 0) ⊗ (V 1 ⊗ V 1 ⊕ V 2 ⊗ V 2)) tt in
      let whole = ring (p.n ∷ p.length ∷ []) ((V 0 ⊗ V 1) ⊗ (V 0 ⊗ V 1)) ((V 0 ⊗ V 0) ⊗ (V 1 ⊗ V 1)) tt in
      let long = normal_length side p.edge in
      let enough = range.enough in
      let more = times_le (square p.n) (square mx +ℤ square my) (square p.length) (square_nonneg p.n) (omega (arith, ints)) in
      omega (arith, ints)

  pub touch_at : (side : Side) (across up : Progress) (over size : ℤ) → across.start ≡ p.length *ℤ point_x p → up.start ≡ p.length *ℤ point_y p
      → across.step ≡ p.n *ℤ (normal side p.edge).x → up.step ≡ p.n *ℤ (normal side p.edge).y → IsAmongGrid across.start (centre_over p) → IsAmongGrid up.start (centre_over p)
      → over ≡ centre_over p → size ≡ square across.step +ℤ square up.step → IsTouchAt side p across up over size
  touch_at side across up over size start_x start_y step_x step_y among_x among_y denominator squared =
      let some = over_some in
      let small = over_small in
      let short = step_short side across.step up.step step_x step_y in
      let whole = ap₂ (λ u v. u *ℤ v) denominator denominator in
      record {
        ranged = range;
        start_x = start_x;
        start_y = start_y;
        step_x = step_x;
        step_y = step_y;
        denominator = denominator;
        some = omega (arith, ints);
        small = omega (arith, ints);
        among_x = subst (IsAmongGrid across.start) (sym denominator) among_x;
        among_y = subst (IsAmongGrid up.start) (sym denominator) among_y;
        squared = squared;
        short = omega (arith, ints);
      }

-- the square of a step's length, as the code makes it
module _ (a b : ℤ) (on_a : IsStep a) (on_b : IsStep b) where
  pub square_kept : (z : ℤ) → IsStep z → IsStoredUpTo w64 (pos 576449556464533504) (square z) (wide z *ℤ wide z)
  square_kept z on =
      let low = on.low in
      let high = on.high in
      product_kept 759242752 759242752 (wide z) (wide z) z z (wide_is z (omega (arith, ints))) (wide_is z (omega (arith, ints))) on on (lit< tt)

  pub size_kept : IsStoredUpTo w64 (pos 1152899112929067008) (square a +ℤ square b) (wide (wide a *ℤ wide a) +ℤ wide (wide b *ℤ wide b))
  size_kept = stored_up_to w64 1152899112929067008 _ _ (ap₂ (λ y z. y +ℤ z) (square_kept a on_a).value (square_kept b on_b).value)
      (sum_up_to _ _ _ _ (product_up_to most_over most_over a a on_a on_a) (product_up_to most_over most_over b b on_b on_b)) (lit< tt)

-- ---- the disc j

-- a coordinate of the centre is near the grid
near_grid : (start step other over : ℤ) (j : ℕ) → pos 1 ≤ℤ over → IsAmongGrid start over → (square step +ℤ square other) ≤ℤ square over → j ≤ 8191 → IsNearGrid (start +ℤ pos j *ℤ step) over
near_grid start step other over j some among short few =
    let s = square_nonneg other in
    let high = root_le step over (omega (arith, ints)) (omega (arith, ints)) in
    let turned = ring (step ∷ []) (M (V 0) ⊗ M (V 0)) (V 0 ⊗ V 0) tt in
    let low = root_le (neg_ℤ step) over (omega (arith, ints)) (omega (arith, ints)) in
    let up = times_le (pos j) step over (omega (arith, ints)) high in
    let down = times_le (pos j) (neg_ℤ over) step (omega (arith, ints)) (omega (arith, ints)) in
    let opposite = ring (pos j ∷ over ∷ []) (V 0 ⊗ M (V 1)) (M (V 0 ⊗ V 1)) tt in
    let most = times_mono (pos j) (pos 8191) over over (omega (arith, ints)) (omega (arith, ints)) (omega (arith, ints)) (omega (arith, ints)) in
    let among_low = among.low in
    let among_high = among.high in
    record { low = omega (arith, ints); high = omega (arith, ints) }

module _ (side : Side) (p : EdgePoint) (across up : Progress) (over size : ℤ) (touch : IsTouchAt side p across up over size) (j : ℕ) (few : j ≤ 8191) where
  short : (square across.step +ℤ square up.step) ≤ℤ square over
  short = let squared = touch.squared in let size_short = touch.short in omega (arith, ints)

  pub size_within : IsWithin (pos 0) (pos 576449556464533504) size
  size_within =
      let squared = touch.squared in
      let size_short = touch.short in
      let some = touch.some in
      let small = touch.small in
      let p = square_nonneg across.step in
      let q = square_nonneg up.step in
      let most = times_mono over most_over over most_over (omega (arith, ints)) small (omega (arith, ints)) small in
      record { low = omega (arith, ints); high = omega (arith, ints) }

  pub number_within : IsWithin (pos 0) (pos 67092481) (square (pos j))
  number_within =
      let p = square_nonneg (pos j) in
      let q = times_mono (pos j) (pos 8191) (pos j) (pos 8191) (omega (arith, ints)) (omega (arith, ints)) (omega (arith, ints)) (omega (arith, ints)) in
      record { low = omega (arith, ints); high = omega (arith, ints) }

  pub reach_within : IsWithin (pos 0) (pos 38675430914555141290983424) (square (pos j) *ℤ size)
  reach_within =
      let sizes = size_within in
      let numbers = number_within in
      let low = times_nonneg (square (pos j)) size numbers.low sizes.low in
      let high = times_mono (square (pos j)) (pos 67092481) size (pos 576449556464533504) numbers.low numbers.high sizes.low sizes.high in
      record { low = low; high = high }

  pub open_disc : (x y o r : ℤ) → x ≡ across.start +ℤ pos j *ℤ across.step → y ≡ up.start +ℤ pos j *ℤ up.step → o ≡ over → r ≡ square (pos j) *ℤ size → IsOpenDisc x y o r
  open_disc x y o r x_is y_is o_is r_is =
      let some = touch.some in
      let small = touch.small in
      let within = reach_within in
      let low = within.low in
      let high = within.high in
      let near_x = near_grid across.start across.step up.step over j some touch.among_x short few in
      let near_y = near_grid up.start up.step across.step over j some touch.among_y (let h = short in omega (arith, ints)) few in
      record {
        some = omega (arith, ints);
        small = omega (arith, ints);
        near_x = subst (IsNearGrid x) (sym o_is) (subst (λ z. IsNearGrid z over) (sym x_is) near_x);
        near_y = subst (IsNearGrid y) (sym o_is) (subst (λ z. IsNearGrid z over) (sym y_is) near_y);
        reaching = record { low = omega (arith, ints); high = omega (arith, ints) };
      }

-- the radius of the disc j is at most j
pub reach_short : (side : Side) (p : EdgePoint) (across up : Progress) (over size : ℤ) → IsTouchAt side p across up over size → (j : ℕ) (d : OpenDisc) → IsDiscOf side p j d
    → d.reach ≤ℤ square (pos j *ℤ d.over)
reach_short side p across up over size touch j d disc =
    let short = step_short p touch.ranged side _ _ refl refl in
    let more = times_le (square (pos j)) _ _ (square_nonneg (pos j)) short in
    let wide = disc.wide in
    let same = ring (pos j ∷ centre_over p ∷ []) ((V 0 ⊗ V 0) ⊗ (V 1 ⊗ V 1)) ((V 0 ⊗ V 1) ⊗ (V 0 ⊗ V 1)) tt in
    let over_same = ap (λ z. square (pos j *ℤ z)) disc.denominator in
    omega (arith, ints)
