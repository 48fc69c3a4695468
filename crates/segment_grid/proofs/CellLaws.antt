-- The boxes of the cells that aren't asked don't reach the asked place.
use Rattle.std.proofs.Common.{◌≡◌, ℕ, ◌+◌, ◌*◌, ◌/◌, ◌<◌, ◌≤◌, Bool, true, false, refl, arith, ℤ, pos, negsuc, ◌-ℤ◌, ◌<ℤ◌, mul-le-mul_left}
use Rattle.std.specs.Prelude.{int_le}
use Rattle.std.proofs.lemmas.Bool.{and_left, and_right}
use Rattle.std.proofs.lemmas.Int.{ints}
use Rattle.lane_kernels.specs.Boxes.{overlap}
use Rattle.segment_grid.specs.Cells.{IsIn, first_from, end_from}

not_le : (x y : ℤ) → y <ℤ x → int_le x y ≡ false
not_le x y l = cases (int_le x y) refl
  where
    cases : (b : Bool) → int_le x y ≡ b → b ≡ false
    cases true e = absurd (omega (arith, ints, e, l))
    cases false e = refl

-- two cells on, a range of the size of a cell doesn't reach
far_before : (side offset past : ℕ) → 1 ≤ side → offset / side + 2 ≤ past / side → offset + side < past
far_before side offset past s l =
    let far : side * (offset / side + 2) ≤ side * (past / side) = mul-le-mul_left side l in
    omega (arith, far)

far_after : (side offset past : ℕ) → 1 ≤ side → past / side + 1 ≤ offset / side → past < offset
far_after side offset past s l =
    let far : side * (past / side + 1) ≤ side * (offset / side) = mul-le-mul_left side l in
    omega (arith, far)

module _ (origin : ℤ) (side c : ℕ) (low high : ℤ) (wide : 1 ≤ side) (in' : IsIn origin side c low high) (q0 q1 : ℤ) where
  before : (z : ℤ) → z ≡ q0 -ℤ origin → c < first_from z side → high <ℤ q0
  before (pos past) e l =
      let far : in'.offset + side < past = far_before side in'.offset past wide (omega (arith, l, in'.cell)) in
      omega (arith, ints, e, far, in'.is, in'.short)
  before (negsuc n) e l = absurd (omega (arith, l))

  after : (z : ℤ) → z ≡ q1 -ℤ origin → end_from z side ≤ c → q1 <ℤ low
  after (pos past) e l =
      let far : past < in'.offset = far_after side in'.offset past wide (omega (arith, l, in'.cell)) in
      omega (arith, ints, e, far, in'.is)
  after (negsuc n) e l = omega (arith, ints, e, in'.is)

  -- in a cell before the first that is asked
  pub before_cells : c < first_from (q0 -ℤ origin) side → overlap q0 q1 low high ≡ false
  unfolding overlap
  before_cells l = and_right (int_le low q1) (int_le q0 high) (not_le q0 high (before (q0 -ℤ origin) refl l))

  -- in a cell from the end of those that are asked on
  pub after_cells : end_from (q1 -ℤ origin) side ≤ c → overlap q0 q1 low high ≡ false
  unfolding overlap
  after_cells l = and_left (int_le low q1) (int_le q0 high) (not_le low q1 (after (q1 -ℤ origin) refl l))
