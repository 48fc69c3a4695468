-- The multiples of a pitch in a range.
use lib.IntN.{*ℤ_comm}
use Rattle.std.specs.Prelude.{ℤ, pos, negsuc, neg_ℤ, ◌+ℤ◌, ◌-ℤ◌, ◌*ℤ◌, ◌<ℤ◌, ◌≤ℤ◌}
use Rattle.std.specs.Int.{int_rem_euclid}
use Rattle.std.proofs.Common.{◌≡◌, ℕ, ◌+◌, ◌-◌, ◌*◌, ◌/◌, ◌%◌, ◌<◌, ◌≤◌, refl, ap, subst, sym, ◌∙◌, inl, inr, arith, mul-le-mul_right}
use Rattle.std.proofs.lemmas.Bool.{cases_lt}
use Rattle.std.proofs.lemmas.Int.{ints, int_rem_euclid_is}
use Rattle.integer_algebra.proofs.Order.{cancel_lt, minus_times}
use Rattle.integer_algebra.proofs.Ring.{plus_times, times_plus}
use Rattle.plane_exact.specs.Plane.{IsCoordinate}
use Rattle.plane_exact.proofs.Stored.{narrow}
use Rattle.depth_rule.specs.Ticks.{AreTicks, IsMultiple}

-- z as a natural number
pub record IsNatural (z : ℤ) : Type 0 where
  pub number : ℕ
  pub is : z ≡ pos number

pub natural_of : (z : ℤ) → pos 0 ≤ℤ z → IsNatural z
natural_of (pos n) low = record { number = n; is = refl }
natural_of (negsuc n) low = absurd (omega (arith, ints))

-- z is one of so many numbers at this pitch, from the first on
pub record IsTick (first : ℤ) (pitch count : ℕ) (z : ℤ) : Type 0 where
  pub number : ℕ
  pub below : number < count
  pub is : z ≡ first +ℤ pos (number * pitch)

-- z is so many pitches above the first
record IsAbove (first : ℤ) (pitch : ℕ) (z : ℤ) : Type 0 where
  number : ℕ
  is : z ≡ first +ℤ pos (number * pitch)

module _ (pitch : ℕ) (apart : 1 ≤ pitch) where
  -- a multiple that isn't a whole pitch below another is some pitches above it
  steps_up : (first z : ℤ) → IsMultiple pitch first → IsMultiple pitch z → first <ℤ (z +ℤ pos pitch) → IsAbove first pitch z
  steps_up first z from to less =
      let f = from.times in
      let t = to.times in
      let from_is : first ≡ pos pitch *ℤ f = from.is ∙ *ℤ_comm f (pos pitch) in
      let to_is : z ≡ pos pitch *ℤ t = to.is ∙ *ℤ_comm t (pos pitch) in
      let next = times_plus (pos pitch) t (pos 1) in
      let order : f <ℤ (t +ℤ pos 1) = cancel_lt (pos pitch) f (t +ℤ pos 1) (omega (arith, ints)) (omega (arith, ints)) in
      let steps = natural_of (t -ℤ f) (omega (arith, ints)) in
      let i = steps.number in
      let sum : t ≡ f +ℤ pos i = (let difference = steps.is in omega (arith, ints)) in
      record { number = i; is = to.is ∙ ap (λ t. t *ℤ pos pitch) sum ∙ plus_times f (pos i) (pos pitch) ∙ ap (λ z. z +ℤ pos (i * pitch)) (sym from.is) }

  multiple_up : (first : ℤ) (i : ℕ) → IsMultiple pitch first → IsMultiple pitch (first +ℤ pos (i * pitch))
  multiple_up first i from = record {
    times = from.times +ℤ pos i;
    is = ap (λ z. z +ℤ pos (i * pitch)) from.is ∙ sym (plus_times from.times (pos i) (pos pitch));
  }

  -- no multiple at or above `low` is below the first that is
  pub least_multiple : (low first z : ℤ) → IsMultiple pitch first → first <ℤ (low +ℤ pos pitch) → IsMultiple pitch z → low ≤ℤ z → first ≤ℤ z
  least_multiple low first z from next to above =
      let up = steps_up first z from to (omega (arith, ints)) in
      let is = up.is in omega (arith, ints)

  module _ (low high first : ℤ) (count : ℕ) (are : AreTicks low high pitch first count) where
    pub tick_of : (z : ℤ) → IsMultiple pitch z → low ≤ℤ z → z ≤ℤ high → IsTick first pitch count z
    tick_of z to above under =
        let next = are.next in
        let behind = are.behind in
        let up = steps_up first z are.multiple to (omega (arith, ints)) in
        let is = up.is in
        let less : up.number * pitch < count * pitch = omega (arith, ints) in
        record {
          number = up.number;
          below = elim (cases_lt up.number count) [
            | inl below ↦ below
            | inr past ↦ let more : count * pitch ≤ up.number * pitch = mul-le-mul_right pitch past in absurd (omega arith)
          ];
          is = is;
        }

    pub tick_multiple : (z : ℤ) → IsTick first pitch count z → IsMultiple pitch z
    tick_multiple z tick = subst (IsMultiple pitch) (sym tick.is) (multiple_up first tick.number are.multiple)

    pub tick_above : (z : ℤ) → IsTick first pitch count z → low ≤ℤ z
    tick_above z tick = let above = are.above in let is = tick.is in omega (arith, ints)

    pub tick_under : (z : ℤ) → IsTick first pitch count z → z ≤ℤ high
    tick_under z tick =
        let below = tick.below in
        let last = are.last in
        let is = tick.is in
        let few : tick.number * pitch ≤ (count - 1) * pitch = mul-le-mul_right pitch (omega arith) in
        omega (arith, ints)

-- ---- the first multiple, and how many there are

module _ (low : ℤ) (pitch : ℕ) (on : IsCoordinate low) (apart : 1 ≤ pitch) (r first : ℤ) (rest : r ≡ int_rem_euclid (neg_ℤ low) (pos pitch)) (is : first ≡ low +ℤ r) where
  -- the rest, and how many pitches are left out
  record IsRest : Type 0 where
    quotient : ℕ
    small : ℕ
    less : small < pitch
    rest_is : r ≡ pos small
    sum : pos (32768 * pitch) ≡ low +ℤ pos small +ℤ pos (quotient * pitch)

  rest_of : IsRest
  rest_of =
      let most = on.high in
      let raised = natural_of (pos (32768 * pitch) -ℤ low) (omega (arith, ints)) in
      let m = raised.number in
      let m_is : neg_ℤ low +ℤ pos (32768 * pitch) ≡ pos m = (let is = raised.is in omega (arith, ints)) in
      record {
        quotient = m / pitch;
        small = m % pitch;
        less = omega arith;
        rest_is = rest ∙ int_rem_euclid_is (neg_ℤ low) (pos pitch) pitch 32768 m (omega arith) refl m_is;
        sum = (let parts : m ≡ pitch * (m / pitch) + m % pitch = omega arith in omega (arith, ints));
      }

  pub first_multiple : IsMultiple pitch first
  first_multiple =
      let of = rest_of in
      let sum = of.sum in
      let small = of.rest_is in
      record { times = pos 32768 -ℤ pos of.quotient; is = (let product = minus_times (pos 32768) (pos of.quotient) (pos pitch) in omega (arith, ints)) }

  pub first_above : low ≤ℤ first
  first_above = let of = rest_of in let small = of.rest_is in omega (arith, ints)

  pub first_next : first <ℤ (low +ℤ pos pitch)
  first_next = let of = rest_of in let small = of.rest_is in let less = of.less in omega (arith, ints)

-- how many multiples there are from the first to `high`, by how far it is
pub ticks_are : (low high first : ℤ) (pitch way : ℕ) → 1 ≤ pitch → IsMultiple pitch first → low ≤ℤ first → first <ℤ (low +ℤ pos pitch) → high ≡ first +ℤ pos way
    → AreTicks low high pitch first (way / pitch + 1)
ticks_are low high first pitch way apart multiple above next is =
    let q = way / pitch in
    let parts : way ≡ q * pitch + way % pitch = omega arith in
    let small : way % pitch < pitch = omega arith in
    let fewer : q + 1 - 1 ≡ q = omega arith in
    let same : (q + 1 - 1) * pitch ≡ q * pitch = ap (λ n. n * pitch) fewer in
    let more : (q + 1) * pitch ≡ q * pitch + pitch = omega arith in
    record { multiple = multiple; above = above; next = next; some = omega arith; last = omega (arith, ints); behind = omega (arith, ints) }

-- ---- as the code has them

module _ (low high first : ℤ) (pitch count : ℕ) (low_on : IsCoordinate low) (high_on : IsCoordinate high) (are : AreTicks low high pitch first count) where
  pub first_on : IsCoordinate first
  first_on =
      let least = low_on.low in
      let most = high_on.high in
      let above = are.above in
      let last = are.last in
      record { low = omega (arith, ints); high = omega (arith, ints) }

  pub last_on : IsCoordinate (first +ℤ pos ((count - 1) * pitch))
  last_on =
      let least = low_on.low in
      let most = high_on.high in
      let above = are.above in
      let last = are.last in
      record { low = omega (arith, ints); high = omega (arith, ints) }

-- by the ends as they are stored, and the first too
pub ticks_read : (low high r s first : ℤ) (pitch count : ℕ) → IsCoordinate low → IsCoordinate high → r ≡ low → s ≡ high → AreTicks (narrow r) (narrow s) pitch first count
    → AreTicks low high pitch (narrow first) count
ticks_read low high r s first pitch count low_on high_on r_is s_is are =
    let least = low_on.low in
    let less = low_on.high in
    let more = high_on.low in
    let most = high_on.high in
    let bottom : narrow r ≡ low = omega (arith, ints) in
    let top : narrow s ≡ high = omega (arith, ints) in
    let same = subst (λ z. AreTicks low z pitch first count) top (subst (λ z. AreTicks z (narrow s) pitch first count) bottom are) in
    let on = first_on low high first pitch count low_on high_on same in
    let left = on.low in
    let right = on.high in
    let stored : narrow first ≡ first = omega (arith, ints) in
    subst (λ z. AreTicks low high pitch z count) (sym stored) same
