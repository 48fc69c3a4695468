-- The steps of a walk, as the code counts them: by the rules of Skips.
use Rattle.std.proofs.Common.{◌≡◌, ◌⊎◌, inl, inr, ℕ, suc, ◌+◌, ◌-◌, ◌*◌, ◌/◌, ◌<◌, ◌≤◌, List, ℤ, pos, ◌+ℤ◌, ◌-ℤ◌, ◌<ℤ◌, ◌≤ℤ◌, arith, ap, subst, sym, ◌∙◌}
use Rattle.std.proofs.lemmas.Bool.{cases_lt}
use Rattle.std.proofs.lemmas.Int.{ints, by_lt_z}
use Rattle.std.proofs.Math.Nat.{div-mul-le_self, le_of_mul-le-mul_left, mul-le-mul_left}
use Rattle.plane_exact.specs.Cone.{Cone}
use Rattle.plane_exact.specs.Plane.{GridPoint, rational}
use Rattle.plane_exact.specs.declared.point.Seg.{Seg}
use Rattle.engrave_model.specs.Depth.{IsGreatestDepth}
use Rattle.engrave_model.specs.Drawing.{edges_of}
use Rattle.engrave_model.specs.Inside.{IsInside}
use Rattle.depth_rule.specs.Clearance.{IsClearance}
use Rattle.depth_rule.specs.Deepest.{deepest_of}
use Rattle.cleanup_pocket.specs.Floors.{IsJoinedBy, point_on}
use Rattle.cleanup_pocket.specs.Pocket.{IsClearWay, IsGood}
use Rattle.plane_exact.specs.Plane.{IsCoordinate}
use Rattle.cleanup_pocket.specs.Walk.{AreJoinedFrom, IsBadAhead, IsFirstGood, IsInner, IsJoinedAhead, IsLastJoined, IsNoneGood}
use Rattle.cleanup_pocket.specs.declared.axis.Axis.{Axis}
use Rattle.depth_rule.proofs.DeepestDepths.{deepest_greatest}
use Rattle.cleanup_pocket.proofs.Places.{behind}
use Rattle.cleanup_pocket.proofs.Skips.{shallow_skip, wide_joined}

-- ---- numbers

-- sd times a quotient by sd
pub times_quotient : (sd n : ℕ) → sd * (n / sd) ≤ n
times_quotient sd n = let whole = div-mul-le_self n sd in omega arith

pub shallow_reaches : (sn sd deepest depth : ℕ) → depth < deepest → sd * (1 + sn * (deepest - depth - 1) / sd) + sn * (depth + 1) ≤ sd + sn * deepest
shallow_reaches sn sd deepest depth less =
    let e = deepest - depth - 1 in
    let parts : deepest ≡ depth + 1 + e = omega arith in
    let whole = times_quotient sd (sn * e) in
    let split : sn * deepest ≡ sn * (depth + 1 + e) = ap (λ n. sn * n) parts in
    omega arith

-- by the bit's numbers as they are read
pub shallow_read : (sn sd r s deepest depth : ℕ) → r ≡ sn → s ≡ sd → depth < deepest
    → sd * (1 + r * (deepest - depth - 1) / s) + sn * (depth + 1) ≤ sd + sn * deepest
shallow_read sn sd r s deepest depth same_sn same_sd less =
    subst (λ s. sd * (1 + r * (deepest - depth - 1) / s) + sn * (depth + 1) ≤ sd + sn * deepest) (sym same_sd)
    (subst (λ r. sd * (1 + r * (deepest - depth - 1) / sd) + sn * (depth + 1) ≤ sd + sn * deepest) (sym same_sn) (shallow_reaches sn sd deepest depth less))

-- a way shorter than what a clearance of r leaves beyond a reach, both times sd
pub wide_reaches : (sd reach r m : ℕ) → m < (sd * r - reach) / sd → sd * suc m + reach ≤ sd * r
wide_reaches sd reach r m less =
    let whole = times_quotient sd (sd * r - reach) in
    let part : sd * suc m ≤ sd * ((sd * r - reach) / sd) = mul-le-mul_left sd less in
    by_size (cases_lt reach (sd * r)) (omega arith)
  where
    by_size : (reach < sd * r) ⊎ (sd * r ≤ reach) → sd * suc m ≤ sd * r - reach → sd * suc m + reach ≤ sd * r
    by_size (inl far) within = omega arith
    by_size (inr near) within = omega arith

pub wide_read : (sn sd deepest clear r s s' d less : ℕ) → less ≡ s * clear - r * d → r ≡ sn → s ≡ sd → s' ≡ sd → d ≡ deepest
    → less / s' ≡ (sd * clear - sn * deepest) / sd
wide_read sn sd deepest clear r s s' d less is same_sn same_sd same_sd' same_depth =
    ap (λ n. n / s') (is ∙ ap (λ s. s * clear - r * d) same_sd ∙ ap (λ r. sd * clear - r * d) same_sn ∙ ap (λ d. sd * clear - sn * d) same_depth)
    ∙ ap (λ s. (sd * clear - sn * deepest) / s) same_sd'

-- no more than the clearance
pub wide_few : (sd clear r : ℕ) → 1 ≤ sd → (sd * clear - r) / sd ≤ clear
wide_few sd clear r some = le_of_mul-le-mul_left (let whole = times_quotient sd (sd * clear - r) in omega arith) some

-- ---- bad places

module _ (loops : List (List GridPoint)) (cone : Cone) (limit : ℕ) (axis : Axis) (line : ℤ) where
  abbrev edges : List Seg
  edges = edges_of loops

  abbrev Good : ℤ → Type 0
  Good place = IsGood edges cone limit axis line place

  abbrev Joined : ℤ → Type 0
  Joined place = IsJoinedBy (IsGood edges cone limit) (IsClearWay edges cone limit) axis line place

  -- a depth that isn't less than the deepest is it
  pub deep_ahead : (steep : 1 ≤ cone.sn) (place : ℤ) (z : ℕ) → IsGreatestDepth edges cone limit (point_on axis line place) z → deepest_of cone limit ≤ z → IsBadAhead Good place 0
  deep_ahead steep place z best deep =
      let most : z ≤ deepest_of cone limit = elim best.fits [ inl none ↦ omega arith | inr depth ↦ deepest_greatest cone limit steep z depth.allowed depth.narrow ] in
      let same : z ≡ deepest_of cone limit = omega arith in
      record {
        bad = λ t from to. absurd (omega (arith, ints));
        good = λ none. subst (IsGreatestDepth edges cone limit (point_on axis line place)) same best;
      }

  module _ (deep : 1 ≤ deepest_of cone limit) (over : 1 ≤ cone.sd) where
    pub shallow_ahead : (place : ℤ) (z n : ℕ) → IsInside edges (rational (point_on axis line place)) → IsGreatestDepth edges cone limit (point_on axis line place) z
        → z < deepest_of cone limit → 1 ≤ n → cone.sd * n + cone.sn * (z + 1) ≤ cone.sd + cone.sn * deepest_of cone limit → IsBadAhead Good place n
    shallow_ahead place z n inside best shallow some reach = record {
      bad = λ t from to.
          let way = behind place t from in
          let there = way.is in
          let below : suc way.steps ≤ n = omega (arith, ints) in
          let part : cone.sd * suc way.steps ≤ cone.sd * n = mul-le-mul_left cone.sd below in
          λ good. shallow_skip loops cone limit axis line deep place z way.steps over inside best shallow (omega arith) (subst Good there good);
      good = λ none. absurd (omega arith);
    }

    -- ---- joined places

    pub wide_ahead : (steep : 1 ≤ cone.sn) (place : ℤ) (r n : ℕ) → Good place → IsClearance edges (point_on axis line place) r
        → n ≡ (cone.sd * r - cone.sn * deepest_of cone limit) / cone.sd → AreJoinedFrom Joined place n
    wide_ahead steep place r n good clear is t from to =
        let way = behind place t from in
        let there = way.is in
        let below : way.steps < (cone.sd * r - cone.sn * deepest_of cone limit) / cone.sd = omega (arith, ints) in
        subst Joined (sym there)
        (wide_joined loops cone limit axis line deep steep over place r good clear way.steps (wide_reaches cone.sd (cone.sn * deepest_of cone limit) r way.steps below))

-- ---- one place

module _ (Joined : ℤ → Type 0) (place : ℤ) where
  pub one_ahead : Joined place → IsJoinedAhead Joined place 1
  one_ahead joined = record {
    joined = λ t from to. let same : place ≡ t = omega (arith, ints) in subst Joined same joined;
    apart = λ none. absurd (omega arith);
  }

  pub none_ahead : ¬ Joined place → IsJoinedAhead Joined place 0
  none_ahead apart = record { joined = λ t from to. absurd (omega (arith, ints)); apart = λ none. apart }

-- ---- the places that a loop has passed

-- up to x no place from the first on is good
pub record IsNoneSoFar (Good : ℤ → Type 0) (from x : ℤ) : Type 0 where
  pub order : from ≤ℤ x
  pub bad : (t : ℤ) → from ≤ℤ t → t <ℤ x → ¬ Good t
  -- no step is longer than the greatest depth
  pub within : x ≤ℤ pos 65534

-- up to the good place x all places from the first on are joined
pub record AreJoinedSoFar (Good Joined : ℤ → Type 0) (from x : ℤ) : Type 0 where
  pub order : from ≤ℤ x
  pub joined : (t : ℤ) → from ≤ℤ t → t <ℤ x → Joined t
  pub good : Good x

module _ (Good : ℤ → Type 0) (from : ℤ) where
  pub none_stepped : (x y : ℤ) (n : ℕ) → y ≡ x +ℤ pos n → x ≤ℤ pos 32767 → n ≤ 32767 → IsBadAhead Good x n → IsNoneSoFar Good from x → IsNoneSoFar Good from y
  none_stepped x y n is high few ahead far =
      let order = far.order in
      record {
        order = omega (arith, ints);
        bad = λ t above below. by_lt_z t x (λ before. far.bad t above before) (λ behind. ahead.bad t behind (omega (arith, ints)));
        within = omega (arith, ints);
      }

  pub none_ended : (x high : ℤ) → high <ℤ x → ((t : ℤ) → Good t → t ≤ℤ high) → IsNoneSoFar Good from x → IsNoneGood Good from
  none_ended x high past bounded far t above good = let within = bounded t good in far.bad t above (omega (arith, ints)) good

  pub found : (x : ℤ) (n : ℕ) → n ≡ 0 → IsBadAhead Good x n → IsNoneSoFar Good from x → IsFirstGood Good from x
  found x n none ahead far = record { from = far.order; bad = far.bad; good = ahead.good none }

  module _ (Joined : ℤ → Type 0) (next : (t : ℤ) → Joined t → Good (t +ℤ pos 1)) where
    pub joined_stepped : (x y : ℤ) (n : ℕ) → y ≡ x +ℤ pos n → 1 ≤ n → IsJoinedAhead Joined x n → AreJoinedSoFar Good Joined from x → AreJoinedSoFar Good Joined from y
    joined_stepped x y n is some ahead far =
        let order = far.order in
        let last : y -ℤ pos 1 +ℤ pos 1 ≡ y = omega (arith, ints) in
        record {
          order = omega (arith, ints);
          joined = λ t above below. by_lt_z t x (λ before. far.joined t above before) (λ behind. ahead.joined t behind (omega (arith, ints)));
          good = subst Good last (next (y -ℤ pos 1) (ahead.joined (y -ℤ pos 1) (omega (arith, ints)) (omega (arith, ints))));
        }

    pub joined_ended : (x : ℤ) (n : ℕ) → n ≡ 0 → IsJoinedAhead Joined x n → AreJoinedSoFar Good Joined from x → IsLastJoined Joined from x
    joined_ended x n none ahead far = record { order = far.order; joined = far.joined; apart = ahead.apart none }

-- a place between the ends is a coordinate
pub inner_on : (low high place : ℤ) → IsCoordinate low → IsCoordinate high → IsInner low high place → IsCoordinate place
inner_on low high place on_low on_high inner =
    let least = on_low.low in
    let most = on_high.high in
    let from = inner.from in
    let to = inner.to in
    record { low = omega (arith, ints); high = omega (arith, ints) }

-- a place behind the first and not behind the last is one too
pub passed_on : (first place high : ℤ) (from : ℤ) → first ≡ from → IsCoordinate from → IsCoordinate high → place ≤ℤ high → first ≤ℤ place → IsCoordinate place
passed_on first place high from is on_from on_high within order =
    let least = on_from.low in
    let most = on_high.high in
    record { low = omega (arith, ints); high = omega (arith, ints) }
