-- The steps of a walk over the floor of a flat bit: what the clearance of a place tells of those behind it.
use Rattle.std.proofs.Common.{◌≡◌, ◌↔◌, Bool, IsTrue, ℕ, suc, ◌+◌, ◌-◌, ◌*◌, ◌/◌, ◌<◌, ◌≤◌, List, [], ◌∷◌, ℤ, pos, neg_ℤ, ◌+ℤ◌, ◌*ℤ◌, ◌≤ℤ◌, arith, ap₂, subst, sym, ◌∙◌}
use Rattle.std.proofs.lemmas.Int.{ints}
use Rattle.std.proofs.Math.Nat.{div-le_of_le-mul, div-lt_iff_lt-mul, lt_of_mul-lt-mul_left, mul-le-mul_left}
use Rattle.integer_algebra.proofs.Ring.{ring, V, K, ◌⊕◌, ◌⊗◌}
use Rattle.plane_exact.specs.Cone.{Cone}
use Rattle.plane_exact.specs.Plane.{GridPoint, rational}
use Rattle.plane_exact.specs.declared.point.Seg.{Seg}
use Rattle.engrave_model.specs.Drawing.{edges_of}
use Rattle.engrave_model.specs.Inside.{IsInside}
use Rattle.depth_rule.specs.Clearance.{IsClearance}
use Rattle.depth_rule.specs.Deepest.{deepest_of}
use Rattle.depth_rule.specs.Greatest.{IsGreatestUpTo}
use Rattle.cleanup_pocket.specs.Floors.{IsJoinedBy, point_on}
use Rattle.cleanup_pocket.specs.Walk.{AreJoinedFrom, IsBadAhead, IsJoinedAhead}
use Rattle.cleanup_pocket.specs.declared.axis.Axis.{Axis}
use Rattle.cleanup_pocket.proofs.Ahead.{none_ahead, one_ahead, times_quotient, wide_reaches}
use Rattle.cleanup_pocket.proofs.Near.{beside_back, beside_on, same_side, up_to, up_to_back}
use Rattle.cleanup_pocket.proofs.Places.{behind}
use Rattle.cleanup_pocket.proofs.Shifted.{IsReaching, closer_beside}
use Rattle.flat_bit.specs.Apart.{IsApart}
use Rattle.flat_bit.specs.Flat.{IsFlatGood, IsFlatWay, flat_reach}
use Rattle.flat_bit.proofs.Neighbours.{neighbours_joined}

-- ---- numbers

-- r and a way of n make at most reach / over
reaches_back : (reach over r n : ℕ) → 1 ≤ over → over * (r + n) ≤ reach → IsReaching (pos r) (pos 1) (pos reach) (pos over) (pos n) (pos 1)
reaches_back reach over r n some within =
    let most : (pos over *ℤ pos r +ℤ pos over *ℤ pos n) ≤ℤ pos reach = omega (arith, ints) in
    let left = ring (pos over ∷ pos r ∷ pos n ∷ []) (V 0 ⊗ (V 1 ⊗ K (pos 1) ⊕ K (pos 1) ⊗ V 2)) (V 0 ⊗ V 1 ⊕ V 0 ⊗ V 2) tt in
    record {
      num_sign = omega (arith, ints);
      den_sign = omega (arith, ints);
      per_sign = omega (arith, ints);
      m_sign = omega (arith, ints);
      n_sign = omega (arith, ints);
      reach = omega (arith, ints);
    }

-- reach / over and a way of n make at most r
reaches_on : (reach over r n : ℕ) → 1 ≤ over → over * n + reach ≤ over * r → IsReaching (pos reach) (pos over) (pos r) (pos 1) (pos n) (pos 1)
reaches_on reach over r n some within =
    let most : (pos over *ℤ pos n +ℤ pos reach) ≤ℤ (pos over *ℤ pos r) = omega (arith, ints) in
    let left = ring (pos over ∷ pos n ∷ pos reach ∷ []) (K (pos 1) ⊗ (V 2 ⊗ K (pos 1) ⊕ V 0 ⊗ V 1)) (V 0 ⊗ V 1 ⊕ V 2) tt in
    let right = ring (pos over ∷ pos r ∷ []) (V 1 ⊗ (V 0 ⊗ K (pos 1))) (V 0 ⊗ V 1) tt in
    record {
      num_sign = omega (arith, ints);
      den_sign = omega (arith, ints);
      per_sign = omega (arith, ints);
      m_sign = omega (arith, ints);
      n_sign = omega (arith, ints);
      reach = omega (arith, ints);
    }

-- more than the whole part of reach / over is at least that
above_whole : (reach over r : ℕ) → 1 ≤ over → reach / over < r → over * 0 + reach ≤ over * r
above_whole reach over r some less = let more = (div-lt_iff_lt-mul some).0 less in omega arith

-- by the numbers as they are read
pub few_whole : (sd reach s : ℕ) → reach ≤ 16382 * sd → s ≡ sd → reach / s ≤ 16382
few_whole sd reach s most is = div-le_of_le-mul s (omega arith)

pub wide_read : (sd reach clear r s s' less : ℕ) → less ≡ s * clear - r → r ≡ reach → s ≡ sd → s' ≡ sd → less / s' ≡ (sd * clear - reach) / sd
wide_read sd reach clear r s s' less is same_reach same_sd same_sd' = ap₂ (λ n s. n / s) (is ∙ ap₂ (λ s r. s * clear - r) same_sd same_reach) same_sd'

module _ (loops : List (List GridPoint)) (cone : Cone) (limit radius : ℕ) (axis : Axis) (line : ℤ) (over : 1 ≤ cone.sd) where
  abbrev edges : List Seg
  edges = edges_of loops

  abbrev reach : ℕ
  reach = flat_reach cone radius (deepest_of cone limit)

  abbrev at : ℤ → GridPoint
  at place = point_on axis line place

  abbrev Good : ℤ → Type 0
  Good place = IsFlatGood edges cone limit radius axis line place

  abbrev Joined : ℤ → Type 0
  Joined place = IsJoinedBy (IsFlatGood edges cone limit radius) (IsFlatWay edges cone limit radius) axis line place

  -- ---- places too near to an edge

  -- behind a place whose clearance is c, an edge is nearer than by one more than that and the way
  near_skip : (place : ℤ) (c cap n : ℕ) → IsGreatestUpTo (IsClearance edges (at place)) cap c → c < cap → cone.sd * (suc c + n) ≤ reach → ¬ Good (place +ℤ pos n)
  unfolding IsClearance
  near_skip place c cap n clear below within good =
      let more : suc c ≤ c = clear.greatest (suc c) below (λ w on close. good.apart w on
      (closer_beside (pos (suc c)) (pos 1) (pos reach) (pos cone.sd) (pos n) (neg_ℤ (pos n)) (rational (at place)) (at (place +ℤ pos n)) w
      (reaches_back reach cone.sd (suc c) n over within) (up_to_back n) (beside_back axis line place (pos n)) close)) in
      omega arith

  pub near_ahead : (place : ℤ) (c cap whole : ℕ) → IsGreatestUpTo (IsClearance edges (at place)) cap c → whole ≡ reach / cone.sd → c < whole → whole ≤ cap
      → IsBadAhead Good place (whole - c)
  near_ahead place c cap whole clear is near below = record {
    bad = λ t from to good.
        let way = behind place t from in
        let there = way.is in
        let short : suc c + way.steps ≤ reach / cone.sd = omega (arith, ints) in
        let part : cone.sd * (suc c + way.steps) ≤ cone.sd * (reach / cone.sd) = mul-le-mul_left cone.sd short in
        let most = times_quotient cone.sd reach in
        near_skip place c cap way.steps clear (omega arith) (omega arith) (subst Good there good);
    good = λ none. absurd (omega arith);
  }

  -- where the place itself is good, or isn't; by the numbers as they are read
  pub apart_read : (place : ℤ) (p : GridPoint) (r s : ℕ) (test : Bool) → p ≡ at place → r ≡ reach → s ≡ cone.sd → IsTrue test ↔ IsApart edges r s (rational p)
      → IsTrue test ↔ IsApart edges reach cone.sd (rational (at place))
  apart_read place p r s test there same_reach same_sd is =
      subst (λ p. IsTrue test ↔ IsApart edges reach cone.sd (rational p)) there
      (subst (λ s. IsTrue test ↔ IsApart edges reach s (rational p)) same_sd (subst (λ r. IsTrue test ↔ IsApart edges r s (rational p)) same_reach is))

  pub good_ahead : (place : ℤ) → Good place → IsBadAhead Good place 0
  good_ahead place good = record { bad = λ t from to. absurd (omega (arith, ints)); good = λ none. good }

  pub bad_ahead : (place : ℤ) → ¬ Good place → IsBadAhead Good place 1
  bad_ahead place bad = record {
    bad = λ t from to good. let same : t ≡ place = omega (arith, ints) in bad (subst Good same good);
    good = λ none. absurd (omega arith);
  }

  -- ---- places far from all edges

  apart_near : (place : ℤ) (r n : ℕ) → IsClearance edges (at place) r → cone.sd * n + reach ≤ cone.sd * r → IsApart edges reach cone.sd (rational (at (place +ℤ pos n)))
  unfolding IsClearance
  apart_near place r n clear far w on close =
      clear w on (closer_beside (pos reach) (pos cone.sd) (pos r) (pos 1) (pos n) (pos n) (rational (at (place +ℤ pos n))) (at place) w
      (reaches_on reach cone.sd r n over far) (up_to n) (beside_on axis line place (pos n)) close)

  pub far_good : (place : ℤ) (r whole : ℕ) → IsInside edges (rational (at place)) → IsClearance edges (at place) r → whole ≡ reach / cone.sd → whole < r → Good place
  far_good place r whole inside clear is less = record {
    inside = inside;
    apart = subst (λ t. IsApart edges reach cone.sd (rational (at t))) (same_place place) (apart_near place r 0 clear (above_whole reach cone.sd r over (omega arith)));
  }
    where
      same_place : (t : ℤ) → t +ℤ pos 0 ≡ t
      same_place t = omega (arith, ints)

  -- ---- joined places

  module _ (some : 1 ≤ radius) where
    joined_next : (place : ℤ) → Good place → Good (place +ℤ pos 1) → Joined place
    joined_next place good next = record { this = good; next = next; way = neighbours_joined edges cone limit radius axis line place some over good next }

    module _ (place : ℤ) (r : ℕ) (good : Good place) (clear : IsClearance edges (at place) r) where
      nearer : (n : ℕ) → cone.sd * n + reach ≤ cone.sd * r → n < r
      nearer n far = lt_of_mul-lt-mul_left cone.sd (let more : cone.sd * 1 ≤ cone.sd * radius = mul-le-mul_left cone.sd some in omega arith)

      wide_good : (n : ℕ) → cone.sd * n + reach ≤ cone.sd * r → Good (place +ℤ pos n)
      wide_good n far = record { inside = (same_side loops axis line place r clear n (nearer n far)).0 good.inside; apart = apart_near place r n clear far }

      wide_joined : (n : ℕ) → cone.sd * suc n + reach ≤ cone.sd * r → Joined (place +ℤ pos n)
      wide_joined n far = joined_next (place +ℤ pos n) (wide_good n (omega arith)) (subst Good (next_place place n) (wide_good (suc n) far))
        where
          next_place : (place : ℤ) (n : ℕ) → place +ℤ pos (suc n) ≡ place +ℤ pos n +ℤ pos 1
          next_place place n = omega (arith, ints)

      pub wide_ahead : (n : ℕ) → n ≡ (cone.sd * r - reach) / cone.sd → AreJoinedFrom Joined place n
      wide_ahead n is t from to =
          let way = behind place t from in
          let there = way.is in
          let below : way.steps < (cone.sd * r - reach) / cone.sd = omega (arith, ints) in
          subst Joined (sym there) (wide_joined way.steps (wide_reaches cone.sd reach r way.steps below))

    -- by what is known of the next place
    module _ (place : ℤ) (n : ℕ) (ahead : IsBadAhead Good (place +ℤ pos 1) n) where
      pub next_good : Good place → n ≡ 0 → IsJoinedAhead Joined place 1
      next_good good none = one_ahead Joined place (joined_next place good (ahead.good none))

      pub next_bad : 1 ≤ n → IsJoinedAhead Joined place 0
      next_bad more = none_ahead Joined place (λ joined. ahead.bad (place +ℤ pos 1) (omega (arith, ints)) (omega (arith, ints)) joined.next)
