-- The chains of a floor, as those of all its lines have come.
use Rattle.std.proofs.Common.{◌≡◌, inl, inr, ℕ, ◌≤◌, Bool, true, false, true≢false, List, [], arith, refl, subst, sym, ◌∙◌}
use Rattle.plane_exact.specs.Nodes.{GridNode}
use Rattle.plane_exact.specs.Plane.{GridPoint}
use Rattle.evenodd_region.specs.Bounds.{IsBoxOf, points_of}
use Rattle.cleanup_pocket.specs.Fault.{HasManyChains}
use Rattle.cleanup_pocket.specs.Floors.{AreFloorChains, AreWayChains, OfPlaces}
use Rattle.cleanup_pocket.specs.Kept.{IsGrown, IsKept}
use Rattle.cleanup_pocket.specs.declared.axis.Way.{Way}

-- ---- chains that come where there was none

module _ (Part : List (List GridNode) → Type 0) (before kept : List (List GridNode)) (has_more : Bool) (empty : before ≡ []) (one : IsGrown Part before false kept has_more) where
  none_yet : IsKept [] before false
  none_yet = inl (record { none = refl; same = empty; few = omega arith })

  all_came : has_more ≡ false → Part kept
  all_came few = elim (one.grown [] none_yet) [ inl all ↦ subst Part (sym all.same) one.is | inr many ↦ absurd (true≢false (sym many.more ∙ few)) ]

  too_many_came : has_more ≡ true → HasManyChains Part
  too_many_came more = elim (one.grown [] none_yet) [
    | inl all ↦ absurd (true≢false (sym more ∙ all.none))
    | inr many ↦ record { chains = one.part; is = one.is; many = many.many }
  ]

-- ---- those of a floor

module _ (IsGood IsWay : OfPlaces) (depth : ℕ) (loops : List (List GridPoint)) (over : ℕ) (way : Way) where
  abbrev Floored : List (List GridNode) → Type 0
  Floored chains = AreFloorChains IsGood IsWay depth loops over way chains

  pub nothing_floored : points_of loops ≡ [] → Floored []
  nothing_floored empty = inl (record { nothing = inr empty; none = refl })

  module _ (low high : GridPoint) (box : IsBoxOf (points_of loops) low high) (some : 1 ≤ depth) where
    floored : (chains : List (List GridNode)) → AreWayChains IsGood IsWay depth over low high way chains → Floored chains
    floored chains lines = inr (record { deep = λ none. absurd (omega arith); low = low; high = high; box = box; lines = lines })

    module _ (before kept : List (List GridNode)) (has_more : Bool) (empty : before ≡ [])
        (one : IsGrown (AreWayChains IsGood IsWay depth over low high way) before false kept has_more) where
      pub all_floored : has_more ≡ false → Floored kept
      all_floored few = floored kept (all_came (AreWayChains IsGood IsWay depth over low high way) before kept has_more empty one few)

      pub too_many_floored : has_more ≡ true → HasManyChains Floored
      too_many_floored more =
          let many = too_many_came (AreWayChains IsGood IsWay depth over low high way) before kept has_more empty one more in
          record { chains = many.chains; is = floored many.chains many.is; many = many.many }
