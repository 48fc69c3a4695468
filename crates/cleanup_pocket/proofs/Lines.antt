-- The chains of one line, run by run, and where its good places are.
use Rattle.std.specs.Prelude.{All}
use Rattle.std.proofs.Common.{◌≡◌, ℕ, ◌<◌, Bool, List, [], ◌∷◌, ◌++◌, map, ℤ, pos, ◌+ℤ◌, ◌-ℤ◌, ◌<ℤ◌, arith, refl, ap, subst, sym, ◌∙◌, append_assoc}
use Rattle.std.proofs.lemmas.Int.{ints, by_lt_z}
use Rattle.std.proofs.lemmas.List.{map-append}
use Rattle.plane_exact.specs.Nodes.{GridNode}
use Rattle.plane_exact.specs.Plane.{GridPoint, IsCoordinate, rational}
use Rattle.engrave_model.specs.Drawing.{edges_of}
use Rattle.engrave_model.specs.Inside.{IsInside}
use Rattle.evenodd_region.specs.Bounds.{IsInBox, points_of}
use Rattle.evenodd_region.proofs.Bounds.{inside_in_box}
use Rattle.cleanup_pocket.specs.Kept.{IsGrown, IsKept}
use Rattle.cleanup_pocket.specs.Floors.{AreLineChains, IsJoinedBy, OfPlaces, chain_along, place_of, point_on}
use Rattle.cleanup_pocket.specs.Runs.{Run}
use Rattle.cleanup_pocket.specs.Walk.{IsBounded, IsNoneGood, IsRunFrom}
use Rattle.cleanup_pocket.specs.declared.axis.Axis.{Axis}
use Rattle.cleanup_pocket.specs.declared.axis.Axis.TheVariants as axis
use Rattle.cleanup_pocket.proofs.Ahead.{inner_on}
use Rattle.cleanup_pocket.proofs.Places.{fewer, places_between}
use Rattle.cleanup_pocket.proofs.Runs.{AreRunsBefore, all_before, one_before, runs_from}

-- ---- the box

module _ (loops : List (List GridPoint)) (IsGood : OfPlaces) (low high : GridPoint) (box : All (IsInBox low high) (points_of loops))
    (inside : (axis : Axis) (line place : ℤ) → IsGood axis line place → IsInside (edges_of loops) (rational (point_on axis line place))) where
  -- of each line the good places are within the box
  pub bounded_by : (axis : Axis) (line : ℤ) → IsBounded (IsGood axis line) (place_of axis low) (place_of axis high)
  bounded_by axis.X line place good =
      let inner = inside_in_box loops low high (rational (point_on axis.X line place)) box (inside axis.X line place good) in
      let left = inner.left in
      let right = inner.right in
      record { from = omega (arith, ints); to = omega (arith, ints) }
  bounded_by axis.Y line place good =
      let inner = inside_in_box loops low high (rational (point_on axis.Y line place)) box (inside axis.Y line place good) in
      let bottom = inner.bottom in
      let top = inner.top in
      record { from = omega (arith, ints); to = omega (arith, ints) }

  -- by the line's own numbers
  pub bounded_line : (axis a : Axis) (line from to : ℤ) → a ≡ axis → from ≡ place_of axis low → to ≡ place_of axis high → IsBounded (IsGood a line) from to
  bounded_line axis a line from to along from_is to_is =
      subst (λ a. IsBounded (IsGood a line) from to) (sym along)
      (subst (λ to. IsBounded (IsGood axis line) from to) (sym to_is)
      (subst (λ from. IsBounded (IsGood axis line) from (place_of axis high)) (sym from_is) (bounded_by axis line)))

-- ---- the runs of a line

module _ (IsGood IsWay : OfPlaces) (depth : ℕ) (axis : Axis) (line : ℤ) where
  abbrev Good : ℤ → Type 0
  Good place = IsGood axis line place

  abbrev Joined : ℤ → Type 0
  Joined place = IsJoinedBy IsGood IsWay axis line place

  abbrev chain : Run → List GridNode
  chain run = chain_along axis line depth run

  -- the last place of a run is good
  pub last_good : (x : ℤ) (run : Run) → IsRunFrom Good Joined x run → Good run.last
  last_good x run is =
      let order = is.ends.order in
      by_lt_z run.first run.last
      (λ before. subst Good (same_place run.last) ((is.ends.joined (run.last -ℤ pos 1) (omega (arith, ints)) (omega (arith, ints))).next))
      (λ one. let same : run.first ≡ run.last = omega (arith, ints) in subst Good same is.begins.good)
    where
      same_place : (t : ℤ) → t -ℤ pos 1 +ℤ pos 1 ≡ t
      same_place t = omega (arith, ints)

  module _ (low high : ℤ) (low_on : IsCoordinate low) (high_on : IsCoordinate high) (bounded : IsBounded Good low high) (x : ℤ) (run : Run) (is : IsRunFrom Good Joined x run) where
    pub first_on : IsCoordinate run.first
    first_on = inner_on low high run.first low_on high_on (bounded run.first is.begins.good)

    pub last_on : IsCoordinate run.last
    last_on = inner_on low high run.last low_on high_on (bounded run.last (last_good x run is))

    pub next_on : IsCoordinate (run.last +ℤ pos 1)
    next_on =
        let on = last_on in
        let least = on.low in
        let before = (bounded run.last (last_good x run is)).to in
        let most = high_on.high in
        record { low = omega (arith, ints); high = omega (arith, ints) }

    pub run_before : (y : ℤ) → y ≡ run.last +ℤ pos 1 → places_between y high < places_between x high
    run_before y next =
        let from = is.begins.from in
        let order = is.ends.order in
        let before = (bounded run.last (last_good x run is)).to in
        fewer x y high (omega (arith, ints)) (omega (arith, ints))

  -- the chains along the runs before x have come
  pub record AreRunsKept (start x : ℤ) (kept : List (List GridNode)) (has_more : Bool) (kept' : List (List GridNode)) (has_more' : Bool) : Type 0 where
    pub runs : List Run
    pub before : AreRunsBefore Good Joined start x runs
    pub grown : (all : List (List GridNode)) → IsKept all kept has_more → IsKept (all ++ map chain runs) kept' has_more'

  module _ (start : ℤ) (kept : List (List GridNode)) (has_more : Bool) where
    pub runs_stepped : (x y : ℤ) (run : Run) (kept' kept'' : List (List GridNode)) (more more' : Bool) → IsRunFrom Good Joined x run → y ≡ run.last +ℤ pos 1
        → IsGrown (λ part. part ≡ chain run ∷ []) kept' more kept'' more' → AreRunsKept start x kept has_more kept' more → AreRunsKept start y kept has_more kept'' more'
    runs_stepped x y run kept' kept'' more more' is next one far = record {
      runs = far.runs ++ run ∷ [];
      before = subst (λ y. AreRunsBefore Good Joined start y (far.runs ++ run ∷ [])) (sym next) (one_before Good Joined start x run far.runs is far.before);
      grown = λ all here.
          let same : (all ++ map chain far.runs) ++ one.part ≡ all ++ map chain (far.runs ++ run ∷ []) =
          ap (λ l. (all ++ map chain far.runs) ++ l) one.is ∙ append_assoc all (map chain far.runs) (chain run ∷ []) ∙ ap (λ l. all ++ l) (sym (map-append chain far.runs (run ∷ []))) in
          subst (λ l. IsKept l kept'' more') same (one.grown (all ++ map chain far.runs) (far.grown all here));
    }

    pub runs_ended : (x : ℤ) (kept' : List (List GridNode)) (more : Bool) → ((t : ℤ) → t <ℤ start → ¬ Good t) → IsNoneGood Good x
        → AreRunsKept start x kept has_more kept' more → IsGrown (AreLineChains IsGood IsWay depth axis line) kept has_more kept' more
    runs_ended x kept' more low none far = record {
      part = map chain far.runs;
      is = record {
        runs = far.runs;
        are_runs = runs_from Good Joined (λ t joined. joined.this) (λ t joined. joined.next) start far.runs low (all_before Good Joined start x far.runs far.before none);
        along = refl;
      };
      grown = far.grown;
    }
