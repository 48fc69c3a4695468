-- The runs of a line as a walk finds them: from a place on, the next run and then those behind it.
use Rattle.std.specs.Prelude.{All, AllPairs, Any}
use Rattle.std.proofs.Common.{◌≡◌, zero, suc, List, [], ◌∷◌, ◌++◌, ℤ, pos, ◌+ℤ◌, ◌-ℤ◌, ◌≤ℤ◌, ◌<ℤ◌, arith, refl, subst, sym, append_assoc, append-nil}
use Rattle.std.proofs.lemmas.Int.{ints, by_lt_z}
use Rattle.std.proofs.lemmas.List.Elements.{All-cons, All-nil, All-weaker}
use Rattle.std.proofs.lemmas.List.Kept.{AllPairs-cons}
use Rattle.cleanup_pocket.specs.Runs.{AreRuns, IsBefore, IsLongest, IsOfRun, Run}
use Rattle.cleanup_pocket.specs.Walk.{IsNoneGood, IsRunFrom}

module _ (Good Joined : ℤ → Type 0) where
  -- the runs from x on
  abbrev pub AreRunsFrom : ℤ → List Run → Type 0
  AreRunsFrom x [] = IsNoneGood Good x
  AreRunsFrom x (run ∷ runs) = IsRunFrom Good Joined x run × AreRunsFrom (run.last +ℤ pos 1) runs

  -- before x there are these runs
  abbrev pub AreRunsBefore : (start x : ℤ) → List Run → Type 0
  AreRunsBefore start x runs = (rest : List Run) → AreRunsFrom x rest → AreRunsFrom start (runs ++ rest)

  pub none_before : (start : ℤ) → AreRunsBefore start start []
  none_before start rest are = are

  later : (start x : ℤ) (run : Run) → IsRunFrom Good Joined x run → (runs rest : List Run) → AreRunsBefore start x runs → AreRunsFrom (run.last +ℤ pos 1) rest
      → AreRunsFrom start (runs ++ run ∷ rest)
  later start x run is runs rest before are = before (run ∷ rest) (is, are)

  pub one_before : (start x : ℤ) (run : Run) (runs : List Run) → IsRunFrom Good Joined x run → AreRunsBefore start x runs → AreRunsBefore start (run.last +ℤ pos 1) (runs ++ run ∷ [])
  one_before start x run runs is before rest are =
      subst (AreRunsFrom start) (sym (append_assoc runs (run ∷ []) rest)) (later start x run is runs rest before are)

  pub all_before : (start x : ℤ) (runs : List Run) → AreRunsBefore start x runs → IsNoneGood Good x → AreRunsFrom start runs
  all_before start x runs before none = subst (AreRunsFrom start) (append-nil runs) (before [] none)

  -- ---- these are the longest runs of the line

  module _ (this : (t : ℤ) → Joined t → Good t) (next : (t : ℤ) → Joined t → Good (t +ℤ pos 1)) where
    -- no place before x is joined to it
    abbrev IsApart : ℤ → Type 0
    IsApart x = ¬ Joined (x -ℤ pos 1)

    good_of_run : (x : ℤ) (run : Run) → IsRunFrom Good Joined x run → (t : ℤ) → IsOfRun t run → Good t
    good_of_run x run is t of =
        let from = of.from in
        let to = of.to in
        by_lt_z t run.last
        (λ before. this t (is.ends.joined t of.from before))
        (λ at. by_lt_z run.first t
        (λ behind. subst Good (same_place t) (next (t -ℤ pos 1) (is.ends.joined (t -ℤ pos 1) (omega (arith, ints)) (omega (arith, ints)))))
        (λ first. let same : run.first ≡ t = omega (arith, ints) in subst Good same is.begins.good))
      where
        same_place : (t : ℤ) → t -ℤ pos 1 +ℤ pos 1 ≡ t
        same_place t = omega (arith, ints)

    longest : (x : ℤ) (run : Run) → IsApart x → IsRunFrom Good Joined x run → IsLongest Good Joined run
    longest x run apart is = record {
      order = is.ends.order;
      good = good_of_run x run is;
      joined = is.ends.joined;
      before = λ joined.
          let from = is.begins.from in
          by_lt_z x run.first
          (λ behind. is.begins.bad (run.first -ℤ pos 1) (omega (arith, ints)) (omega (arith, ints)) (this (run.first -ℤ pos 1) joined))
          (λ first. let same : run.first ≡ x = omega (arith, ints) in apart (subst (λ t. Joined (t -ℤ pos 1)) same joined));
      behind = is.ends.apart;
    }

    apart_behind : (run : Run) → ¬ Joined run.last → IsApart (run.last +ℤ pos 1)
    apart_behind run ends joined = ends (subst Joined (same_place run.last) joined)
      where
        same_place : (t : ℤ) → t +ℤ pos 1 -ℤ pos 1 ≡ t
        same_place t = omega (arith, ints)

    each_from : (x : ℤ) (runs : List Run) → IsApart x → AreRunsFrom x runs → All (IsLongest Good Joined) runs
    each_from x [] apart are = All-nil (IsLongest Good Joined)
    each_from x (run ∷ runs) apart are =
        All-cons (IsLongest Good Joined) run runs (longest x run apart are.0) (each_from (run.last +ℤ pos 1) runs (apart_behind run are.0.ends.apart) are.1)

    -- each begins at x or behind it
    begins_from : (x : ℤ) (runs : List Run) → AreRunsFrom x runs → All (λ run. x ≤ℤ run.first) runs
    begins_from x [] are = All-nil (λ run. x ≤ℤ run.first)
    begins_from x (run ∷ runs) are =
        let from = are.0.begins.from in
        let order = are.0.ends.order in
        All-cons (λ run. x ≤ℤ run.first) run runs from
        (All-weaker (λ next. (run.last +ℤ pos 1) ≤ℤ next.first) (λ next. x ≤ℤ next.first) (λ next behind. omega (arith, ints)) runs (begins_from (run.last +ℤ pos 1) runs are.1))

    ordered_from : (x : ℤ) (runs : List Run) → AreRunsFrom x runs → AllPairs IsBefore runs
    ordered_from x [] are = λ i j d less below. absurd (omega arith)
    ordered_from x (run ∷ runs) are =
        AllPairs-cons IsBefore run runs
        (All-weaker (λ next. (run.last +ℤ pos 1) ≤ℤ next.first) (IsBefore run) (λ next behind. omega (arith, ints)) runs (begins_from (run.last +ℤ pos 1) runs are.1))
        (ordered_from (run.last +ℤ pos 1) runs are.1)

    later_run : (place : ℤ) (run : Run) (runs : List Run) → Any (IsOfRun place) runs → Any (IsOfRun place) (run ∷ runs)
    later_run place run runs any = (suc any.0, any.1, let below = any.2 in omega arith, any.3, any.4)

    complete_from : (x : ℤ) (runs : List Run) → AreRunsFrom x runs → (place : ℤ) → x ≤ℤ place → Good place → Any (IsOfRun place) runs
    complete_from x [] are place from good = absurd (are place from good)
    complete_from x (run ∷ runs) are place from good =
        by_lt_z place run.first
        (λ before. absurd (are.0.begins.bad place from before good))
        (λ begun. by_lt_z run.last place
        (λ behind. later_run place run runs (complete_from (run.last +ℤ pos 1) runs are.1 place (omega (arith, ints)) good))
        (λ of. (zero, run, omega arith, refl, record { from = begun; to = of })))

    pub runs_from : (start : ℤ) (runs : List Run) → ((t : ℤ) → t <ℤ start → ¬ Good t) → AreRunsFrom start runs → AreRuns Good Joined runs
    runs_from start runs none are = record {
      each = each_from start runs (λ joined. none (start -ℤ pos 1) (omega (arith, ints)) (this (start -ℤ pos 1) joined)) are;
      complete = λ place good. by_lt_z place start (λ before. absurd (none place before good)) (λ from. complete_from start runs are place from good);
      ordered = ordered_from start runs are;
    }
