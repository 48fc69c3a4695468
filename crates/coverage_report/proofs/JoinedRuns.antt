-- Runs of points behind runs of lower rows.
use Rattle.std.specs.Prelude.{List, [], ◌∷◌, ◌++◌, All, ℤ, ◌<ℤ◌}
use Rattle.std.proofs.Common.{◌≡◌, ℕ, refl, ap, sym, subst, ◌∙◌, append_assoc, arith}
use Rattle.std.proofs.lemmas.Int.{ints}
use Rattle.std.proofs.lemmas.List.Elements.{All-head, All-tail}
use Rattle.plane_exact.specs.Plane.{GridPoint}
use Rattle.plane_exact.specs.Uncut.{GridRun}
use Rattle.coverage_report.specs.Runs.{AreMaximal, AreRunsOf}

module _ (pitch : ℕ) (later : List GridRun) where
  pub runs_joined : (runs : List GridRun) (points more : List GridPoint) → AreRunsOf pitch runs points → AreRunsOf pitch later more
      → AreRunsOf pitch (runs ++ later) (points ++ more)
  runs_joined [] points more none are = subst (λ ps. AreRunsOf pitch later (ps ++ more)) (sym none) are
  runs_joined (run ∷ runs) points more some are = record {
    first = some.first;
    second = some.second ++ more;
    joined = ap (λ ps. ps ++ more) some.joined ∙ append_assoc some.first some.second more;
    is_first = some.is_first;
    is_second = runs_joined runs some.second more some.is_second are;
  }

  module _ (y : ℤ) (of_row : All (λ run. run.y ≡ y) later) (maximal : AreMaximal pitch later) where
    -- a run of a lower row doesn't go on in the first of these
    first_apart : (run : GridRun) (rest : List GridRun) → rest ≡ later → run.y <ℤ y → AreMaximal pitch (run ∷ rest)
    first_apart run [] same lower = tt
    first_apart run (next ∷ rest) same lower =
        let P : GridRun → Type 0 = λ run. run.y ≡ y in
        let at = All-head P next rest (subst (All P) (sym same) of_row) in
        ((λ continued. let row = continued.row in absurd (omega (arith, ints))), subst (AreMaximal pitch) (sym same) maximal)

    pub maximal_joined : (runs : List GridRun) → AreMaximal pitch runs → All (λ run. run.y <ℤ y) runs → AreMaximal pitch (runs ++ later)
    maximal_joined [] none lower = maximal
    maximal_joined (run ∷ []) one lower = first_apart run later refl (All-head (λ run. run.y <ℤ y) run [] lower)
    maximal_joined (run ∷ next ∷ runs) more lower = (more.0, maximal_joined (next ∷ runs) more.1 (All-tail (λ run. run.y <ℤ y) run (next ∷ runs) lower))
