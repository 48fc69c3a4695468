-- The runs of a row, point by point: what they are of, and that none goes on in the next.
use Rattle.std.proofs.Common.{◌≡◌, ℕ, zero, suc, ◌+◌, ◌-◌, ◌*◌, ◌<◌, ◌≤◌, Bool, true, false, if◌then◌else◌, Option, Some, None, List, [], ◌∷◌, ◌++◌, IfSome, mul-le-mul_right, subst₂, ℤ, pos, ◌+ℤ◌, All, refl, sym, ap, subst, ◌∙◌, arith, append-nil, append_assoc}
use Rattle.std.proofs.lemmas.Int.{ints}
use Rattle.std.proofs.lemmas.List.Elements.{All-cons, All-nil}
use Rattle.plane_exact.specs.Plane.{GridPoint}
use Rattle.plane_exact.specs.Uncut.{GridRun}
use Rattle.coverage_report.specs.Rows.{ArePushed, IsPointRow, PointRow, is_set_in, set_among}
use Rattle.coverage_report.specs.RowRuns.{run_at}
use Rattle.coverage_report.specs.Runs.{AreMaximal, AreRunsOf, IsContinued, row_points}

-- the runs of so many points of the row from the point i on, the first of which may be open since an earlier point
abbrev pub runs_from : PointRow → List ℕ → Option ℕ → (i n : ℕ) → List GridRun
runs_from row words None i zero = []
runs_from row words (Some first) i zero = run_at row first i ∷ []
runs_from row words None i (suc n) = if is_set_in words i then runs_from row words (Some i) (i + 1) n else runs_from row words None (i + 1) n
runs_from row words (Some first) i (suc n) =
    if is_set_in words i then runs_from row words (Some first) (i + 1) n else run_at row first i ∷ runs_from row words None (i + 1) n

-- ---- one point more

-- Before the point i: the runs that have come so far, and those of the points that are left, are all of them.
pub record AreComing (row : PointRow) (words : List ℕ) (old runs : List GridRun) (going : Option ℕ) (i : ℕ) : Type 0 where
  pub since : IfSome going (λ first. first < i)
  pub all : runs ++ runs_from row words going i (row.count - i) ≡ old ++ runs_from row words None 0 row.count

module _ (row : PointRow) (words : List ℕ) (old runs : List GridRun) (i : ℕ) (within : i < row.count) where
  left : row.count - i ≡ suc (row.count - (i + 1))
  left = omega arith

  turn_none : (b : Bool) → is_set_in words i ≡ b
      → runs_from row words None i (row.count - i)
      ≡ (if b then runs_from row words (Some i) (i + 1) (row.count - (i + 1)) else runs_from row words None (i + 1) (row.count - (i + 1)))
  turn_none b is =
      ap (runs_from row words None i) left
      ∙ ap (λ b. if b then runs_from row words (Some i) (i + 1) (row.count - (i + 1)) else runs_from row words None (i + 1) (row.count - (i + 1))) is

  turn_some : (first : ℕ) (b : Bool) → is_set_in words i ≡ b
      → runs_from row words (Some first) i (row.count - i)
      ≡ (if b then runs_from row words (Some first) (i + 1) (row.count - (i + 1)) else run_at row first i ∷ runs_from row words None (i + 1) (row.count - (i + 1)))
  turn_some first b is =
      ap (runs_from row words (Some first) i) left
      ∙ ap (λ b. if b then runs_from row words (Some first) (i + 1) (row.count - (i + 1)) else run_at row first i ∷ runs_from row words None (i + 1) (row.count - (i + 1))) is

  -- the point begins a run, is passed by, is one of the run that is going, or ends it
  module _ (others : List GridRun) (going other : Option ℕ) where
    pub begun : is_set_in words i ≡ true → others ≡ runs → going ≡ None → other ≡ Some i → AreComing row words old runs going i
        → AreComing row words old others other (i + 1)
    begun set same was is coming = subst₂ (λ runs going. AreComing row words old runs going (i + 1)) (sym same) (sym is) (record {
      since = omega arith;
      all = ap (λ rest. runs ++ rest) (sym (turn_none true set)) ∙ ap (λ going. runs ++ runs_from row words going i (row.count - i)) (sym was) ∙ coming.all;
    })

    pub passed : is_set_in words i ≡ false → others ≡ runs → going ≡ None → other ≡ None → AreComing row words old runs going i
        → AreComing row words old others other (i + 1)
    passed clear same was is coming = subst₂ (λ runs going. AreComing row words old runs going (i + 1)) (sym same) (sym is) (record {
      since = tt;
      all = ap (λ rest. runs ++ rest) (sym (turn_none false clear)) ∙ ap (λ going. runs ++ runs_from row words going i (row.count - i)) (sym was) ∙ coming.all;
    })

    pub went_on : (first : ℕ) → is_set_in words i ≡ true → others ≡ runs → going ≡ Some first → other ≡ Some first → AreComing row words old runs going i
        → AreComing row words old others other (i + 1)
    went_on first set same was is coming =
        let since : first < i = subst (λ going. IfSome going (λ first. first < i)) was coming.since in
        subst₂ (λ runs going. AreComing row words old runs going (i + 1)) (sym same) (sym is) (record {
          since = omega arith;
          all = ap (λ rest. runs ++ rest) (sym (turn_some first true set)) ∙ ap (λ going. runs ++ runs_from row words going i (row.count - i)) (sym was) ∙ coming.all;
        })

    pub ended : (first : ℕ) → is_set_in words i ≡ false → others ≡ runs ++ run_at row first i ∷ [] → going ≡ Some first → other ≡ None
        → AreComing row words old runs going i → AreComing row words old others other (i + 1)
    ended first clear same was is coming = subst₂ (λ runs going. AreComing row words old runs going (i + 1)) (sym same) (sym is) (record {
      since = tt;
      all =
          append_assoc runs (run_at row first i ∷ []) (runs_from row words None (i + 1) (row.count - (i + 1)))
          ∙ ap (λ rest. runs ++ rest) (sym (turn_some first false clear))
          ∙ ap (λ going. runs ++ runs_from row words going i (row.count - i)) (sym was) ∙ coming.all;
    })

-- behind the last point
module _ (row : PointRow) (words : List ℕ) (old runs : List GridRun) (going : Option ℕ) (i : ℕ) (last : i ≡ row.count) (coming : AreComing row words old runs going i) where
  left_none : runs ++ runs_from row words going i 0 ≡ old ++ runs_from row words None 0 row.count
  left_none = let none : 0 ≡ row.count - i = omega arith in ap (λ n. runs ++ runs_from row words going i n) none ∙ coming.all

  pub all_came : going ≡ None → runs ≡ old ++ runs_from row words None 0 row.count
  all_came is = sym (append-nil runs) ∙ ap (λ going. runs ++ runs_from row words going i 0) (sym is) ∙ left_none

  pub last_came : (first : ℕ) (run : GridRun) → going ≡ Some first → run ≡ run_at row first row.count
      → runs ++ run ∷ [] ≡ old ++ runs_from row words None 0 row.count
  last_came first run is run_is =
      ap (λ run. runs ++ run ∷ []) run_is ∙ ap (λ end. runs ++ run_at row first end ∷ []) (sym last)
      ∙ ap (λ going. runs ++ runs_from row words going i 0) (sym is) ∙ left_none

-- ---- what the runs are of

-- where the point i of the row is
abbrev place : PointRow → ℕ → ℤ
place row i = row.x +ℤ pos (i * row.pitch)

next_place : (row : PointRow) (i : ℕ) → place row i +ℤ pos row.pitch ≡ place row (i + 1)
next_place row i = let times : (i + 1) * row.pitch ≡ i * row.pitch + row.pitch = omega arith in omega (arith, ints)

-- the points of the row from i on, so many
abbrev points_on : PointRow → (i n : ℕ) → List GridPoint
points_on row i n = row_points row.y (place row i) row.pitch n

points_on_next : (row : PointRow) (i n : ℕ) → points_on row i (suc n) ≡ record { x = place row i; y = row.y } ∷ points_on row (i + 1) n
points_on_next row i n = ap (λ x. record { x = place row i; y = row.y } ∷ row_points row.y x row.pitch n) (next_place row i)

-- the points of a run with one more
one_more : (row : PointRow) (k first : ℕ) → points_on row first (suc k) ≡ points_on row first k ++ record { x = place row (first + k); y = row.y } ∷ []
one_more row zero first = ap (λ i. record { x = place row i; y = row.y } ∷ []) (omega arith)
one_more row (suc k) first =
    let start : GridPoint = record { x = place row first; y = row.y } in
    let end : first + 1 + k ≡ first + suc k = omega arith in
    points_on_next row first (suc k)
    ∙ ap (λ points. start ∷ points) (one_more row k (first + 1) ∙ ap (λ i. points_on row (first + 1) k ++ record { x = place row i; y = row.y } ∷ []) end)
    ∙ sym (ap (λ points. points ++ record { x = place row (first + suc k); y = row.y } ∷ []) (points_on_next row first k))

-- the points of the row from i on whose bits are 1
abbrev set_on : List ℕ → PointRow → (i n : ℕ) → List GridPoint
set_on words row i n = set_among words i (points_on row i n)

set_on_next : (words : List ℕ) (row : PointRow) (i n : ℕ) (b : Bool) → is_set_in words i ≡ b
    → set_on words row i (suc n) ≡ (if b then record { x = place row i; y = row.y } ∷ set_on words row (i + 1) n else set_on words row (i + 1) n)
set_on_next words row i n b is =
    ap (set_among words i) (points_on_next row i n)
    ∙ ap (λ b. if b then record { x = place row i; y = row.y } ∷ set_on words row (i + 1) n else set_on words row (i + 1) n) is

-- the first of the runs, if there is one, begins at the point `from` or behind it
abbrev Begins : PointRow → (from : ℕ) → List GridRun → Type 0
Begins row from [] = Unit {0}
Begins row from (run ∷ runs) = (k : ℕ) × (from ≤ k) × (run.x0 ≡ place row k)

begins_before : (row : PointRow) (from : ℕ) (runs : List GridRun) → Begins row (from + 1) runs → Begins row from runs
begins_before row from [] begins = tt
begins_before row from (run ∷ runs) begins = (begins.0, omega (arith, begins.1), begins.2)

-- what is shown of the runs of these points, which begin at `from` or behind it
record AreFrom (row : PointRow) (from : ℕ) (points : List GridPoint) (runs : List GridRun) : Type 0 where
  are : AreRunsOf row.pitch runs points
  maximal : AreMaximal row.pitch runs
  of_row : All (λ run. run.y ≡ row.y) runs
  begins : Begins row from runs

no_runs : (row : PointRow) (from : ℕ) → AreFrom row from [] []
no_runs row from = record { are = refl; maximal = tt; of_row = All-nil (λ (run : GridRun). run.y ≡ row.y); begins = tt }

same_points : (row : PointRow) (from : ℕ) (points others : List GridPoint) (runs : List GridRun) → points ≡ others → AreFrom row from others runs
    → AreFrom row from points runs
same_points row from points others runs same are = subst (λ points. AreFrom row from points runs) (sym same) are

module _ (row : PointRow) (apart : 1 ≤ row.pitch) where
  -- a run before `end` doesn't go on in one that begins behind it
  not_continued : (first end k : ℕ) (next : GridRun) → first < end → end + 1 ≤ k → next.x0 ≡ place row k → ¬ IsContinued row.pitch (run_at row first end) next
  not_continued first end k next some behind starts continued =
      let far : (end + 1) * row.pitch ≤ k * row.pitch = mul-le-mul_right row.pitch behind in
      let last : end ≡ end - 1 + 1 = omega arith in
      let whole : end * row.pitch ≡ (end - 1) * row.pitch + row.pitch = ap (λ n. n * row.pitch) last ∙ omega arith in
      let at = continued.behind in
      absurd (omega (arith, ints))

  maximal_more : (first end : ℕ) (runs : List GridRun) → first < end → Begins row (end + 1) runs → AreMaximal row.pitch runs
      → AreMaximal row.pitch (run_at row first end ∷ runs)
  maximal_more first end [] some begins maximal = tt
  maximal_more first end (next ∷ runs) some begins maximal = (not_continued first end begins.0 next some begins.1 begins.2, maximal)

  -- a run more
  run_before : (first k end : ℕ) (points : List GridPoint) (runs : List GridRun) → first + suc k ≡ end → AreFrom row (end + 1) points runs
      → AreFrom row first (points_on row first (suc k) ++ points) (run_at row first end ∷ runs)
  run_before first k end points runs is rest =
      let before_end : end - 1 ≡ first + k = omega arith in
      let times : (end - 1) * row.pitch ≡ first * row.pitch + k * row.pitch = ap (λ n. n * row.pitch) before_end ∙ omega arith in
      record {
        are = record {
          first = points_on row first (suc k);
          second = points;
          joined = refl;
          is_first = record { more = k; last = omega (arith, ints); are = refl };
          is_second = rest.are;
        };
        maximal = maximal_more first end runs (omega arith) rest.begins rest.maximal;
        of_row = All-cons (λ run. run.y ≡ row.y) (run_at row first end) runs refl rest.of_row;
        begins = (first, omega arith, refl);
      }

  module _ (words : List ℕ) where
    none_more : (n i : ℕ) (first rest : List GridRun) (b : Bool) → is_set_in words i ≡ b → AreFrom row i (points_on row i 1 ++ set_on words row (i + 1) n) first
        → AreFrom row (i + 1) (set_on words row (i + 1) n) rest → AreFrom row i (set_on words row i (suc n)) (if b then first else rest)
    none_more n i first rest true set begun passed = same_points row i _ _ first (set_on_next words row i n true set) begun
    none_more n i first rest false clear begun passed =
        same_points row i _ _ rest (set_on_next words row i n false clear)
        (record { are = passed.are; maximal = passed.maximal; of_row = passed.of_row; begins = begins_before row i rest passed.begins })

    some_more : (n k first i : ℕ) (went ended : List GridRun) (b : Bool) → is_set_in words i ≡ b → first + suc k ≡ i
        → AreFrom row first (points_on row first (suc (suc k)) ++ set_on words row (i + 1) n) went
        → AreFrom row (i + 1) (set_on words row (i + 1) n) ended
        → AreFrom row first (points_on row first (suc k) ++ set_on words row i (suc n)) (if b then went else run_at row first i ∷ ended)
    some_more n k first i went ended true set is longer others =
        let at : GridPoint = record { x = place row i; y = row.y } in
        same_points row first _ _ went
        (ap (λ points. points_on row first (suc k) ++ points) (set_on_next words row i n true set)
        ∙ sym (append_assoc (points_on row first (suc k)) (at ∷ []) (set_on words row (i + 1) n))
        ∙ ap (λ points. points ++ set_on words row (i + 1) n)
        (ap (λ j. points_on row first (suc k) ++ record { x = place row j; y = row.y } ∷ []) (sym is) ∙ sym (one_more row (suc k) first))) longer
    some_more n k first i went ended false clear is longer others =
        same_points row first _ _ (run_at row first i ∷ ended) (ap (λ points. points_on row first (suc k) ++ points) (set_on_next words row i n false clear))
        (run_before first k i _ ended is others)

    all_from : (n : ℕ)
        → ((i : ℕ) → AreFrom row i (set_on words row i n) (runs_from row words None i n))
        × ((k first i : ℕ) → first + suc k ≡ i → AreFrom row first (points_on row first (suc k) ++ set_on words row i n) (runs_from row words (Some first) i n))
    all_from zero = (λ i. no_runs row i, λ k first i is. run_before first k i [] [] is (no_runs row (i + 1)))
    all_from (suc n) =
        let rest = all_from n in (
          (λ i. none_more n i _ _ (is_set_in words i) refl (rest.1 0 i (i + 1) refl) (rest.0 (i + 1))),
          (λ k first i is. some_more n k first i _ _ (is_set_in words i) refl is (rest.1 (suc k) first (i + 1) (omega arith)) (rest.0 (i + 1))),
        )

-- all of them
pub pushed : (row : PointRow) (words : List ℕ) (old new : List GridRun) → IsPointRow row → new ≡ old ++ runs_from row words None 0 row.count
    → ArePushed row words old new
pushed row words old new is came =
    let start : place row 0 ≡ row.x = omega (arith, ints) in
    let from = (all_from row is.apart words row.count).0 0 in
    record {
      added = runs_from row words None 0 row.count;
      pushed = came;
      are = subst (λ x. AreRunsOf row.pitch (runs_from row words None 0 row.count) (set_among words 0 (row_points row.y x row.pitch row.count))) start from.are;
      maximal = from.maximal;
      of_row = from.of_row;
    }
