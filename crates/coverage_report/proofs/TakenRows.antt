-- The rows of a lattice are told one after the other.
use Rattle.std.specs.Prelude.{◌↔◌, List, [], ◌++◌, ◌<ℤ◌}
use Rattle.std.proofs.Common.{◌≡◌, ℕ, ◌+◌, ◌<◌, ◌≤◌, refl, subst, sym, arith}
use Rattle.std.proofs.lemmas.Int.{ints}
use Rattle.std.proofs.lemmas.List.Elements.{All-append, All-nil, All-weaker}
use Rattle.plane_exact.specs.Cone.{Cone}
use Rattle.plane_exact.specs.Plane.{GridPoint}
use Rattle.plane_exact.specs.Uncut.{GridRun}
use Rattle.plane_exact.specs.declared.moves.LineMove.{LineMove}
use Rattle.evenodd_region.specs.RowBits.{IsSetIn, point_of_row}
use Rattle.coverage_report.specs.Lattices.{PointLattice, row_at}
use Rattle.coverage_report.specs.Rows.{set_points}
use Rattle.coverage_report.specs.Taken.{AreRowsTaken, IsLeft, IsRowTaken}
use Rattle.coverage_report.proofs.JoinedRuns.{maximal_joined, runs_joined}
use Rattle.coverage_report.proofs.LatticePoints.{higher, none_counted, row_counted}
use Rattle.coverage_report.proofs.RowPoints.{few_set, set_all}

module _ (IsMarked : GridPoint → Type 0) (cone : Cone) (moves : List LineMove) (lattice : PointLattice) (apart : 1 ≤ lattice.pitch) where
  -- no row yet
  pub none_taken : AreRowsTaken IsMarked cone moves lattice 0 [] 0 0
  none_taken = record {
    drawn = [];
    all_drawn = none_counted lattice apart IsMarked;
    points = [];
    all_left = none_counted lattice apart (IsLeft IsMarked cone moves);
    in_runs = refl;
    maximal = tt;
    lower = All-nil (λ run. run.y <ℤ (row_at lattice 0).y);
  }

  module _ (k : ℕ) (old new : List GridRun) (drawing left more_drawing more_left : ℕ) (row : IsRowTaken IsMarked cone moves (row_at lattice k) old new more_drawing more_left) where
    left_bits : (i : ℕ) → IsSetIn row.spared i ↔ ((i < lattice.columns) × IsLeft IsMarked cone moves (point_of_row (row_at lattice k).y lattice.x lattice.pitch i))
    left_bits i =
        let spared = row.are_spared.bits i in
        let marked = row.are_marked.marked i in (
          (λ set. let was = spared.0 set in let held = marked.0 was.0 in (held.0, record { marked = held.1; spared = was.1 })),
          (λ both. spared.1 (marked.1 (both.0, both.1.marked), both.1.spared)),
        )

    -- the runs of one row more
    pub row_taken : AreRowsTaken IsMarked cone moves lattice k old drawing left → AreRowsTaken IsMarked cone moves lattice (k + 1) new (drawing + more_drawing) (left + more_left)
    row_taken were =
        let this = row_at lattice k in
        let next : (row_at lattice k).y <ℤ (row_at lattice (k + 1)).y = higher lattice apart k (k + 1) (omega arith) in
        let added = row.pushed.added in
        let lower = All-append (λ run. run.y <ℤ (row_at lattice (k + 1)).y) old added
        (All-weaker (λ run. run.y <ℤ this.y) (λ run. run.y <ℤ (row_at lattice (k + 1)).y) (λ run less. omega (arith, ints)) old were.lower)
        (All-weaker (λ run. run.y ≡ this.y) (λ run. run.y <ℤ (row_at lattice (k + 1)).y) (λ run same. omega (arith, ints)) added row.pushed.of_row)
        in
        subst (λ runs. AreRowsTaken IsMarked cone moves lattice (k + 1) runs (drawing + more_drawing) (left + more_left)) (sym row.pushed.pushed) (record {
          drawn = were.drawn ++ set_points row.marked this;
          all_drawn = row_counted lattice apart IsMarked k were.drawn (set_points row.marked this) drawing more_drawing were.all_drawn
              (set_all this apart row.marked IsMarked row.are_marked.marked) row.counts_marked (few_set row.marked this);
          points = were.points ++ set_points row.spared this;
          all_left = row_counted lattice apart (IsLeft IsMarked cone moves) k were.points (set_points row.spared this) left more_left were.all_left
              (set_all this apart row.spared (IsLeft IsMarked cone moves) left_bits) row.counts_spared (few_set row.spared this);
          in_runs = runs_joined lattice.pitch added old were.points (set_points row.spared this) were.in_runs row.pushed.are;
          maximal = maximal_joined lattice.pitch added this.y row.pushed.of_row row.pushed.maximal old were.maximal were.lower;
          lower = lower;
        })
