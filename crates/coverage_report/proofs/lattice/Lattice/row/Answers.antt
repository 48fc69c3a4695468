-- Answers the goals of `Lattice::row`.
use mir.Syntax.{w32}
use mir.Val.{to_z}
use Rattle.std.proofs.Common.{arith, ◌≡◌, ◌*◌, ◌<◌, ℕ, ◌+ℤ◌, ap, ap₂, subst, sym, ◌∙◌}
use Rattle.std.proofs.lemmas.Int.{ints}
use Rattle.plane_exact.proofs.Stored.{narrow}
use Rattle.coverage_report.specs.Lattices.{IsPointLattice, PointLattice, row_at}
use Rattle.coverage_report.specs.Rows.{IsPointRow, PointRow}
use Rattle.coverage_report.proofs.Places.{place_on, place_stored}
use Rattle.coverage_report.proofs.lattice.Lattice.row.Goals as goal

module _ (lattice : PointLattice) (are : IsPointLattice lattice) (k : ℕ) (below : k < lattice.rows) where
  stored : PointRow
  stored = record { y = narrow (narrow lattice.y +ℤ to_z w32 (k * lattice.pitch)); x = narrow lattice.x; pitch = lattice.pitch; count = lattice.columns }

  stored_is : stored ≡ row_at lattice k
  unfolding stored
  stored_is =
      let left = are.left in
      let low = left.low in
      let high = left.high in
      ap₂ (λ y x. record { y = y; x = x; pitch = lattice.pitch; count = lattice.columns })
      (place_stored lattice.y lattice.pitch lattice.rows are.bottom are.top k below) (omega (arith, ints))

  row_is : IsPointRow stored
  row_is = subst IsPointRow (sym stored_is) (record {
    some = are.some_columns;
    apart = are.apart;
    up = place_on lattice.y lattice.pitch lattice.rows are.bottom are.top k below;
    first = are.left;
    last = are.right;
  })

pub invariant_of-result : goal.invariant_of-result
unfolding stored
invariant_of-result c =
    let l : PointLattice = record { y = c.self.inside.y; x = c.self.inside.x; pitch = c.self.inside.pitch; columns = c.self.inside.columns; rows = c.self.inside.rows } in
    let same : l ≡ c.args.self.now = c.self.view_is in
    row_is l c.self.invariant c.args.k (subst (λ (l : PointLattice). c.args.k < l.rows) (sym same) c.requires)

pub returns : goal.returns
unfolding stored
returns c =
    let l : PointLattice = record { y = c.self.inside.y; x = c.self.inside.x; pitch = c.self.inside.pitch; columns = c.self.inside.columns; rows = c.self.inside.rows } in
    let same : l ≡ c.args.self.now = c.self.view_is in
    stored_is l c.self.invariant c.args.k (subst (λ (l : PointLattice). c.args.k < l.rows) (sym same) c.requires) ∙ ap (λ l. row_at l c.args.k) same
