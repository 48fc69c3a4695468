-- Answers the goals of `Row::point`.
use mir.Syntax.{w32}
use mir.Val.{to_z}
use Rattle.std.specs.Prelude.{IfSome}
use Rattle.std.proofs.Common.{arith, ◌≡◌, ◌*◌, ◌<◌, ℕ, pos, ◌+ℤ◌, ℤ, ap, ap₂, subst, sym, ◌∙◌}
use Rattle.std.proofs.lemmas.Int.{ints}
use Rattle.plane_exact.specs.Plane.{GridPoint, IsCoordinate, IsOnGrid}
use Rattle.plane_exact.proofs.Stored.{wide, narrow}
use Rattle.evenodd_region.specs.RowBits.{point_of_row}
use Rattle.coverage_report.specs.Rows.{IsPointRow, PointRow}
use Rattle.coverage_report.proofs.Places.{place_on, place_stored}
use Rattle.coverage_report.proofs.row.Row.point.Goals as goal

module _ (row : PointRow) (are : IsPointRow row) (i : ℕ) (below : i < row.count) (x y : ℤ)
    (x_is : x ≡ narrow (narrow row.x +ℤ to_z w32 (i * row.pitch))) (y_is : y ≡ narrow row.y) where
  x_at : wide x ≡ row.x +ℤ pos (i * row.pitch)
  x_at =
      let stored = place_stored row.x row.pitch row.count are.first are.last i below in
      let on = place_on row.x row.pitch row.count are.first are.last i below in
      let least = on.low in
      let most = on.high in
      omega (arith, ints)

  y_at : wide y ≡ row.y
  y_at = let up = are.up in let low = up.low in let high = up.high in omega (arith, ints)

  point_at : let p : GridPoint = record { x = wide x; y = wide y } in p ≡ point_of_row row.y row.x row.pitch i
  point_at = ap₂ (λ x y. record { x = x; y = y }) x_at y_at

  point_on : IsOnGrid (wide x) (wide y)
  point_on = record {
    across = subst IsCoordinate (sym x_at) (place_on row.x row.pitch row.count are.first are.last i below);
    up = subst IsCoordinate (sym y_at) are.up;
  }

pub unwrap-requires : goal.unwrap-requires
unwrap-requires c =
    let row : PointRow = record { y = c.self.inside.y; x = c.self.inside.x; pitch = c.self.inside.pitch; count = c.self.inside.count } in
    let same : row ≡ c.args.self.now = c.self.view_is in
    let below : c.args.i < row.count = subst (λ (r : PointRow). c.args.i < r.count) (sym same) c.requires in
    c.new.ensures.range.1 (point_on row c.self.invariant c.args.i below c.from.result c.from-2.result c.from.ensures c.from-2.ensures)

pub returns : goal.returns
returns c =
    let row : PointRow = record { y = c.self.inside.y; x = c.self.inside.x; pitch = c.self.inside.pitch; count = c.self.inside.count } in
    let same : row ≡ c.args.self.now = c.self.view_is in
    let below : c.args.i < row.count = subst (λ (r : PointRow). c.args.i < r.count) (sym same) c.requires in
    let at : GridPoint = record { x = wide c.from.result; y = wide c.from-2.result } in
    let there : c.unwrap.result ≡ at = subst (λ o. IfSome o (λ p. p ≡ at)) c.unwrap.ensures c.new.ensures.value in
    there ∙ point_at row c.self.invariant c.args.i below c.from.result c.from-2.result c.from.ensures c.from-2.ensures
    ∙ ap (λ (r : PointRow). point_of_row r.y r.x r.pitch c.args.i) same
