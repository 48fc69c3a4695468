-- Answers the goals of `point_of_row`.
use mir.Syntax.{w32}
use mir.Val.{to_z}
use Rattle.std.specs.Prelude.{IfSome}
use Rattle.std.proofs.Common.{arith, ◌≡◌, ◌*◌, ℕ, pos, ◌+ℤ◌, ℤ, ap₂, subst, sym, ◌∙◌}
use Rattle.std.proofs.lemmas.Int.{ints}
use Rattle.plane_exact.specs.Plane.{GridPoint, IsCoordinate, IsOnGrid}
use Rattle.plane_exact.proofs.Stored.{wide, narrow}
use Rattle.evenodd_region.specs.RowBits.{point_of_row}
use Rattle.flat_bit.proofs.marks.point_of_row.Goals as goal

module _ (y0 x0 : ℤ) (pitch i : ℕ) (up : IsCoordinate y0) (first : IsCoordinate x0) (there : IsCoordinate (x0 +ℤ pos (i * pitch))) (x y : ℤ)
    (x_is : x ≡ narrow (narrow x0 +ℤ to_z w32 (i * pitch))) (y_is : y ≡ narrow y0) where
  x_at : wide x ≡ x0 +ℤ pos (i * pitch)
  x_at =
      let low = first.low in
      let high = first.high in
      let least = there.low in
      let most = there.high in
      omega (arith, ints)

  y_at : wide y ≡ y0
  y_at = let low = up.low in let high = up.high in omega (arith, ints)

  point_at : let p : GridPoint = record { x = wide x; y = wide y } in p ≡ point_of_row y0 x0 pitch i
  point_at = ap₂ (λ x y. record { x = x; y = y }) x_at y_at

  point_on : IsOnGrid (wide x) (wide y)
  point_on = record { across = subst IsCoordinate (sym x_at) there; up = subst IsCoordinate (sym y_at) up }

pub unwrap-requires : goal.unwrap-requires
unwrap-requires c =
    c.new.ensures.range.1
    (point_on c.args.y c.args.x0 c.args.pitch c.args.i c.requires.up c.requires.first c.requires.there c.from.result c.from-2.result c.from.ensures c.from-2.ensures)

pub returns : goal.returns
returns c =
    let at : GridPoint = record { x = wide c.from.result; y = wide c.from-2.result } in
    let there : c.unwrap.result ≡ at = subst (λ o. IfSome o (λ p. p ≡ at)) c.unwrap.ensures c.new.ensures.value in
    there
    ∙ point_at c.args.y c.args.x0 c.args.pitch c.args.i c.requires.up c.requires.first c.requires.there c.from.result c.from-2.result c.from.ensures c.from-2.ensures
