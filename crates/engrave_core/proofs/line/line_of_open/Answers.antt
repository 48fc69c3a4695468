-- Answers the goals of `line_of_open`.
use Rattle.std.specs.Fmt.{signed_decimal}
use Rattle.std.specs.Int.{w32}
use Rattle.std.specs.Prelude.{codes, string_bytes}
use Rattle.std.proofs.Common.{◌≡◌, ◌++◌, ◌∙◌, ℤ, ap₂, arith, of_z, to_z}
use Rattle.std.proofs.lemmas.Int.{ints}
use Rattle.plane_exact.specs.Plane.{IsCoordinate}
use Rattle.engrave_core.specs.Line.{open_line}
use Rattle.engrave_core.proofs.Texts.{IfOk-bytes, paired}
use Rattle.engrave_core.proofs.line.line_of_open.Goals as goal

-- a coordinate, as the code has it
coordinate_is : (x a : ℤ) → x ≡ a → IsCoordinate a → to_z w32 (of_z w32 x) ≡ a
coordinate_is x a is within =
    let low = within.low in
    let high = within.high in
    omega (arith, ints, is)

pub returns : goal.returns
returns c =
    let x = to_z w32 (of_z w32 c.x-x.result) in
    let y = to_z w32 (of_z w32 c.y-y.result) in
    IfOk-bytes string_bytes c.format.result
    (codes "input open " ++ (signed_decimal x ++ (codes "," ++ (signed_decimal y ++ codes "\n"))))
    (open_line c.args.point)
    (paired (codes "input open ") (signed_decimal x) (codes ",") (signed_decimal y) (codes "\n")
    ∙ ap₂ (λ u v. (((codes "input open " ++ signed_decimal u) ++ codes ",") ++ signed_decimal v) ++ codes "\n")
    (coordinate_is c.x-x.result c.args.point.x c.x-x.ensures.value c.x-x.ensures.range.across)
    (coordinate_is c.y-y.result c.args.point.y c.y-y.ensures.value c.y-y.ensures.range.up))
    c.format.ensures.ok
