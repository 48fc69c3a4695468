-- Answers the goals of `rows_of`.
use mir.Syntax.{w32}
use Rattle.std.proofs.Common.{◌≡◌, ℤ, arith}
use Rattle.std.proofs.lemmas.Int.{ints}
use Rattle.plane_exact.specs.Heights.{IsFineCoordinate}
use Rattle.swept_move.proofs.Bands.{in_rows, span_same}
use Rattle.swept_move.proofs.Widths.{held}
use Rattle.swept_move.proofs.band.rows_of.Goals as goal

-- a coordinate that a call answered
known : {r z : ℤ} → IsFineCoordinate r → r ≡ z → held w32 r ≡ z
known on is = let low = on.low in let high = on.high in omega (arith, ints)

pub returns : goal.returns
returns c =
    let mv = c.args.mv.now in
    in_rows c.args.bit.now mv.from mv.to
    (span_same (known c.up.ensures.range c.up.ensures.value) c.depth.ensures.value c.span_of-from.ensures)
    (span_same (known c.up-2.ensures.range c.up-2.ensures.value) c.depth-2.ensures.value c.span_of-to.ensures)
    c.joined.ensures.low c.joined.ensures.high
