-- Answers the goals of `span_of`.
use mir.Syntax.{w32}
use Rattle.std.proofs.Common.{pos, arith, subst}
use Rattle.std.proofs.lemmas.Int.{ints, to_z-of_z}
use Rattle.swept_move.specs.Band.{AreLinesAround}
use Rattle.swept_move.proofs.Bands.{span_of_lines}
use Rattle.swept_move.proofs.span.span_of.Goals as goal

pub returns : goal.returns
returns c =
    let r = c.radius_at.result in
    let lines = c.lines_around.result in
    let radius = c.radius_at.ensures.high in
    span_of_lines c.args.bit.now c.args.at c.args.depth (pos r) lines.low lines.high c.radius_at.ensures.over (omega (arith, ints))
    (subst (λ z. AreLinesAround z (pos r) lines.low lines.high) (to_z-of_z w32 c.args.at c.ranges.at) c.lines_around.ensures)
