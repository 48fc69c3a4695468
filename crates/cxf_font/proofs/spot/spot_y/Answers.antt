-- Answers the goals of `spot_y`.
use Rattle.std.proofs.Common.{pos, ◌-ℤ◌, ◌*◌, arith}
use Rattle.std.proofs.lemmas.Int.{ints}
use Rattle.cxf_font.specs.Placing.{line_step, up}
use Rattle.cxf_font.proofs.OffGrid.{stored_turned}
use Rattle.cxf_font.proofs.spot.spot_y.Goals as goal

pub returns : goal.returns
returns c =
    let value = c.up.ensures.value in
    let low = c.up.ensures.range.low in
    let high = c.up.ensures.range.high in
    let down = c.way_down.ensures.value in
    let within = c.way_down.ensures.range in
    stored_turned c.args.layout.now.flip _ (up c.args.layout.now c.args.p -ℤ pos (c.args.line * line_step c.args.layout.now)) _ c.turned.ensures.value (omega (arith, ints)) c.turned.ensures.range
