-- Answers the goals of `spot_x`.
use Rattle.std.proofs.Common.{pos, ◌+ℤ◌, ◌-ℤ◌, arith}
use Rattle.std.proofs.lemmas.Int.{ints}
use Rattle.cxf_font.specs.Placing.{across}
use Rattle.cxf_font.proofs.OffGrid.{stored_turned}
use Rattle.cxf_font.proofs.spot.spot_x.Goals as goal

pub returns : goal.returns
returns c =
    let value = c.across.ensures.value in
    let low = c.across.ensures.range.low in
    let high = c.across.ensures.range.high in
    stored_turned c.args.layout.now.mirror _ (pos c.args.pen +ℤ across c.args.layout.now c.args.p -ℤ pos c.args.shift) _ c.turned.ensures.value (omega (arith, ints)) c.turned.ensures.range
