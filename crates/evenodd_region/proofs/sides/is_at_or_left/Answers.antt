-- Answers the goals of `is_at_or_left`.
use Rattle.std.proofs.Common.{arith}
use Rattle.std.proofs.lemmas.Int.{ints}
use Rattle.evenodd_region.specs.Ratios.{exchanged, rational_of}
use Rattle.evenodd_region.proofs.InBand.{same_side}
use Rattle.evenodd_region.proofs.sides.is_at_or_left.Goals as goal

pub returns : goal.returns
returns c =
    let same = same_side c.args.p.column (exchanged (rational_of c.args.p.on.at)) c.args.p.across (record { x = c.args.corner.y; y = c.args.corner.x }) in
    let corner = c.x.ensures.value in
    grind (arith, ints)
