-- Answers the goals of `is_at_or_below`.
use Rattle.std.proofs.Common.{arith}
use Rattle.std.proofs.lemmas.Int.{ints}
use Rattle.evenodd_region.specs.Ratios.{rational_of}
use Rattle.evenodd_region.proofs.InBand.{same_side}
use Rattle.evenodd_region.proofs.sides.is_at_or_below.Goals as goal

pub returns : goal.returns
returns c =
    let same = same_side c.args.p.row (rational_of c.args.p.at) c.args.p.of c.args.corner in
    let corner = c.y.ensures.value in
    grind (arith, ints)
