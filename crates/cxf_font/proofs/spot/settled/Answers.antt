-- Answers the goals of `settled`.
use Rattle.std.proofs.Common.{ap, sym, ◌∙◌, ◌++◌, map}
use Rattle.cxf_font.specs.Letters.{spot_of}
use Rattle.cxf_font.proofs.OffGrid.{segments_of-none}
use Rattle.cxf_font.proofs.spot.settled.Goals as goal

pub returns-in-None : goal.returns-in-None
returns-in-None c =
    let spot = spot_of c.args.layout.now c.args.letter c.args.shift in
    let parted = ap (λ rest. c.loop-p.spots.items ++ map spot rest) (sym c.in-Some.ensures.cases.0) ∙ c.loop-p.invariant in
    segments_of-none c.loop-p.spots.items (spot c.in-Some.p.now) (map spot c.in-Some.others.now) _ parted c.in-None.ensures
