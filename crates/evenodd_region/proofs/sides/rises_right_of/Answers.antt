-- Answers the goals of `rises_right_of`.
use Rattle.std.proofs.Common.{sym}
use Rattle.evenodd_region.specs.Ratios.{rational_of}
use Rattle.evenodd_region.proofs.Scaled.{left_side, right_side}
use Rattle.evenodd_region.proofs.sides.rises_right_of.Goals as goal

pub returns-in-true-true : goal.returns-in-true-true
returns-in-true-true c =
    left_side (rational_of c.args.p.on.at) c.args.a c.args.b c.requires.starts c.requires.ends (sym c.in-true-true.ensures) (sym c.in-true-true.ensures')

pub returns-in-false-false : goal.returns-in-false-false
returns-in-false-false c =
    right_side (rational_of c.args.p.on.at) c.args.a c.args.b c.requires.starts c.requires.ends (sym c.in-false-false.ensures) (sym c.in-false-false.ensures')
