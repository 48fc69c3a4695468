-- Answers the goals of `is_edge_counted`.
use Rattle.std.proofs.Common.{sym, ◌∙◌}
use Rattle.evenodd_region.specs.Ratios.{rational_of}
use Rattle.evenodd_region.proofs.Scaled.{rising_counted, falling_counted, back_lt}
use Rattle.evenodd_region.proofs.sides.is_edge_counted.Goals as goal

pub returns-in-true-false : goal.returns-in-true-false
returns-in-true-false c =
    c.rises_right_of.ensures
    ∙ rising_counted (rational_of c.args.p.on.at) c.args.e.a c.args.e.b (sym c.in-true-false.ensures) (sym c.in-true-false.ensures')

pub returns-in-false-true : goal.returns-in-false-true
returns-in-false-true c =
    c.rises_right_of-in-false-true.ensures
    ∙ back_lt (rational_of c.args.p.on.at) c.args.e.a c.args.e.b
    ∙ falling_counted (rational_of c.args.p.on.at) c.args.e.a c.args.e.b (sym c.in-false-true.ensures) (sym c.in-false-true.ensures')
