-- Answers the goals of `is_edge_counted`.
use Rattle.std.proofs.Common.{sym, ◌∙◌}
use Rattle.evenodd_region.proofs.Counting.{rising, falling, beside_row}
use Rattle.evenodd_region.proofs.grid.is_edge_counted.Goals as goal

pub returns-in-true-false : goal.returns-in-true-false
returns-in-true-false c =
    c.is_left_of.ensures
    ∙ rising c.args.e.a c.args.e.b c.args.p (sym c.in-true-false.ensures) (sym c.in-true-false.ensures')

pub returns-in-false-true : goal.returns-in-false-true
returns-in-false-true c =
    c.is_right_of.ensures
    ∙ falling c.args.e.a c.args.e.b c.args.p (sym c.in-false-true.ensures) (sym c.in-false-true.ensures')

pub returns-in_default : goal.returns-in_default
returns-in_default c =
    beside_row c.args.e.a c.args.e.b c.args.p (sym c.in_default.ensures ∙ c.in_default.ensures')

pub returns-in_default-2 : goal.returns-in_default-2
returns-in_default-2 c =
    beside_row c.args.e.a c.args.e.b c.args.p (sym c.in_default.ensures ∙ c.in_default.ensures')
