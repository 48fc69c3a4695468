-- Answers the goals of `Drawing::loop_of`.
use Rattle.std.proofs.Common.{ap, arith, ◌∙◌}
use Rattle.std.proofs.lemmas.List.{get_or_read}
use Rattle.loops_text.specs.Edges.{loop_number}
use Rattle.loops_text.proofs.Drawings.{number_of_edge}
use Rattle.loops_text.proofs.drawing.Drawing.loop_of.Goals as goal

pub index-requires : goal.index-requires
index-requires c =
    let number = number_of_edge c.self.invariant c.args.e (rw (← c.self.view_is) at c.requires) in
    omega (arith, number.0, c.self.inside.loop_numbers.ok)

pub returns : goal.returns
returns c =
    let number = number_of_edge c.self.invariant c.args.e (rw (← c.self.view_is) at c.requires) in
    get_or_read c.self.inside.loop_numbers.items _ _ number.0 c.index.ensures 0 ∙ number.1 ∙ ap (λ loops. loop_number loops c.args.e) c.self.view_is
