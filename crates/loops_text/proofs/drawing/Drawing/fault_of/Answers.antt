-- Answers the goals of `Drawing::fault_of`.
use Rattle.std.proofs.Common.{ap, arith, map, sym, ◌∙◌}
use Rattle.loops_text.specs.Edges.{push_fault}
use Rattle.loops_text.proofs.Drawings.{points_counted, push_fault-None, push_fault-TooMany}
use Rattle.loops_text.proofs.drawing.Drawing.fault_of.Goals as goal

pub returns-then-len-points-clause-value : goal.returns-then-len-points-clause-value
returns-then-len-points-clause-value c =
    let counted = points_counted c.self.invariant in
    let distinct = sym c.repeats_a_point.ensures.value ∙ c.if-repeats_a_point.false in
    sym (push_fault-TooMany (map (λ points. points.items) c.self.inside.loops.items) c.args.points.now c.if-points-lt2.false distinct (omega (arith, c.self.inside.edges.ok))) ∙ ap (λ loops. push_fault loops c.args.points.now) c.self.view_is

pub returns-else-len-points-clause-value : goal.returns-else-len-points-clause-value
returns-else-len-points-clause-value c =
    let counted = points_counted c.self.invariant in
    let distinct = sym c.repeats_a_point.ensures.value ∙ c.if-repeats_a_point.false in
    sym (push_fault-None (map (λ points. points.items) c.self.inside.loops.items) c.args.points.now c.if-points-lt2.false distinct (omega (arith, c.self.inside.edges.ok))) ∙ ap (λ loops. push_fault loops c.args.points.now) c.self.view_is
