-- Answers the goals of `Drawing::push_loop`.
use Rattle.std.proofs.Common.{[], ◌∷◌, ◌++◌, length, replicate, ap, arith, sym, ◌∙◌}
use Rattle.std.proofs.lemmas.List.{length-map}
use Rattle.engrave_model.specs.Drawing.{edges_of_loop}
use Rattle.loops_text.specs.Edges.{push_fault}
use Rattle.loops_text.proofs.Drawings.{few_loops, IsKept_after}
use Rattle.loops_text.proofs.drawing.Drawing.push_loop.Goals as goal

pub overflow_cast-number : goal.overflow_cast-number
overflow_cast-number c =
    let few = simp length-map at (few_loops c.self.invariant.drawing) in
    omega (arith, few, c.reserve.ensures.len, c.self.inside.loops.ok)

pub invariant_of-self-2 : goal.invariant_of-self-2
invariant_of-self-2 c =
    let free = ap (λ loops. push_fault loops c.args.points.now) c.self.view_is ∙ sym c.fault_of.ensures.value ∙ c.in_default.is in
    IsKept_after _ c.self.inside.loops.items _ c.in_ok-kept.kept c.self.inside.edges.items _ c.self.inside.loop_numbers.items _ c.args.points.now c.len-number.result c.self.invariant free (c.fault_of.ensures.on_grid c.in_default.is) (c.push_reserved.ensures.items ∙ ap (λ loops. loops ++ c.in_ok-kept.kept ∷ []) c.reserve.ensures.items) c.in_ok-kept.ensures.items (c.append_edges.ensures ∙ ap (λ edges. edges ++ edges_of_loop c.args.points.now) c.reserve-2.ensures.items) (omega (arith, c.reserve.ensures.len, c.self.inside.loops.ok)) (c.append_repeated.ensures ∙ ap (λ numbers. numbers ++ replicate (length c.args.points.now) c.len-number.result) c.reserve-3.ensures.items)
