-- Answers the goals of `Drawing::loops`.
use Rattle.std.proofs.Common.{arith}
use Rattle.std.proofs.lemmas.List.{length-map}
use Rattle.loops_text.proofs.Drawings.{few_loops}
use Rattle.loops_text.proofs.drawing.Drawing.loops.Goals as goal

pub overflow_cast-result : goal.overflow_cast-result
overflow_cast-result c =
    let few = few_loops c.self.invariant.drawing in
    omega (arith, simp length-map at few)
