-- Answers the goals of `Drawing::edges`.
use Rattle.std.proofs.Common.{arith}
use Rattle.loops_text.proofs.Drawings.{few_edges}
use Rattle.loops_text.proofs.drawing.Drawing.edges.Goals as goal

pub overflow_cast-result : goal.overflow_cast-result
overflow_cast-result c = let few = few_edges c.self.invariant in omega (arith, c.self.inside.edges.ok)

pub returns-clause-few : goal.returns-clause-few
returns-clause-few c = let few = few_edges c.self.invariant in omega (arith, c.self.inside.edges.ok)
