-- Answers the goals of `bisected`.
use Rattle.std.proofs.Common.{arith}
use Rattle.engrave_model.specs.Depth.{IsEdgeClear}
use Rattle.depth_rule.proofs.Bisection.{brackets_all, brackets_below}
use Rattle.depth_rule.proofs.Deepening.{less_edge_clear, surface_edge_clear}
use Rattle.depth_rule.proofs.depth.bisected.Goals as goal

pub loop-low-init : goal.loop-low-init
loop-low-init c = brackets_all _ c.args.most (surface_edge_clear c.args.bit.now c.args.p c.args.e.now)

pub loop-low-preserved : goal.loop-low-preserved
loop-low-preserved c =
    brackets_below (λ z. IsEdgeClear c.args.bit.now c.args.p z c.args.e.now)
    (less_edge_clear c.args.bit.now c.args.p c.args.e.now)
    c.args.most c.loop-low.low c.loop-low.high _ c.loop-low.invariant (omega arith) (omega arith)
    (λ clear. let yes = c.is_edge_clear.ensures.1 clear in grind (arith, yes))
