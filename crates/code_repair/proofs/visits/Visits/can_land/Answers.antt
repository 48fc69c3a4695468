-- Answers the goals of `can_land`.
use Rattle.std.proofs.Common.{arith}
use Rattle.engrave_model.specs.Drawing.{edges_of}
use Rattle.code_repair.proofs.Stepping.{clear_lands}
use Rattle.code_repair.proofs.visits.Visits.can_land.Goals as goal

pub returns-else-depth-eq0 : goal.returns-else-depth-eq0
returns-else-depth-eq0 c =
    clear_lands (edges_of c.args.scene.now) c.args.bit.now c.args.self.now.safe c.args.spot c.over.result c.is_clear.result c.over.ensures c.is_clear.ensures
    (λ none. let depth = c.depth.ensures.value in c.if-depth-eq0.false (omega arith))
