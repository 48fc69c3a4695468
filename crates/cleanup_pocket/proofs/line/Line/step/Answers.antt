-- Answers the goals of `step`.
use Rattle.cleanup_pocket.proofs.StoredPlaces.{step_is}
use Rattle.cleanup_pocket.proofs.line.Line.step.Goals as goal

pub returns : goal.returns
returns c =
    let line = c.args.self.now in
    step_is c.args.place line.high c.requires.place line.high_range c.requires.within line.axis line.at c.args.depth c.node.result c.node-2.result _ c.node.ensures c.node-2.ensures c.between.ensures
