-- Answers the goals of `is_disc_clear`.
use Rattle.engrave_model.proofs.Discs.{clear_of_each, each_of_clear}
use Rattle.depth_rule.proofs.steps.is_disc_clear.Goals as goal

pub returns : goal.returns
returns c = (
  λ yes. clear_of_each c.args.edges.now c.args.bit.now c.args.p c.args.z (c.are_edges_clear.ensures.0 yes),
  λ clear. c.are_edges_clear.ensures.1 (each_of_clear c.args.edges.now c.args.bit.now c.args.p c.args.z clear),
)
