-- Answers the goals of `is_clear`.
use Rattle.std.proofs.Common.{rules}
use Rattle.engrave_model.specs.Drawing.{edges_of}
use Rattle.depth_rule.proofs.Mets.{met_is_nothing}
use Rattle.depth_rule.proofs.clear.is_clear.Goals as goal

pub returns-in_default : goal.returns-in_default
returns-in_default c = (
  (λ yes. cc),
  (λ clear. absurd (c.in_default.not-Nothing (met_is_nothing (edges_of c.args.scene.now) c.args.bit.now c.args.mv.now _ (c.is_deep.ensures.0 (search rules)) c.first_met.ensures clear))),
)
