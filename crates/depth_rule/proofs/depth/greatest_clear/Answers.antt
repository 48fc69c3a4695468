-- Answers the goals of `greatest_clear`.
use Rattle.std.proofs.Common.{inl, inr}
use Rattle.engrave_model.specs.Drawing.{edges_of}
use Rattle.depth_rule.proofs.Deepening.{decided}
use Rattle.depth_rule.proofs.depth.greatest_clear.Goals as goal
use Rattle.depth_rule.proofs.depth.greatest_clear.Goals.{then-depth-asked-via-then-depth-asked, then-depth-asked-via-else-depth-asked+then-asked-most}

pub returns-then-depth-asked : goal.returns-then-depth-asked
returns-then-depth-asked c =
    decided c.args.bit.now c.args.p (edges_of c.args.scene.now) c.loop-asked.asked c.args.most c.clear_near-depth.result c.loop-asked.invariant.0
    (elim c.then-depth-asked.branch [
      | then-depth-asked-via-then-depth-asked w ↦ inl w.if-depth-asked.true
      | then-depth-asked-via-else-depth-asked+then-asked-most w ↦ inr w.if-asked-most.true
    ])
    c.clear_near-depth.ensures
