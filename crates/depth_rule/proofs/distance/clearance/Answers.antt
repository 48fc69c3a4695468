-- Answers the goals of `clearance`.
use Rattle.engrave_model.specs.Drawing.{edges_of}
use Rattle.depth_rule.proofs.Clearances.{clearance_is}
use Rattle.depth_rule.proofs.distance.clearance.Goals as goal

pub returns : goal.returns
returns c =
    let bit = c.right_angled_bit.ensures in
    clearance_is (edges_of c.args.scene.now) c.right_angled_bit.result c.args.p bit.slope bit.over c.args.cap c.greatest_clear.result c.greatest_clear.ensures
