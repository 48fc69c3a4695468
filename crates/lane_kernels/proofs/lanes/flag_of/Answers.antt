-- Answers the goals of `flag_of`.
use Rattle.std.proofs.Common.{rules}
use Rattle.lane_kernels.proofs.FourTests.{AreCorners, box_flag}
use Rattle.lane_kernels.proofs.lanes.flag_of.Goals as goal

pub returns : goal.returns
returns c =
    let q : AreCorners c.args.q = (search rules, search rules, search rules, search rules) in
    let b : AreCorners c.args.b = (search rules, search rules, search rules, search rules) in
    box_flag c.args.q c.args.b q b
