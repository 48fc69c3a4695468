-- Answers the goals of `put_four`.
use Rattle.std.proofs.Common.{pos}
use Rattle.lane_kernels.specs.Boxes.{hit_of}
use Rattle.lane_kernels.proofs.Fronts.{four_next}
use Rattle.lane_kernels.proofs.lanes.put_four.Goals as goal

pub returns-clause-front : goal.returns-clause-front
returns-clause-front c =
    four_next (hit_of c.args.q) (record { x0 = pos 0; y0 = pos 0; x1 = pos 0; y1 = pos 0 }) c.args.boxes.now c.args.at
    c.args.out.now c.flag_of.result c.flag_of-2.result c.flag_of-3.result c.flag_of-4.result
    c.requires.room c.requires.same c.flag_of.ensures c.flag_of-2.ensures c.flag_of-3.ensures c.flag_of-4.ensures c.requires.front
