-- Answers the goals of `isqrt`.
use Rattle.std.proofs.Common.{arith}
use Rattle.grid_num.proofs.Roots.{isqrt_unique}
use Rattle.grid_num.proofs.root.isqrt.Goals as goal

pub returns-in-Ok-clause-value : goal.returns-in-Ok-clause-value
returns-in-Ok-clause-value c = isqrt_unique c.args.v c.isqrt.result (omega arith) (omega arith)

pub returns-in-Err-clause-value : goal.returns-in-Err-clause-value
returns-in-Err-clause-value c = isqrt_unique c.args.v c.isqrt-in-Err.result c.isqrt-in-Err.ensures.square_le c.isqrt-in-Err.ensures.next_square_gt
