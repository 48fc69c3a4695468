-- Answers the goals of `clear`.
use Rattle.std.proofs.Common.{arith}
use Rattle.flat_bit.proofs.ClearedBits.{cleared}
use Rattle.flat_bit.proofs.marks.clear.Goals as goal

pub returns : goal.returns
returns c j = let room = c.requires in cleared c.args.bits.now c.args.i (omega arith) j
