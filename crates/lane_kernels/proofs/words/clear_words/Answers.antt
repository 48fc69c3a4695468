-- One word more is cleared.
use Rattle.std.proofs.Common.{arith, refl}
use Rattle.lane_kernels.specs.Words.{without}
use Rattle.lane_kernels.proofs.Zipped.{joined_next}
use Rattle.lane_kernels.proofs.words.clear_words.Goals as goal

pub loop-i-preserved : goal.loop-i-preserved
loop-i-preserved c =
    joined_next without c.loop-i.i c.args.a.now c.args.b.now c.loop-i.a c.requires c.loop-i.invariant (omega arith) 0 _ (omega arith) refl
