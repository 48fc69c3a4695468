-- Four words more are cleared, and at the end the rest.
use Rattle.std.proofs.Common.{arith, ◌∙◌}
use Rattle.lane_kernels.specs.Words.{without}
use Rattle.lane_kernels.proofs.Zipped.{joined_chunk, joined_part}
use Rattle.lane_kernels.proofs.words.and_not.Goals as goal

pub loop-a-preserved : goal.loop-a-preserved
loop-a-preserved c =
    (c.clear_four.ensures ∙ joined_chunk without c.loop-a.at c.args.a.now c.args.b.now c.loop-a.a c.requires c.loop-a.invariant.0 (omega arith) 4 (omega arith), omega arith)

pub returns : goal.returns
returns c =
    joined_part without c.loop-a.at c.args.a.now c.args.b.now c.loop-a.a c.clear_words.new.a c.requires c.loop-a.invariant.0 (omega arith) c.clear_words.ensures
