-- Answers the goals of `Pairs::of`.
use Rattle.std.proofs.Common.{arith, ap, length}
use Rattle.dxf_outline.proofs.Streams.{length-texts_of}
use Rattle.dxf_outline.proofs.ahead.Pairs.of.Goals as goal

pub invariant_of-result : goal.invariant_of-result
invariant_of-result c = record { fits = omega (arith, c.read_pair-head.ensures.fewer, ap length c.of-texts.ensures, length-texts_of c.args.bytes.now) }
