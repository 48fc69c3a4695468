-- Answers the goals of `ones_below`.
use Rattle.std.proofs.Common.{arith}
use Rattle.evenodd_region.proofs.BitRuns.{shifted_below}
use Rattle.evenodd_region.proofs.words.ones_below.Goals as goal

pub returns-else-ones-eq0 : goal.returns-else-ones-eq0
returns-else-ones-eq0 c = shifted_below c.args.end c.args.word c.min-ones.result (omega arith) (omega arith)
