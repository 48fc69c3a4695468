-- No flag is set.
use Rattle.std.proofs.Common.{sym, ◌∙◌}
use Rattle.segment_grid.proofs.HitLaws.{none_flagged}
use Rattle.segment_grid.proofs.hits.Chunk.is_unset.Goals as goal

pub returns : goal.returns
returns c = λ unset. none_flagged 16 c.args.self.now.numbers.now c.args.self.now.flags c.args.self.now.at (sym c.eq.ensures ∙ unset)
