-- Answers the goals of `text_of`.
use Rattle.std.proofs.Common.{arith}
use Rattle.std.proofs.lemmas.Str.{chars-nil}
use Rattle.engrave_core.proofs.drawing.text_of.Goals as goal

pub returns-in-None-clause-range : goal.returns-in-None-clause-range
returns-in-None-clause-range c = rw chars-nil (omega arith)
