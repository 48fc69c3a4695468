-- Answers the goals of `Clearance::at_finish`.
use mir.Syntax.{w128}
use Rattle.std.proofs.Common.{lit<}
use Rattle.swept_move.proofs.Clearances.{at_finish_is}
use Rattle.swept_move.proofs.Widths.{read}
use Rattle.swept_move.proofs.clearance.Clearance.at_finish.Goals as goal

pub returns : goal.returns
returns c = (read w128 (at_finish_is c.args.self) (lit< tt)).value
