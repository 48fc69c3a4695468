-- Answers the goals of `snap_law`.
use Rattle.loop_join.proofs.Movings.{are_snapped}
use Rattle.loop_join.proofs.law.snap_law.Goals as goal

pub returns : goal.returns
returns c = are_snapped
