-- Answers the goals of `follow_law`.
use Rattle.gcode_text.proofs.Follows.{few_moves, follows}
use Rattle.gcode_text.proofs.law.follow_law.Goals as goal

pub returns-clause-follow : goal.returns-clause-follow
returns-clause-follow c = follows

pub returns-clause-few : goal.returns-clause-few
returns-clause-few c = few_moves
