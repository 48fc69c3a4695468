-- Answers the goals of `split_at_point`.
use Rattle.std.proofs.Common.{◌==◌}
use Rattle.grid_num.proofs.Sides.{before_first_none, after_first_none}
use Rattle.grid_num.proofs.decimal.split_at_point.Goals as goal

pub returns-in-None-clause-whole : goal.returns-in-None-clause-whole
returns-in-None-clause-whole c = before_first_none (λ byte. byte == 46) c.args.text.now c.in-None.ensures.none

pub returns-in-None-clause-fraction : goal.returns-in-None-clause-fraction
returns-in-None-clause-fraction c = after_first_none (λ byte. byte == 46) c.args.text.now c.in-None.ensures.none
