-- Answers the goals of `plan_law`.
use Rattle.carve_plan.proofs.Planned.{plan_carves}
use Rattle.carve_plan.proofs.law.plan_law.Goals as goal

pub returns : goal.returns
returns c = plan_carves
