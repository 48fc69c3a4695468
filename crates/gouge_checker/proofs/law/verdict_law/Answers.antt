-- Answers the goals of `verdict_law`.
use Rattle.gouge_checker.proofs.Exact.{verdict_is_true}
use Rattle.gouge_checker.proofs.law.verdict_law.Goals as goal

pub returns : goal.returns
returns c = verdict_is_true
