-- Answers the goal of `answer`.
use Rattle.std.proofs.Common.{sym, subst}
use Rattle.engrave_core.specs.Due.{IsDueOf}
use Rattle.engrave_core.specs.Given.{IsReported}
use Rattle.engrave_core.specs.Stored.{AnswersFrom}
use Rattle.engrave_core.proofs.commands.answer.Goals as goal

pub returns-clause-value : goal.returns-clause-value
returns-clause-value g c =
    subst (λ asked. AnswersFrom g.D.Depot.held g.D.Depot.faults g.D.Depot.misses c.args.depot.now c.run.new.depot (λ files. IsReported (IsDueOf files asked)) c.run.result)
    (sym c.in_ok-request.ensures.accepted) c.run.ensures.value
