-- Answers the goals of `run`.
use Rattle.std.proofs.Common.{◌∙◌}
use Rattle.engrave_core.proofs.TriedField.{untried_is_reported}
use Rattle.engrave_core.proofs.commands.trial.run.Goals as goal

pub returns-in_err-summary-clause-value : goal.returns-in_err-summary-clause-value
returns-in_err-summary-clause-value c =
    untried_is_reported c.args.count _ c.from_residual-in_err-summary.result c.in_err-summary.field-0.0 c.from_residual-in_err-summary.ensures.0
    c.from_residual-in_err-summary.ensures.1 (c.in_ok-scene.ensures ∙ c.in_ok-trial_field.ensures) c.in_err-summary.ensures.value
