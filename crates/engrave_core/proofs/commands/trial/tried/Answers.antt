-- Answers the goals of `tried`.
use Rattle.std.proofs.Common.{arith}
use Rattle.engrave_core.specs.Commands.Trial.{IsUntried}
use Rattle.engrave_core.specs.Refusals.{contact_refusal}
use Rattle.engrave_core.proofs.Done.{refused_is_answered}
use Rattle.engrave_core.proofs.TriedField.{plan_fits, program_fit, summarized, uncontacted}
use Rattle.engrave_core.proofs.commands.trial.tried.Goals as goal

pub returns-in_err-contacts-clause-value : goal.returns-in_err-contacts-clause-value
returns-in_err-contacts-clause-value c =
    refused_is_answered _ (IsUntried c.args.scene.now) c.from_residual.result (contact_refusal c.in_err-contacts.field-0.0)
    c.from_residual.ensures.0 c.from_residual.ensures.1
    (uncontacted c.args.scene.now c.drawing.result.now c.job-job.result c.in_err-contacts.field-0.0 c.drawing.ensures c.job-job.ensures.value c.in_err-contacts.ensures.value)

pub clear_moves-requires-clause-fit : goal.clear_moves-requires-clause-fit
clear_moves-requires-clause-fit c =
    let program = c.in_ok-program.program in
    program_fit c.args.scene.now c.job-job.result program.plan.items program.uncut program.text.items c.job-job.ensures.value c.in_ok-program.ensures.value
    program.moves.items c.in_ok-program.ensures.moves

pub summary_of-requires : goal.summary_of-requires
summary_of-requires c =
    let program = c.in_ok-program.program in
    plan_fits c.args.scene.now c.job-job.result program.plan.items program.uncut program.text.items c.job-job.ensures.value c.in_ok-program.ensures.value

pub returns-clause-value : goal.returns-clause-value
returns-clause-value c =
    let program = c.in_ok-program.program in
    let many = c.in_ok-contacts.contacts.ok.0 in
    summarized c.args.scene.now c.job-job.result program.plan.items program.uncut program.text.items c.job-job.ensures.value c.in_ok-program.ensures.value
    c.args.count c.in_ok-contacts.contacts.items c.drawing.result.now program.moves.items c.in_ok-moves.moves c.len.result c.drawing-2.result.now c.summary_of.result
    c.drawing.ensures c.in_ok-contacts.ensures.value c.in_ok-program.ensures.moves c.in_ok-moves.ensures (omega (arith, many, c.len.ensures)) c.drawing-2.ensures c.summary_of.ensures
