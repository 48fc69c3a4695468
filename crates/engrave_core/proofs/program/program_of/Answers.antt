-- Answers the goals of `program_of`.
use Rattle.std.proofs.Common.{ap, ◌∙◌}
use Rattle.gcode_text.specs.Path.{chain_moves}
use Rattle.engrave_core.specs.Programs.{IsUnprogrammed}
use Rattle.engrave_core.specs.Refusals.{cover_refusal}
use Rattle.engrave_core.proofs.CarvedCode.{plan_is_within, programmed, read_back, unreported}
use Rattle.engrave_core.proofs.Done.{refused_is_answered}
use Rattle.engrave_core.proofs.program.program_of.Goals as goal

pub chain_moves-requires-clause-few : goal.chain_moves-requires-clause-few
chain_moves-requires-clause-few c =
    plan_is_within c.args.job.now c.args.pockets c.args.scene.now c.in_ok-plan.plan.items c.deref.result.now c.deref.ensures.value c.in_ok-plan.ensures

pub returns-in_err-uncut-clause-value : goal.returns-in_err-uncut-clause-value
returns-in_err-uncut-clause-value c =
    refused_is_answered _ (IsUnprogrammed c.args.job.now c.args.pitch c.args.pockets c.args.scene.now) c.from_residual-in_err-uncut.result (cover_refusal c.in_err-uncut.field-0.0)
    c.from_residual-in_err-uncut.ensures.0 c.from_residual-in_err-uncut.ensures.1
    (unreported c.args.job.now c.args.pitch c.args.pockets c.args.scene.now c.in_ok-plan.plan.items c.in_err-uncut.field-0.0
    c.in_ok-plan.ensures c.in_err-uncut.ensures)

pub returns-clause-value : goal.returns-clause-value
returns-clause-value c =
    programmed c.args.job.now c.args.pitch c.args.pockets c.args.scene.now c.in_ok-plan.plan.items c.deref-3.result.now c.deref-2.result.now c.in_ok-uncut.uncut
    c.in_ok-text.text.items c.sn-slope.ensures.range.slope.low c.deref-3.ensures.value c.in_ok-plan.ensures
    (c.deref-2.ensures.value ∙ c.in_ok-moves.ensures ∙ ap (chain_moves c.args.job.now) c.deref.ensures.value) c.in_ok-uncut.ensures c.in_ok-text.ensures.text c.in_ok-text.ensures.read_back

pub returns-clause-moves : goal.returns-clause-moves
returns-clause-moves c =
    read_back c.args.job.now c.args.pockets c.args.scene.now c.in_ok-plan.plan.items c.deref-3.result.now c.in_ok-moves.moves.items c.in_ok-uncut.uncut
    c.in_ok-text.text.items c.deref-3.ensures.value c.in_ok-plan.ensures (c.in_ok-moves.ensures ∙ ap (chain_moves c.args.job.now) c.deref.ensures.value)
    c.in_ok-text.ensures.text c.in_ok-text.ensures.read_back
