-- Answers the goals of `with_options`.
use Rattle.std.proofs.Common.{◌∙◌, ◌<◌, ap, arith, false, length, [], sym, append-nil}
use Rattle.job_words.specs.Options.{options_app}
use Rattle.job_words.specs.declared.options.CommandOption.{CommandOption}
use Rattle.job_words.proofs.Accepting.{one_more}
use Rattle.job_words.proofs.options.with_options.Goals as goal

pub loop-option-init : goal.loop-option-init
loop-option-init c before is = is ∙ ap options_app (sym (append-nil before))

pub loop-option-preserved : goal.loop-option-preserved
loop-option-preserved c before is =
    let none : CommandOption = record { name = record { ref_ptr = (0, 0); now = [] }; required = false } in
    let inside : c.loop-option.option-index < length c.args.options.now = omega arith in
    one_more before c.args.options.now c.loop-option.option-index none _ _ _ inside (c.loop-option.invariant before is)
    c.argument_of.ensures.rule (c.in_ok-longer.ensures.shape c.argument_of.ensures.local)
