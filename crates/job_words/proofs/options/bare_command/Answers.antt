-- Answers the goals of `bare_command`.
use Rattle.std.proofs.Common.{◌∙◌, ap}
use Rattle.clap.specs.Simple.{app_of_fields}
use Rattle.job_words.proofs.Apps.{options_app-none, without_help, without_version}
use Rattle.job_words.proofs.options.bare_command.Goals as goal

pub returns : goal.returns
returns c =
    ap app_of_fields c.disable_version_flag.ensures
    ∙ ap without_version (ap app_of_fields c.disable_help_flag.ensures ∙ ap without_help c.new.ensures.app)
    ∙ options_app-none
