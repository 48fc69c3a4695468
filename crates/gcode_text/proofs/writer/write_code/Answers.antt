-- Answers the goals of `write_code`.
use Rattle.std.proofs.Common.{◌∙◌}
use Rattle.gcode_text.proofs.Chains.{read_back}
use Rattle.gcode_text.specs.Path.{job_note}
use Rattle.gcode_text.specs.declared.report.Subject.TheVariants.{Uncut}
use Rattle.gcode_text.proofs.Closing.{reported_written}
use Rattle.gcode_text.proofs.writer.write_code.Goals as goal

pub returns-clause-text : goal.returns-clause-text
returns-clause-text c =
    reported_written Uncut (job_note c.args.job.now) c.args.job.now c.args.chains.now c.args.uncut.now _ _ _ _ (c.as_str.ensures.value ∙ c.in_ok-title.ensures) c.in_ok-code.ensures.text
    c.in_ok-write_report.ensures.text c.in_ok-write_end.ensures

pub returns-clause-read_back : goal.returns-clause-read_back
returns-clause-read_back c within =
    read_back c.args.job.now c.args.chains.now c.args.uncut.now c.requires c.in_ok-code.ensures.range within c.in_ok-write_report.ensures.range
