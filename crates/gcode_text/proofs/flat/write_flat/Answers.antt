-- Answers the goals of `write_flat`.
use Rattle.std.proofs.Common.{◌∙◌}
use Rattle.gcode_text.specs.Flat.{flat_title}
use Rattle.gcode_text.specs.declared.report.Subject.TheVariants.{Floor}
use Rattle.gcode_text.proofs.Closing.{reported_written}
use Rattle.gcode_text.proofs.FlatNotes.{flat_read_back}
use Rattle.gcode_text.proofs.flat.write_flat.Goals as goal

pub returns-clause-text : goal.returns-clause-text
returns-clause-text c =
    reported_written Floor (flat_title c.args.radius) c.args.job.now c.args.chains.now c.args.left.now _ _ _ _ (c.as_str.ensures.value ∙ c.in_ok-title.ensures) c.in_ok-code.ensures.text
    c.in_ok-write_report.ensures.text c.in_ok-write_end.ensures

pub returns-clause-read_back : goal.returns-clause-read_back
returns-clause-read_back c within =
    flat_read_back c.args.job.now c.args.radius c.args.chains.now c.args.left.now c.requires c.in_ok-code.ensures.range within c.in_ok-write_report.ensures.range
