-- Answers the goals of `write_path`.
use Rattle.std.proofs.Common.{rules}
use Rattle.gcode_text.proofs.Growing.{path_written}
use Rattle.gcode_text.proofs.writer.write_path.Goals as goal

pub returns-clause-text : goal.returns-clause-text
returns-clause-text c =
    path_written c.args.title.now c.args.job.now c.args.chains.now _ _ _ (search rules)
    c.in_ok-write_setup.ensures c.in_ok-write_chains.ensures.text
