-- Answers the goals of `write_path`.
use Rattle.std.proofs.lemmas.Result.{IfOk-weaker}
use Rattle.gcode_text.proofs.Visited.{path_written}
use Rattle.gcode_text.proofs.visits.write_path.Goals as goal

pub returns-clause-text : goal.returns-clause-text
returns-clause-text c =
    IfOk-weaker c.write_each.result _ _
    (λ _ through. path_written c.args.units c.args.safe c.args.visits.now c.first-item.result c.over-start.result c.args.code.now.items c.write_over.new.code.items c.write_each.new.code.items
    c.in-len1-up.len_at_least c.first-item.is c.over-start.ensures c.in_ok-write_over.ensures through) c.write_each.ensures.text
