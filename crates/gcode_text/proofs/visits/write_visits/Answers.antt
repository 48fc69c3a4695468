-- Answers the goals of `write_visits`.
use Rattle.std.proofs.Common.{ap, rules, ◌∙◌}
use Rattle.gcode_text.specs.Moves.{moves_of}
use Rattle.gcode_text.proofs.Visited.{text_written, visits_read_back}
use Rattle.gcode_text.proofs.visits.write_visits.Goals as goal

pub returns-clause-text : goal.returns-clause-text
returns-clause-text c =
    text_written c.args.units c.args.safe c.args.feed c.args.changed c.args.count c.args.visits.now _ _ _ _ (search rules)
    c.in_ok-write_opening.ensures c.in_ok-write_path.ensures.text c.in_ok-write_end.ensures

pub returns-clause-read_back : goal.returns-clause-read_back
returns-clause-read_back c few =
    ap (moves_of c.args.units) (returns-clause-text c)
    ∙ visits_read_back c.args.units c.args.safe c.args.feed c.args.changed c.args.count c.args.visits.now c.requires.safe c.requires.feed c.in_ok-write_path.ensures.range few
