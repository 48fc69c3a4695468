-- Answers the goals of `Clearance::finishes_clear`.
use mir.Syntax.{w128}
use Rattle.std.proofs.Common.{arith, ◌∙◌}
use Rattle.std.proofs.lemmas.Int.{ints, to_z-of_z}
use Rattle.swept_move.proofs.Clearances.{finish_test}
use Rattle.swept_move.proofs.clearance.Clearance.finishes_clear.Goals as goal

pub returns-then-part : goal.returns-then-part
returns-then-part c =
    let q = c.args.self in
    let part = c.args.part in
    finish_test q.a q.half q.c part.over (omega (arith, ints)) part.last _ (omega (arith, ints)) (to_z-of_z w128 c.at_finish.result (record { sfits = c.at_finish.type_inv }) ∙ c.at_finish.ensures)
