-- Answers the goals of `repair`.
use Rattle.std.proofs.Common.{arith}
use Rattle.code_repair.proofs.Worth.{repaired}
use Rattle.code_repair.proofs.repairs.repair.Goals as goal

pub returns-clause-worth : goal.returns-clause-worth
returns-clause-worth c = λ following.
    let slope = c.sn-slope.ensures.range in
    let safe = c.requires.safe.low in
    repaired c.args.scene.now c.args.bit.now c.args.safe c.args.moves.now _ _ (omega arith) (omega arith) following c.in_ok-repaired.ensures
