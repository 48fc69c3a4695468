-- Answers the goals of `check`.
use Rattle.gouge_checker.proofs.Exact.{verdict_is_true}
use Rattle.gouge_checker.proofs.verdict.check.Goals as goal

pub returns-clause-safe : goal.returns-clause-safe
returns-clause-safe c =
    (verdict_is_true c.args.scene.now c.args.bit.now c.args.moves.now _ c.sn-slope.ensures.range.slope.low c.find_verdict.ensures).safe

pub returns-clause-exact : goal.returns-clause-exact
returns-clause-exact c =
    (verdict_is_true c.args.scene.now c.args.bit.now c.args.moves.now _ c.sn-slope.ensures.range.slope.low c.find_verdict.ensures).exact

pub returns-clause-harm : goal.returns-clause-harm
returns-clause-harm c =
    (verdict_is_true c.args.scene.now c.args.bit.now c.args.moves.now _ c.sn-slope.ensures.range.slope.low c.find_verdict.ensures).harm
