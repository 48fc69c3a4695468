-- Answers the goals of `next_verdict`.
use Rattle.std.proofs.Common.{subst}
use Rattle.engrave_model.specs.Drawing.{edges_of}
use Rattle.gouge_checker.specs.Verdict.{IsVerdict}
use Rattle.gouge_checker.proofs.Verdicts.{clear_then, fault_stands}
use Rattle.gouge_checker.proofs.verdict.next_verdict.Goals as goal

pub returns-in-Clear-clause-law : goal.returns-in-Clear-clause-law
returns-in-Clear-clause-law c = λ moves before.
    clear_then (edges_of c.args.scene.now) c.args.bit.now c.args.mv.now moves c.judge.result
    (subst (IsVerdict (edges_of c.args.scene.now) c.args.bit.now moves) c.in-Clear.is before) c.judge.ensures

pub returns-in_default-clause-law : goal.returns-in_default-clause-law
returns-in_default-clause-law c = λ moves before.
    fault_stands (edges_of c.args.scene.now) c.args.bit.now c.args.mv.now moves c.args.before c.in_default.not-Clear before
