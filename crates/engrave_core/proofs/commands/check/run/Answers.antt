-- Answers the goals of `run`.
use Rattle.std.proofs.Common.{◌∙◌, arith}
use Rattle.engrave_core.specs.Loaded.{drawing_in}
use Rattle.engrave_core.proofs.ReportedCheck.{reported_check, uncaused}
use Rattle.engrave_core.proofs.commands.check.run.Goals as goal

pub returns-clause-value : goal.returns-clause-value
returns-clause-value g c =
    let loaded = c.in_ok-loaded.ensures.value in
    let judged = c.in_ok-verdict.ensures.value in
    record {
      value =
          reported_check (g.D.Depot.held c.args.depot.now) _ c.args.shape.now c.args.code.now _ c.args.bit.now (drawing_in c.in_ok-loaded.loaded)
          c.in_ok-verdict.verdict c.in_ok-verdict.count c.verdict_text.result loaded.unchanged c.as_str.ensures c.sn-slope.ensures.range.slope.low
          loaded.value judged.value c.verdict_text.ensures.value;
      caused = uncaused c.verdict_text.result _ _ _ _ c.verdict_text.ensures.refusal;
      unchanged = judged.unchanged ∙ loaded.unchanged;
      faults = omega (arith, loaded.faults, judged.faults);
      misses = omega (arith, loaded.misses, judged.misses);
    }
