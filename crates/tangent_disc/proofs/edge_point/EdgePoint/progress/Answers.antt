-- Answers the goals of `EdgePoint::progress`.
use Rattle.std.proofs.Common.{arith, subst, sym}
use Rattle.std.proofs.lemmas.Int.{ints}
use Rattle.tangent_disc.specs.Tangent.{centre_over}
use Rattle.tangent_disc.specs.Ways.{IsAmongGrid}
use Rattle.tangent_disc.proofs.Reach.{along_kept, placed_kept, start_among, start_kept, step_kept}
use Rattle.tangent_disc.proofs.edge_point.EdgePoint.progress.Goals as goal

pub overflow_mul-result-2 : goal.overflow_mul-result-2
overflow_mul-result-2 c = (along_kept c.args.self.now c.requires.range c.args.from c.args.to c.requires.from c.requires.to).fits

pub overflow_add-result : goal.overflow_add-result
overflow_add-result c = (placed_kept c.args.self.now c.requires.range c.args.from c.args.to c.requires.from c.requires.to).fits

pub overflow_mul-result-3 : goal.overflow_mul-result-3
overflow_mul-result-3 c = (start_kept c.args.self.now c.requires.range c.args.from c.args.to c.requires.from c.requires.to).fits

pub invariant_of-result : goal.invariant_of-result
invariant_of-result c =
    let step = (step_kept c.args.self.now c.requires.range c.args.normal c.requires.normal).range in
    let low = step.low in
    let high = step.high in
    record {
      from = (start_kept c.args.self.now c.requires.range c.args.from c.args.to c.requires.from c.requires.to).range;
      by = record { low = omega (arith, ints); high = omega (arith, ints) };
    }

pub returns-clause-start : goal.returns-clause-start
returns-clause-start c = (start_kept c.args.self.now c.requires.range c.args.from c.args.to c.requires.from c.requires.to).value

pub returns-clause-step : goal.returns-clause-step
returns-clause-step c = (step_kept c.args.self.now c.requires.range c.args.normal c.requires.normal).value

pub returns-clause-among : goal.returns-clause-among
returns-clause-among c =
    subst (λ z. IsAmongGrid z (centre_over c.args.self.now))
    (sym (start_kept c.args.self.now c.requires.range c.args.from c.args.to c.requires.from c.requires.to).value)
    (start_among c.args.self.now c.requires.range c.args.from c.args.to c.requires.from c.requires.to)
