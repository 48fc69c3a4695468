-- Answers the goals of `count_of_loop`.
use Rattle.std.proofs.Common.{◌≡◌, arith, subst, sym}
use Rattle.std.proofs.lemmas.List.{drop_all, drop_more}
use Rattle.std.proofs.lemmas.List.Elements.{All-more}
use Rattle.carve_plan.specs.Stops.{IsOfAnother}
use Rattle.carve_plan.specs.declared.stop.Stop.{Stop}
use Rattle.carve_plan.proofs.round.count_of_loop.Goals as goal

pub returns-then-stops-count-clause-whole : goal.returns-then-stops-count-clause-whole
returns-then-stops-count-clause-whole c =
    let next = c.index-stops-count in
    subst (IsOfAnother c.args.loop_no) (sym (drop_more c.args.stops.now c.loop-count.count next.result c.loop-count-test.true))
    c.if-stops-count.true

pub loop-count-preserved : goal.loop-count-preserved
loop-count-preserved c =
    let next = c.index-stops-count in
    let IsOf : Stop → Type 0 = λ stop. stop.loop_no ≡ c.args.loop_no in
    record {
      within = omega arith;
      same = All-more IsOf c.args.stops.now c.loop-count.count next.result c.loop-count-test.true c.loop-count.invariant.same c.if-stops-count.false;
    }

pub returns-clause-whole : goal.returns-clause-whole
returns-clause-whole c = subst (IsOfAnother c.args.loop_no) (sym (drop_all c.loop-count.count c.args.stops.now c.loop-count-test.false)) tt
