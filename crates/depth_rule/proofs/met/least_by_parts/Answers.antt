-- Answers the goals of `least_by_parts`.
use Rattle.std.proofs.Common.{◌≡◌, refl, inl, inr, [], arith, subst}
use Rattle.engrave_model.specs.Drawing.{edges_of}
use Rattle.depth_rule.proofs.Judged.{AreJudged, IsSparedTo, all_judged, judged_more, seen_more}
use Rattle.depth_rule.proofs.Mets.{first_of_all}
use Rattle.depth_rule.proofs.met.least_by_parts.Goals as goal

pub loop-k-init : goal.loop-k-init
loop-k-init c = record { met = tt; steep = λ some. absurd (omega arith); seen = λ e d there met. absurd met; judged = λ e d there. inl (inr (inl refl)) }

pub loop-k-preserved : goal.loop-k-preserved
loop-k-preserved c =
    let edges = edges_of c.args.scene.now in
    let cone = c.args.bit.now in
    let mv = c.args.mv.now in
    let near = c.least_near-least.ensures in
    record {
      met = near.met;
      steep = λ some. c.box_between-q.ensures.steep c.requires.deep;
      seen = seen_more edges cone mv c.loop-k.k c.box_between-q.result c.loop-k.before c.loop-k.least c.least_near-least.result near.keeps (λ e d there. near.judged e d there) c.loop-k.invariant.seen;
      judged = judged_more edges cone mv c.loop-k.k c.box_between-q.result c.loop-k.before c.loop-k.least c.least_near-least.result near.keeps (λ e d there. near.judged e d there) c.loop-k.invariant.seen
          c.box_between-q.ensures.spared c.loop-k.invariant.judged;
    }

pub returns : goal.returns
returns c =
    let edges = edges_of c.args.scene.now in
    let cone = c.args.bit.now in
    let mv = c.args.mv.now in
    let whole : c.loop-k.k ≡ 64 = omega arith in
    let judged = subst (λ k. AreJudged edges cone mv (IsSparedTo k cone mv) c.loop-k.least) whole c.loop-k.invariant.judged in
    let met = first_of_all edges cone mv c.loop-k.least [] refl (all_judged edges cone mv c.loop-k.least (c.loop-k.invariant.steep (omega arith)) c.requires.deep c.loop-k.invariant.met judged) in
    record { met = met.0; none = met.1 }
