-- Answers the goals of `least_of_few`.
use Rattle.std.proofs.Common.{◌≡◌, slice_index_or, subst, sym, inl, inr, ⊎_elim, arith}
use Rattle.plane_exact.specs.declared.point.Seg.{Seg}
use Rattle.engrave_model.specs.Drawing.{edges_of}
use Rattle.swept_move.specs.Clear.{PassesEdge}
use Rattle.depth_rule.proofs.Ahead.{begun_ahead, edge_at, first_there, rest_ahead}
use Rattle.depth_rule.proofs.Leasts.{least_begun, least_stepped}
use Rattle.depth_rule.proofs.Mets.{IsMetHere, IsPassedAt, first_of_all}
use Rattle.depth_rule.proofs.Parts.{spared_passes}
use Rattle.depth_rule.proofs.met.least_of_few.Goals as goal

pub loop-e-init : goal.loop-e-init
loop-e-init c =
    let edges = edges_of c.args.scene.now in
    let q = c.box_between.result in
    let all = c.into_iter-e-iterator.ensures.into_iter_gives in
    record {
      ahead = begun_ahead edges q c.near-e-items.result _ c.near-e-items.ensures all;
      far = least_begun (IsPassedAt edges c.args.bit.now c.args.mv.now) (IsMetHere edges c.args.bit.now c.args.mv.now) edges _ q c.near-e-items.result _ tt c.near-e-items.ensures all
          (λ k missed d. spared_passes c.args.bit.now c.args.mv.now _ (c.box_between.ensures.steep c.requires.deep) c.requires.deep (c.box_between.ensures.spared _ (missed d)));
      few = omega arith;
    }

pub edge-requires : goal.edge-requires
edge-requires c = first_there (edges_of c.args.scene.now) c.in-Some.e c.loop-e.e-iterator c.next.new.self c.in-Some.ensures.steps c.loop-e.invariant.ahead

pub loop-e-preserved : goal.loop-e-preserved
loop-e-preserved c =
    let edges = edges_of c.args.scene.now in
    let cone = c.args.bit.now in
    let mv = c.args.mv.now in
    let e = c.in-Some.e in
    let judged = c.lesser_met-least.ensures in
    let is : (d : Seg) → c.edge.result ≡ slice_index_or edges e d = λ d. sym (edge_at edges e c.edge.result c.edge.ensures.edge d) in
    record {
      ahead = rest_ahead edges e c.loop-e.e-iterator c.next.new.self c.in-Some.ensures.steps c.loop-e.invariant.ahead;
      far = least_stepped (IsPassedAt edges cone mv) (IsMetHere edges cone mv) edges c.loop-e.least c.lesser_met-least.result e c.loop-e.e-iterator c.next.new.self
          c.in-Some.ensures.steps (first_there edges e c.loop-e.e-iterator c.next.new.self c.in-Some.ensures.steps c.loop-e.invariant.ahead)
          judged.keeps
          (⊎_elim (λ passes. inl (λ d. subst (PassesEdge cone mv) (is d) passes)) inr judged.judged)
          (⊎_elim inl (λ here. inr (here.0, λ d. subst (λ e. ¬ PassesEdge cone mv e) (is d) here.1)) judged.found)
          c.loop-e.invariant.far;
      few = omega arith;
    }

pub returns : goal.returns
returns c =
    let met = first_of_all (edges_of c.args.scene.now) c.args.bit.now c.args.mv.now c.loop-e.least c.loop-e.e-iterator c.in-None.ensures.steps.0 c.loop-e.invariant.far in
    record { met = met.0; none = met.1 }
