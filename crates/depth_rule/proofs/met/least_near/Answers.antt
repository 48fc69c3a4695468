-- Answers the goals of `least_near`.
use Rattle.std.proofs.Common.{◌≡◌, slice_index_or, subst, sym, inl, inr, pos, ⊎_elim}
use Rattle.plane_exact.specs.declared.point.Seg.{Seg}
use Rattle.engrave_model.specs.Drawing.{edges_of}
use Rattle.swept_move.specs.Clear.{PassesEdge}
use Rattle.depth_rule.specs.Parts.{IsMetBy, IsSettled}
use Rattle.depth_rule.proofs.Ahead.{begun_ahead, edge_at, first_there, rest_ahead}
use Rattle.depth_rule.proofs.Leasts.{least_begun, least_judged, least_stepped}
use Rattle.depth_rule.proofs.Mets.{IsMetHere}
use Rattle.depth_rule.proofs.met.least_near.Goals as goal

pub loop-e-init : goal.loop-e-init
loop-e-init c =
    let edges = edges_of c.args.scene.now in
    let q = c.args.q in
    let all = c.into_iter-e-iterator.ensures.into_iter_gives in
    record {
      ahead = begun_ahead edges q c.near-e-items.result _ c.near-e-items.ensures all;
      keeps = λ k below. below;
      far = λ d.
          least_begun (λ k. IsSettled q c.args.before c.args.bit.now c.args.mv.now (slice_index_or edges k d)) (IsMetHere edges c.args.bit.now c.args.mv.now) edges c.args.least q
          c.near-e-items.result _ c.requires.met c.near-e-items.ensures all (λ k missed. inl (missed d));
    }

pub edge-requires : goal.edge-requires
edge-requires c = first_there (edges_of c.args.scene.now) c.in-Some.e c.loop-e.e-iterator c.next.new.self c.in-Some.ensures.steps c.loop-e.invariant.ahead

pub loop-e-preserved : goal.loop-e-preserved
loop-e-preserved c =
    let edges = edges_of c.args.scene.now in
    let cone = c.args.bit.now in
    let mv = c.args.mv.now in
    let e = c.in-Some.e in
    let judged = c.lesser_new-lesser.ensures in
    let is : (d : Seg) → c.edge.result ≡ slice_index_or edges e d = λ d. sym (edge_at edges e c.edge.result c.edge.ensures.edge d) in
    record {
      ahead = rest_ahead edges e c.loop-e.e-iterator c.next.new.self c.in-Some.ensures.steps c.loop-e.invariant.ahead;
      keeps = λ k below. judged.keeps k (c.loop-e.invariant.keeps k below);
      far = λ d.
          least_stepped (λ k. IsSettled c.args.q c.args.before cone mv (slice_index_or edges k d)) (IsMetHere edges cone mv) edges c.loop-e.lesser c.lesser_new-lesser.result e c.loop-e.e-iterator
          c.next.new.self c.in-Some.ensures.steps (first_there edges e c.loop-e.e-iterator c.next.new.self c.in-Some.ensures.steps c.loop-e.invariant.ahead)
          judged.keeps
          (⊎_elim (λ met. inl (inr (inl (subst (IsMetBy c.args.before) (is d) met)))) (⊎_elim (λ passes. inl (inr (inr (subst (PassesEdge cone mv) (is d) passes)))) inr) judged.judged)
          (⊎_elim inl (λ here. inr (here.0, λ d. subst (λ e. ¬ PassesEdge cone mv e) (is d) here.1)) judged.found)
          (c.loop-e.invariant.far d);
    }

pub returns : goal.returns
returns c =
    let edges = edges_of c.args.scene.now in
    let any : Seg = record { a = record { x = pos 0; y = pos 0 }; b = record { x = pos 0; y = pos 0 } } in
    let far = c.loop-e.invariant.far any in
    record {
      met = far.bad;
      keeps = c.loop-e.invariant.keeps;
      judged = λ k d there.
          least_judged (λ k. IsSettled c.args.q c.args.before c.args.bit.now c.args.mv.now (slice_index_or edges k d)) (IsMetHere edges c.args.bit.now c.args.mv.now) edges c.loop-e.lesser
          c.loop-e.e-iterator c.in-None.ensures.steps.0 (c.loop-e.invariant.far d) k there;
    }
