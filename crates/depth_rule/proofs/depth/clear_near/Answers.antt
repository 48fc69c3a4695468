-- Answers the goals of `clear_near`.
use Rattle.std.proofs.Common.{subst, sym}
use Rattle.engrave_model.specs.Drawing.{edges_of}
use Rattle.depth_rule.proofs.Ahead.{begun_ahead, edge_at, first_there, rest_ahead}
use Rattle.depth_rule.proofs.Deepening.{IsSoFar, begun, ended, stepped}
use Rattle.depth_rule.proofs.depth.clear_near.Goals as goal

pub loop-e-init : goal.loop-e-init
loop-e-init c =
    let edges = edges_of c.args.scene.now in
    let q = c.disc_box.result in
    let all = c.into_iter-e-iterator.ensures.into_iter_gives in
    record {
      ahead = begun_ahead edges q c.near-e-items.result _ c.near-e-items.ensures all;
      far = subst (IsSoFar c.args.bit.now c.args.p edges c.args.most c.args.most) (sym all)
          (begun c.args.bit.now c.args.p edges q c.near-e-items.result c.args.most c.near-e-items.ensures c.disc_box.ensures);
    }

pub edge-requires : goal.edge-requires
edge-requires c = first_there (edges_of c.args.scene.now) c.in-Some.e c.loop-e.e-iterator c.next.new.self c.in-Some.ensures.steps c.loop-e.invariant.ahead

pub loop-e-preserved : goal.loop-e-preserved
loop-e-preserved c =
    let edges = edges_of c.args.scene.now in
    let first = c.in-Some.ensures.steps in
    let ahead = c.loop-e.invariant.ahead in
    record {
      ahead = rest_ahead edges c.in-Some.e c.loop-e.e-iterator c.next.new.self first ahead;
      far = stepped c.args.bit.now c.args.p edges c.args.most c.loop-e.depth c.clear_of_edge-depth.result c.in-Some.e c.loop-e.e-iterator c.next.new.self
          c.edge.result first (first_there edges c.in-Some.e c.loop-e.e-iterator c.next.new.self first ahead) (edge_at edges c.in-Some.e c.edge.result c.edge.ensures.edge)
          c.clear_of_edge-depth.ensures c.loop-e.invariant.far;
    }

pub returns : goal.returns
returns c = ended c.args.bit.now c.args.p (edges_of c.args.scene.now) c.args.most c.loop-e.depth c.loop-e.e-iterator c.in-None.ensures.steps.0 c.loop-e.invariant.far
