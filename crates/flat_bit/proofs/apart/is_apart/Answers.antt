-- Answers the goals of `is_apart`.
use Rattle.std.proofs.Common.{◌∙◌, IsTrue, subst, sym}
use Rattle.segment_grid.proofs.NearLaws.{Done}
use Rattle.engrave_model.specs.Drawing.{edges_of}
use Rattle.depth_rule.proofs.Ahead.{begun_ahead, edge_at, first_there, rest_ahead}
use Rattle.flat_bit.proofs.Aparts.{IsNumberApart, all_done, edge_apart, none_done, one_done, one_of_all}
use Rattle.flat_bit.proofs.apart.is_apart.Goals as goal

pub loop-e-init : goal.loop-e-init
loop-e-init c =
    let edges = edges_of c.args.scene.now in
    let q = c.box_round.result in
    let all = c.into_iter-e-iterator.ensures.into_iter_gives in
    record {
      ahead = begun_ahead edges q c.near-e-items.result _ c.near-e-items.ensures all;
      done = subst (Done (IsNumberApart c.args.reach c.args.over c.args.p edges) edges) (sym all)
          (none_done c.args.reach c.args.over c.args.p edges q c.near-e-items.result c.near-e-items.ensures c.box_round.ensures);
    }

pub edge-requires : goal.edge-requires
edge-requires c = first_there (edges_of c.args.scene.now) c.in-Some.e c.loop-e.e-iterator c.next.new.self c.in-Some.ensures.steps c.loop-e.invariant.ahead

pub returns-then-not-dist_at_least : goal.returns-then-not-dist_at_least
returns-then-not-dist_at_least c =
    let edges = edges_of c.args.scene.now in
    let e = c.edge.result in
    let test = edge_apart c.args.reach c.args.over c.args.p e (IsTrue c.dist_at_least.result) c.dist_at_least.ensures in
    let there = first_there edges c.in-Some.e c.loop-e.e-iterator c.next.new.self c.in-Some.ensures.steps c.loop-e.invariant.ahead in
    let is = edge_at edges c.in-Some.e e c.edge.ensures.edge in (
      (λ yes. cc),
      (λ apart. let yes = test.1 (one_of_all c.args.reach c.args.over c.args.p edges c.in-Some.e e there is apart) in sym c.if-not-dist_at_least.true ∙ yes),
    )

pub loop-e-preserved : goal.loop-e-preserved
loop-e-preserved c =
    let edges = edges_of c.args.scene.now in
    let e = c.edge.result in
    let first = c.in-Some.ensures.steps in
    let test = edge_apart c.args.reach c.args.over c.args.p e (IsTrue c.dist_at_least.result) c.dist_at_least.ensures in
    record {
      ahead = rest_ahead edges c.in-Some.e c.loop-e.e-iterator c.next.new.self first c.loop-e.invariant.ahead;
      done = one_done c.args.reach c.args.over c.args.p edges c.in-Some.e c.loop-e.e-iterator c.next.new.self e first
          (edge_at edges c.in-Some.e e c.edge.ensures.edge) (test.0 c.if-not-dist_at_least.false) c.loop-e.invariant.done;
    }

pub returns : goal.returns
returns c =
    (λ yes. all_done c.args.reach c.args.over c.args.p (edges_of c.args.scene.now) c.loop-e.e-iterator c.in-None.ensures.steps.0 c.loop-e.invariant.done, λ apart. cc)
