-- Answers the goals of `first_crossed`.
use Rattle.std.proofs.Common.{subst, inl, inr, ⊎_elim}
use Rattle.engrave_model.specs.Drawing.{edges_of}
use Rattle.loops_text.proofs.Crossings.{clear_judged, crossed_found, edge_apart}
use Rattle.segment_grid.specs.Near.{AreNear}
use Rattle.depth_rule.proofs.Ahead.{begun_ahead, first_there, rest_ahead}
use Rattle.depth_rule.proofs.Crossings.{IsClearBehind, IsCrossedBehind, clear_missed, first_crossed}
use Rattle.depth_rule.proofs.Leasts.{least_begun, least_stepped}
use Rattle.depth_rule.proofs.crossing.first_crossed.Goals as goal

pub loop-j-init : goal.loop-j-init
loop-j-init c =
    let edges = edges_of c.args.scene.now in
    let i = c.args.i in
    let all = c.into_iter-j-iterator.ensures.into_iter_gives in
    let near = subst (λ q. AreNear edges q c.near-j-items.result) c.box_of.ensures c.near-j-items.ensures in
    record {
      ahead = begun_ahead edges _ c.near-j-items.result _ near all;
      far = least_begun (IsClearBehind edges i) (IsCrossedBehind edges i) edges _ _ c.near-j-items.result _ tt near all (clear_missed edges i c.edge-first.result c.edge-first.ensures.edge);
    }

pub edge-requires : goal.edge-requires
edge-requires c = first_there (edges_of c.args.scene.now) c.in-Some.j c.loop-j.j-iterator c.next.new.self c.in-Some.ensures.steps c.loop-j.invariant.ahead

pub lesser_crossed-least-requires-clause-first : goal.lesser_crossed-least-requires-clause-first
lesser_crossed-least-requires-clause-first c = edge_apart c.args.scene.now c.args.i c.edge-first.result c.edge-first.ensures.drawing c.edge-first.ensures.edge

pub lesser_crossed-least-requires-clause-second : goal.lesser_crossed-least-requires-clause-second
lesser_crossed-least-requires-clause-second c = edge_apart c.args.scene.now c.in-Some.j c.edge.result c.edge.ensures.drawing c.edge.ensures.edge

pub loop-j-preserved : goal.loop-j-preserved
loop-j-preserved c =
    let edges = edges_of c.args.scene.now in
    let i = c.args.i in
    let j = c.in-Some.j in
    let all = c.loop-j.j-iterator in
    let left = c.next.new.self in
    let start = c.in-Some.ensures.steps in
    let first = c.edge-first.result in
    let second = c.edge.result in
    let is_first = c.edge-first.ensures.edge in
    let is_second = c.edge.ensures.edge in
    record {
      ahead = rest_ahead edges j all left start c.loop-j.invariant.ahead;
      far = least_stepped (IsClearBehind edges i) (IsCrossedBehind edges i) edges c.loop-j.least c.lesser_crossed-least.result j all left start
          (first_there edges j all left start c.loop-j.invariant.ahead)
          c.lesser_crossed-least.ensures.keeps
          (⊎_elim (λ clear. inl (clear_judged edges i first is_first j second is_second clear)) inr c.lesser_crossed-least.ensures.judged)
          (⊎_elim inl (λ here. inr (here.0, crossed_found edges i first is_first j second is_second here.1 here.2)) c.lesser_crossed-least.ensures.found)
          c.loop-j.invariant.far;
    }

pub returns : goal.returns
returns c =
    first_crossed (edges_of c.args.scene.now) c.args.i c.edge-first.result c.edge-first.ensures.edge c.loop-j.least c.loop-j.j-iterator c.in-None.ensures.steps.0 c.loop-j.invariant.far
