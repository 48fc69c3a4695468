-- Answers the goals of `clear_end`.
use Rattle.std.proofs.Common.{◌∙◌, ◌-◌, ap, arith, subst, sym}
use Rattle.std.specs.Prelude.{All, drop, take}
use Rattle.std.proofs.lemmas.Option.{slice_get_within}
use Rattle.engrave_model.specs.Crossing.{IsCrossing}
use Rattle.engrave_model.specs.Drawing.{edges_of}
use Rattle.segment_grid.proofs.NearLaws.{Done, done_end, done_step, near_done}
use Rattle.depth_rule.specs.Together.{IsHeldIn}
use Rattle.depth_rule.proofs.Ahead.{begun_ahead, first_there, rest_ahead}
use Rattle.depth_rule.proofs.Following.{IsBehindAll, judged_behind, missed_behind}
use Rattle.depth_rule.proofs.together.clear_end.Goals as goal

pub loop-j-init : goal.loop-j-init
loop-j-init c =
    let edges = edges_of c.args.scene.now in
    let i = c.args.i in
    let q = c.box_round-q.result in
    let all = c.into_iter-j-iterator.ensures.into_iter_gives in
    let same = c.some_from-edges.ensures ∙ ap (λ es. take 8 (drop i es)) (c.all_edges.ensures.edges ∙ ap edges_of c.drawing.ensures) in
    record {
      ahead = begun_ahead edges q c.near-j-items.result _ c.near-j-items.ensures all;
      done = subst (Done (IsBehindAll edges i) edges) (sym all)
          (near_done q edges c.near-j-items.result c.near-j-items.ensures (IsBehindAll edges i)
          (λ l there missed. missed_behind edges i q (subst (All (IsHeldIn q)) same c.box_round-q.ensures) l missed));
    }

pub edge-requires : goal.edge-requires
edge-requires c = first_there (edges_of c.args.scene.now) c.in-Some.j c.loop-j.j-iterator c.next.new.self c.in-Some.ensures.steps c.loop-j.invariant.ahead

pub loop-j-preserved : goal.loop-j-preserved
loop-j-preserved c =
    let edges = edges_of c.args.scene.now in
    let i = c.args.i in
    let j = c.in-Some.j in
    let other = c.edge.result in
    let first = c.in-Some.ensures.steps in
    let same = c.some_from-edges.ensures ∙ ap (λ es. take 8 (drop i es)) (c.all_edges.ensures.edges ∙ ap edges_of c.drawing.ensures) in
    let clear = subst (All (λ e. ¬ IsCrossing e other)) (c.some_before.ensures ∙ ap (take (j - i)) same) (c.are_clear_of.ensures c.if-not-are_clear_of.false) in
    record {
      ahead = rest_ahead edges j c.loop-j.j-iterator c.next.new.self first c.loop-j.invariant.ahead;
      done = done_step (IsBehindAll edges i) (IsBehindAll edges i) edges j c.loop-j.j-iterator c.next.new.self first (λ l is. is)
          (judged_behind edges i j other c.edge.ensures.edge clear) c.loop-j.invariant.done;
    }

pub returns-clause-clear : goal.returns-clause-clear
returns-clause-clear c k l from below pair =
    let edges = edges_of c.args.scene.now in
    let there = slice_get_within edges l pair.second pair.is_second in
    done_end (IsBehindAll edges c.args.i) edges c.loop-j.j-iterator c.in-None.ensures.steps.0 c.loop-j.invariant.done l there k from (omega arith) pair
