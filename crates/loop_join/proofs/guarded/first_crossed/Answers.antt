-- Answers the goals of `first_crossed`.
use Rattle.std.proofs.Common.{below_more, arith}
use Rattle.std.proofs.lemmas.Option.{slice_get_within}
use Rattle.engrave_model.specs.Drawing.{edges_of}
use Rattle.loops_text.proofs.Crossings.{clear_judged, edge_apart}
use Rattle.loops_text.proofs.Drawings.{length-edges_of}
use Rattle.loop_join.proofs.guarded.first_crossed.Goals as goal

pub overflow_step-j : goal.overflow_step-j
overflow_step-j c =
    let few = c.edge-first.ensures.drawing.few in
    omega (arith, length-edges_of c.args.d.now)

pub crosses-requires-clause-first : goal.crosses-requires-clause-first
crosses-requires-clause-first c = edge_apart c.args.d.now c.args.i c.edge-first.result c.edge-first.ensures.drawing c.edge-first.ensures.edge

pub crosses-requires-clause-second : goal.crosses-requires-clause-second
crosses-requires-clause-second c = edge_apart c.args.d.now c.loop-j.j c.edge.result c.edge.ensures.drawing c.edge.ensures.edge

pub loop-j-preserved : goal.loop-j-preserved
loop-j-preserved c =
    below_more _ _ c.loop-j.invariant
    (clear_judged (edges_of c.args.d.now) c.args.i c.edge-first.result c.edge-first.ensures.edge c.loop-j.j c.edge.result c.edge.ensures.edge
    (λ order crossing. let yes = c.crosses.ensures.1 crossing in let no = c.if-crosses.false in absurd (cc)))

pub returns : goal.returns
returns c = λ j pair.
    let there = slice_get_within (edges_of c.args.d.now) j pair.second pair.is_second in
    let count = c.edges-j-end.ensures.count in
    let order = pair.order in
    c.loop-j.invariant j (omega arith) pair
