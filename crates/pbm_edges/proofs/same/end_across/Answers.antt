-- Answers the goals of `end_across`.
use Rattle.std.proofs.Common.{arith}
use Rattle.pbm_edges.proofs.Steady.{byte_more, same_till, till_within}
use Rattle.pbm_edges.proofs.same.end_across.Goals as goal

pub loop-b-preserved : goal.loop-b-preserved
loop-b-preserved c =
    record {
      within = omega arith;
      same = byte_more c.args.image.now c.args.rows c.args.i c.loop-b.b c.args.side _ _ c.byte_at.ensures c.byte_at-in-loop-b.ensures (c.parts_alike.ensures c.if-parts_alike.true) c.loop-b.invariant.same;
    }

pub returns-clause-within : goal.returns-clause-within
returns-clause-within c = till_within c.max.result c.args.i c.loop-b.b c.args.image.now.width c.requires.place c.loop-b.invariant.within c.max.ensures

pub returns-clause-same : goal.returns-clause-same
returns-clause-same c = same_till c.args.image.now c.args.rows c.args.i c.loop-b.b c.args.side c.max.result c.requires.side c.max.ensures c.loop-b.invariant.same
