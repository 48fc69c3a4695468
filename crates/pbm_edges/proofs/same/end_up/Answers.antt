-- Answers the goals of `end_up`.
use Rattle.std.proofs.Common.{◌+◌, ◌-◌, arith}
use Rattle.pbm_edges.proofs.Steady.{rows_more}
use Rattle.pbm_edges.proofs.same.end_up.Goals as goal

pub loop-block-preserved : goal.loop-block-preserved
loop-block-preserved c =
    let image = c.args.image.now in
    let y = c.height.result - c.args.i in
    record {
      within = omega arith;
      left = rows_more image c.args.columns c.loop-block.block y (omega arith) (c.is_column_steady.ensures c.if-is_column_steady.true) c.loop-block.invariant.within c.loop-block.invariant.left;
      right = rows_more image (c.args.columns + 1) c.loop-block.block y (omega arith) (c.is_column_steady-then-is_column_steady.ensures c.if-is_column_steady-2.true) c.loop-block.invariant.within
          c.loop-block.invariant.right;
    }
