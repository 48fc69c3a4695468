-- The bucket of the column has the entry more, and so the row.
use Rattle.std.proofs.Common.{arith}
use Rattle.std.proofs.lemmas.Result.{on_ok_weaker}
use Rattle.segment_grid.proofs.AddedEntries.{row_added}
use Rattle.segment_grid.proofs.adding.put_in_row.Goals as goal

pub returns : goal.returns
returns c =
    let reached = c.in_ok-reach_column.ensures in
    let row = c.reach_column.new.row in
    on_ok_weaker c.push.result
    (row_added c.args.row.now.items row.items c.args.column c.index_mut.result.now c.push.new.self (c.args.number, c.args.b)
    reached.extended (omega (arith, reached.there, row.ok.0)) c.index_mut.ensures.value)
    c.push.ensures
