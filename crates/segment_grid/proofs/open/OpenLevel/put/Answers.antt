-- The row has the entry more, and so the level.
use Rattle.std.proofs.Common.{arith}
use Rattle.std.proofs.lemmas.Result.{on_ok_weaker}
use Rattle.segment_grid.proofs.AddedEntries.{rows_added}
use Rattle.segment_grid.proofs.open.OpenLevel.put.Goals as goal

pub returns : goal.returns
returns c =
    let reached = c.in_ok-reach_row.ensures in
    let level = c.args.self.now in
    let rows = c.reach_row.new.rows in
    on_ok_weaker c.put_in_row.result
    (λ adds sorted.
    let is = rows_added (λ row. row.items) level.x0 level.y0 level.width level.height level.rows.items rows.items c.args.cell.row c.args.cell.column
    c.index_mut.result.now c.put_in_row.new.row (c.args.number, c.args.b)
    reached.extended (omega (arith, reached.there, rows.ok.0)) c.index_mut.ensures.value adds c.requires sorted in
    record { once = is.0; placed = is.1 })
    c.put_in_row.ensures
