-- One of the levels has the entry more, and so all of them.
use Rattle.std.proofs.Common.{arith, subst, sym}
use Rattle.std.proofs.lemmas.Result.{on_ok_weaker}
use Rattle.segment_grid.specs.Added.{IsBareLevel, IsExtended}
use Rattle.segment_grid.proofs.AddingLaws.{extended_push}
use Rattle.segment_grid.proofs.AddedEntries.{levels_added}
use Rattle.segment_grid.proofs.build.add_edge.Goals as goal

pub returns-in-Some : goal.returns-in-Some
returns-in-Some c =
    let found = c.in_ok-at.ensures in
    let levels = c.level_for.new.levels in
    on_ok_weaker c.put.result
    (levels_added c.args.levels.now.items levels.items c.in_ok-at.at c.index_mut.result.now c.put.new.self (c.args.number, c.args.b)
    found.extended (omega (arith, found.there, levels.ok.0)) c.index_mut.ensures.value)
    c.put.ensures

pub returns : goal.returns
returns c =
    let found = c.in_ok-at.ensures in
    let before = c.level_for.new.levels in
    let levels = c.push.new.self in
    let pushed = c.in_ok-push.ensures in
    let extended : IsExtended IsBareLevel c.args.levels.now.items levels.items =
    subst (IsExtended IsBareLevel c.args.levels.now.items) (sym pushed.items)
    (extended_push IsBareLevel c.args.levels.now.items before.items c.around.result found.extended c.around.ensures.bare) in
    on_ok_weaker c.put-2.result
    (levels_added c.args.levels.now.items levels.items c.len-last.result c.index_mut-2.result.now c.put-2.new.self (c.args.number, c.args.b)
    extended (omega (arith, pushed.len, c.len-last.ensures, levels.ok.0)) c.index_mut-2.ensures.value)
    c.put-2.ensures
