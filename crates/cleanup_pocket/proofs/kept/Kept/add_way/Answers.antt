-- Answers the goals of `add_way`.
use Rattle.std.proofs.lemmas.Result.{on_ok_weaker}
use Rattle.cleanup_pocket.proofs.Axes.{columns_added, rows_added, rows_and_columns_added}
use Rattle.cleanup_pocket.proofs.kept.Kept.add_way.Goals as goal

pub returns-in-X : goal.returns-in-X
returns-in-X g c =
    let floor = c.args.floor.now in
    let bounds = c.args.bounds.now in
    let new = c.add_axis.new.self in
    on_ok_weaker c.add_axis.result
    (rows_added (g.F.Floor.is_good floor) (g.F.Floor.is_way floor) (g.F.Floor.depth_of floor) c.args.over bounds.low bounds.high c.args.way c.args.self.now.chains.items new.chains.items c.args.self.now.has_more new.has_more c.in-X.is)
    c.add_axis.ensures

pub returns-in-Y : goal.returns-in-Y
returns-in-Y g c =
    let floor = c.args.floor.now in
    let bounds = c.args.bounds.now in
    let new = c.add_axis-in-Y.new.self in
    on_ok_weaker c.add_axis-in-Y.result
    (columns_added (g.F.Floor.is_good floor) (g.F.Floor.is_way floor) (g.F.Floor.depth_of floor) c.args.over bounds.low bounds.high c.args.way c.args.self.now.chains.items new.chains.items c.args.self.now.has_more new.has_more c.in-Y.is)
    c.add_axis-in-Y.ensures

pub returns-in_ok-add_axis-in-Both : goal.returns-in_ok-add_axis-in-Both
returns-in_ok-add_axis-in-Both g c =
    let floor = c.args.floor.now in
    let bounds = c.args.bounds.now in
    let rows = c.add_axis-in-Both.new.self in
    let new = c.add_axis-in-Both-2.new.self in
    on_ok_weaker c.add_axis-in-Both-2.result
    (rows_and_columns_added (g.F.Floor.is_good floor) (g.F.Floor.is_way floor) (g.F.Floor.depth_of floor) c.args.over bounds.low bounds.high c.args.way c.args.self.now.chains.items new.chains.items c.args.self.now.has_more new.has_more rows.chains.items rows.has_more c.in-Both.is
    c.in_ok-add_axis-in-Both.ensures)
    c.add_axis-in-Both-2.ensures
