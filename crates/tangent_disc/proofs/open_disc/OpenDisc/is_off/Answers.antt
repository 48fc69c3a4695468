-- Answers the goals of `OpenDisc::is_off`.
use Rattle.std.proofs.Common.{arith}
use Rattle.std.proofs.lemmas.Int.{ints}
use Rattle.tangent_disc.specs.OpenDisc.{centre_of}
use Rattle.tangent_disc.proofs.Distances.{start_answers, finish_answers, line_answers}
use Rattle.tangent_disc.proofs.open_disc.OpenDisc.is_off.Goals as goal

pub returns-then-dot-le0 : goal.returns-then-dot-le0
returns-then-dot-le0 c =
    let start = c.way_from-start.ensures in
    let along = c.offset_from-along.ensures in
    let value = c.dot.ensures.value in
    let test = c.if-dot-le0.true in
    start_answers (centre_of c.args.self.now) c.args.self.now.reach c.args.edge.now c.way_from-start.result.x c.way_from-start.result.y c.offset_from-along.result.x c.offset_from-along.result.y
    along.across along.up _ start.across start.up (omega (arith, ints)) c.is_far.ensures

pub returns-then-dot-ge0 : goal.returns-then-dot-ge0
returns-then-dot-ge0 c =
    let end = c.way_from-end.ensures in
    let along = c.offset_from-along.ensures in
    let value = c.dot-else-dot-le0.ensures.value in
    let test = c.if-dot-ge0.true in
    finish_answers (centre_of c.args.self.now) c.args.self.now.reach c.args.edge.now c.way_from-end.result.x c.way_from-end.result.y c.offset_from-along.result.x c.offset_from-along.result.y
    along.across along.up _ end.across end.up (omega (arith, ints)) c.is_far-then-dot-ge0.ensures

pub returns-else-dot-ge0 : goal.returns-else-dot-ge0
returns-else-dot-ge0 c =
    let start = c.way_from-start.ensures in
    let end = c.way_from-end.ensures in
    let along = c.offset_from-along.ensures in
    let start_value = c.dot.ensures.value in
    let value = c.dot-else-dot-le0.ensures.value in
    let facing_start = c.if-dot-le0.false in
    let facing_end = c.if-dot-ge0.false in
    line_answers (centre_of c.args.self.now) c.args.self.now.reach c.args.edge.now c.way_from-start.result.x c.way_from-start.result.y c.offset_from-along.result.x c.offset_from-along.result.y
    along.across along.up _ c.way_from-end.result.x c.way_from-end.result.y start.across start.up end.across end.up (omega (arith, ints)) (omega (arith, ints)) c.is_line_far.ensures
