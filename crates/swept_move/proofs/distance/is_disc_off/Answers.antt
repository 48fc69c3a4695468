-- Answers the goals of `is_disc_off`.
use mir.Syntax.{w64}
use Rattle.std.proofs.Common.{◌-ℤ◌, arith, lit<}
use Rattle.std.proofs.lemmas.Int.{ints}
use Rattle.swept_move.specs.Clear.{tenfold_edge}
use Rattle.swept_move.proofs.Distances.{clear_by_a, clear_by_b, clear_by_line, line_is, long_is}
use Rattle.swept_move.proofs.Ways.{dot_answer}
use Rattle.swept_move.proofs.Widths.{answer}
use Rattle.swept_move.proofs.distance.is_disc_off.Goals as goal

pub returns-then-dot-le0 : goal.returns-then-dot-le0
returns-then-dot-le0 c =
    let a = c.way_from-from_a.ensures in
    let along = c.way_along-along.ensures in
    let reach = answer w64 c.reach_at-reach.ensures.range c.reach_at-reach.ensures.value (lit< tt) in
    let away = dot_answer c.dot.ensures.range c.dot.ensures.value a.across a.up along.across along.up in
    clear_by_a _ _ _ _ (omega (arith, ints)) (long_is _ _ _ _ _ c.is_long.ensures reach c.sd.ensures.value a.across a.up)

pub returns-then-dot-ge0 : goal.returns-then-dot-ge0
returns-then-dot-ge0 c =
    let b = c.way_from-from_b.ensures in
    let along = c.way_along-along.ensures in
    let reach = answer w64 c.reach_at-reach.ensures.range c.reach_at-reach.ensures.value (lit< tt) in
    let near = dot_answer c.dot-else-dot-le0.ensures.range c.dot-else-dot-le0.ensures.value b.across b.up along.across along.up in
    clear_by_b _ _ _ _ (omega (arith, ints)) (long_is _ _ _ _ _ c.is_long-then-dot-ge0.ensures reach c.sd-then-dot-ge0.ensures.value b.across b.up)

pub returns-else-dot-ge0 : goal.returns-else-dot-ge0
returns-else-dot-ge0 c =
    let p = c.args.spot.at in
    let e = tenfold_edge c.args.edge.now in
    let a = c.way_from-from_a.ensures in
    let b = c.way_from-from_b.ensures in
    let along = c.way_along-along.ensures in
    let reach = answer w64 c.reach_at-reach.ensures.range c.reach_at-reach.ensures.value (lit< tt) in
    let before = dot_answer c.dot.ensures.range c.dot.ensures.value a.across a.up along.across along.up in
    let after = dot_answer c.dot-else-dot-le0.ensures.range c.dot-else-dot-le0.ensures.value b.across b.up along.across along.up in
    clear_by_line _ p _ e (omega (arith, ints)) (omega (arith, ints))
    (line_is _ _ _ (p.x -ℤ e.a.x) (p.y -ℤ e.a.y) e.a.x e.a.y e.b.x e.b.y c.is_line_off.ensures reach c.sd-else-dot-ge0.ensures.value a.across a.up along.across along.up)
