-- Answers the goals of `DeepMove::is_crossing`.
use Rattle.std.proofs.Common.{refl}
use Rattle.swept_move.specs.Clear.{tenfold}
use Rattle.swept_move.proofs.Deepest.{cross_answer, edge_there, sides_there}
use Rattle.swept_move.proofs.deep_move.DeepMove.is_crossing.Goals as goal

pub returns-then-are_opposite : goal.returns-then-are_opposite
returns-then-are_opposite c =
    let mv = c.args.self.now in
    let a = c.way_from-from_a.ensures in
    let b = c.way_from-from_b.ensures in
    let along = c.way_along.ensures in
    let path = sides_there mv.moments along.across along.up a.across a.up mv.across mv.up c.crosses_line.ensures in
    let edge = edge_there mv.from.at mv.to.at (tenfold c.args.edge.now.a) (tenfold c.args.edge.now.b)
    (cross_answer c.cross.ensures.range c.cross.ensures.value mv.across mv.up a.across a.up) (cross_answer c.cross-2.ensures.range c.cross-2.ensures.value mv.across mv.up b.across b.up)
    c.if-are_opposite.ensures in (
      (λ t. record { path = path.0 t; edge = edge.0 refl }),
      (λ crossing. path.1 crossing.path),
    )

pub returns-else-are_opposite : goal.returns-else-are_opposite
returns-else-are_opposite c =
    let mv = c.args.self.now in
    let a = c.way_from-from_a.ensures in
    let b = c.way_from-from_b.ensures in
    let edge = edge_there mv.from.at mv.to.at (tenfold c.args.edge.now.a) (tenfold c.args.edge.now.b)
    (cross_answer c.cross.ensures.range c.cross.ensures.value mv.across mv.up a.across a.up) (cross_answer c.cross-2.ensures.range c.cross-2.ensures.value mv.across mv.up b.across b.up)
    c.are_opposite.ensures in (
      (λ t. absurd (let no = c.if-are_opposite.false in cc)),
      (λ crossing. edge.1 crossing.edge),
    )
