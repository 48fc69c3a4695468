-- Answers the goals of `DeepMove::crosses_line`.
use mir.Syntax.{w64}
use Rattle.std.proofs.Common.{arith, lit<}
use Rattle.std.proofs.lemmas.Int.{ints}
use Rattle.swept_move.proofs.Deepest.{moment_up_to, opposite_there, side_is}
use Rattle.swept_move.proofs.Widths.{plain, range, read}
use Rattle.swept_move.proofs.deep_move.DeepMove.crosses_line.Goals as goal

pub side_at-first-requires-clause-k : goal.side_at-first-requires-clause-k
side_at-first-requires-clause-k c =
    let part = c.args.self.now.part in
    range (read w64 (plain (moment_up_to part part.first (omega (arith, ints)) (omega (arith, ints)))) (lit< tt))

pub side_at-last-requires-clause-k : goal.side_at-last-requires-clause-k
side_at-last-requires-clause-k c =
    let part = c.args.self.now.part in
    range (read w64 (plain (moment_up_to part part.last (omega (arith, ints)) (omega (arith, ints)))) (lit< tt))

pub side_at-last-requires-clause-over : goal.side_at-last-requires-clause-over
side_at-last-requires-clause-over c =
    let part = c.args.self.now.part in
    range (read w64 (plain (moment_up_to part part.over (omega (arith, ints)) (omega (arith, ints)))) (lit< tt))

pub returns : goal.returns
returns c =
    let part = c.args.self.now.part in
    let d = c.args.along in
    let e = c.args.from in
    let q = c.args.self.now.path in
    let over = moment_up_to part part.over (omega (arith, ints)) (omega (arith, ints)) in
    let first = moment_up_to part part.first (omega (arith, ints)) (omega (arith, ints)) in
    let last = moment_up_to part part.last (omega (arith, ints)) (omega (arith, ints)) in
    let base = c.cross-base.ensures in
    let turn = c.cross-turn.ensures in
    opposite_there
    (side_is d.x d.y e.x e.y q.x q.y (record { sfits = c.side_at-first.type_inv }) over first base.range turn.range c.side_at-first.ensures base.value turn.value)
    (side_is d.x d.y e.x e.y q.x q.y (record { sfits = c.side_at-last.type_inv }) over last base.range turn.range c.side_at-last.ensures base.value turn.value)
    c.are_opposite.ensures
