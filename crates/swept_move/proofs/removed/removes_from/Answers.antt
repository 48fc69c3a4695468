-- Answers the goals of `removes_from`.
use mir.Syntax.{w64}
use Rattle.std.proofs.Common.{arith, lit<}
use Rattle.std.proofs.lemmas.Int.{ints}
use Rattle.swept_move.proofs.Cuts.{removes_met}
use Rattle.swept_move.proofs.Widths.{answer, held}
use Rattle.swept_move.proofs.removed.removes_from.Goals as goal

pub returns : goal.returns
returns c =
    let way = c.way_from.ensures in
    let way' = c.way_from-2.ensures in
    let first = c.depth-first.ensures in
    let last = c.depth-last.ensures in
    let ends = c.clearance-ends.result in
    let r = c.is_met.ensures in
    let is = removes_met c.args.bit.now c.args.from c.args.to c.args.p c.way_from.result.x c.way_from.result.y (held w64 c.depth-first.result)
    c.way_from-2.result.x c.way_from-2.result.y (held w64 c.depth-last.result)
    (record {
      across = way.across;
      up = way.up;
      depth = answer w64 first.range first.value (lit< tt);
      across' = way'.across;
      up' = way'.up;
      depth' = answer w64 last.range last.value (lit< tt);
    }) ends.a ends.half ends.c (let below = c.requires in omega (arith, ints)) c.clearance-ends.ensures in (
      (λ t. is.1 (r.0 t)),
      (λ removes. r.1 (is.0 removes)),
    )
