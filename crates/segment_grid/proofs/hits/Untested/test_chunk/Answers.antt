-- The flags of a chunk, and the hits of what is left.
use Rattle.std.proofs.Common.{◌≤◌, length, arith}
use Rattle.segment_grid.proofs.HitLaws.{tested_hits}
use Rattle.segment_grid.proofs.hits.Untested.test_chunk.Goals as goal

pub returns-clause-left : goal.returns-clause-left
returns-clause-left c =
    let few : c.min-count.result ≤ length c.args.self.now.numbers.now = omega (arith, c.min-count.ensures, c.len.ensures) in
    let fits : c.min-count.result ≤ length c.args.self.now.boxes.now = omega (arith, c.min-count.ensures, c.len.ensures) in
    rw (c.boxes_hit.ensures, c.split_at-2.ensures.front, c.split_at-2.ensures.back, c.split_at.ensures.front, c.split_at.ensures.back)
    (tested_hits c.args.q c.min-count.result c.args.self.now.numbers.now c.args.self.now.boxes.now _ few fits)
