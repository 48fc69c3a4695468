-- Answers the goals of `Clearance::starts_clear`.
use mir.Syntax.{w64}
use Rattle.std.proofs.Common.{arith}
use Rattle.std.proofs.lemmas.Int.{ints}
use Rattle.swept_move.proofs.Clearances.{start_test}
use Rattle.swept_move.proofs.Widths.{held}
use Rattle.swept_move.proofs.clearance.Clearance.starts_clear.Goals as goal

pub returns-then-part-eq0 : goal.returns-then-part-eq0
returns-then-part-eq0 c =
    let q = c.args.self in
    let part = c.args.part in
    let c_low = q.c_range.low in
    let c_high = q.c_range.high in
    start_test q.a q.half q.c part.over (omega (arith, ints)) part.first (held w64 q.c) (omega (arith, ints)) (omega (arith, ints))
