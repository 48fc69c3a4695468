-- Answers the goals of `Clearance::rises`.
use Rattle.std.proofs.Common.{arith}
use Rattle.std.proofs.lemmas.Int.{ints, to_z-of_z}
use mir.Syntax.{w128}
use Rattle.swept_move.proofs.Clearances.{rise_test}
use Rattle.swept_move.proofs.clearance.Clearance.rises.Goals as goal

pub returns : goal.returns
returns c =
    let q = c.args.self in
    let part = c.args.part in
    rise_test q.a q.half q.c part.first part.over _ _ _ _ (to_z-of_z w128 c.half_slope.result (record { sfits = c.half_slope.type_inv })) c.half_slope.ensures (omega (arith, ints)) (omega (arith, ints))
