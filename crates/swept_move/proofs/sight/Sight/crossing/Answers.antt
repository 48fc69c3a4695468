-- Answers the goals of `Sight::crossing`.
use mir.Syntax.{w64}
use Rattle.std.proofs.Common.{arith, lit<, sym}
use Rattle.std.proofs.lemmas.Int.{ints, to_z-of_z}
use Rattle.integer_algebra.proofs.Floors.{floor_same}
use Rattle.swept_move.proofs.Widths.{answer}
use Rattle.swept_move.proofs.sight.Sight.crossing.Goals as goal

pub overflow_mul-upper : goal.overflow_mul-upper
overflow_mul-upper c =
    let here = c.args.self.way.up in
    let there = c.args.upper.way.up in
    record { sfits = omega (arith, ints) }

pub floor_div-requires : goal.floor_div-requires
floor_div-requires c =
    let here = c.args.self.way.up in
    let there = c.args.upper.way.up in
    let under = c.requires.under in
    let over = c.requires.over in
    omega (arith, ints)

pub returns : goal.returns
returns c =
    let here = c.args.self.way.up in
    let there = c.args.upper.way.up in
    floor_same (answer w64 c.cross.ensures.range c.cross.ensures.value (lit< tt)) (omega (arith, ints))
    (sym (to_z-of_z w64 c.floor_div.result (record { sfits = c.floor_div.type_inv }))) c.floor_div.ensures
