-- Answers the goals of `write_size`.
use Rattle.std.proofs.Common.{◌/◌, ◌<◌, ◌≤◌, ◌^◌, arith, length, lit<}
use Rattle.std.specs.Prelude.{decimal}
use Rattle.std.proofs.Math.Nat.{div-le_self}
use Rattle.std.proofs.lemmas.Fmt.{length-decimal-le}
use Rattle.grid_num.proofs.writer.write_size.Goals as goal

pub write_digits-requires : goal.write_digits-requires
write_digits-requires c =
    let quotient : c.args.size / c.from.result < 2 ^ 64 = omega (arith, div-le_self c.args.size c.from.result) in
    let short : length (decimal (c.args.size / c.from.result)) ≤ 20 = length-decimal-le 20 _ (lit< tt) (omega arith) quotient in
    (omega (arith, short, c.write_fraction-point.ensures.place.0), omega (arith, c.write_fraction-point.ensures.place.1))

pub returns-clause-place : goal.returns-clause-place
returns-clause-place c =
    let quotient : c.args.size / c.from.result < 2 ^ 64 = omega (arith, div-le_self c.args.size c.from.result) in
    let short : length (decimal (c.args.size / c.from.result)) ≤ 20 = length-decimal-le 20 _ (lit< tt) (omega arith) quotient in
    (omega (arith, short, c.write_digits.ensures.start, c.write_fraction-point.ensures.place.0), omega (arith, c.write_digits.ensures.start, c.write_fraction-point.ensures.place.1))
