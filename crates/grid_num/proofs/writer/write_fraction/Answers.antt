-- Answers the goals of `write_fraction`.
use Rattle.std.proofs.Common.{◌+◌, ◌%◌, ◌++◌, ◌<◌, arith, length, sym, ap, ◌∙◌}
use Rattle.std.specs.Prelude.{decimal}
use Rattle.std.proofs.lemmas.List.{append-nil, at_drop_all}
use Rattle.grid_num.specs.Written.{zeros_of}
use Rattle.grid_num.proofs.Texts.{IsBehindOne-from_scale, point_set, zeros_of-le, zeros_of-pos}
use Rattle.grid_num.proofs.writer.write_fraction.Goals as goal

pub write_digits-point-requires : goal.write_digits-point-requires
write_digits-point-requires c =
    let rest = IsBehindOne-from_scale (zeros_of c.args.per_unit) c.from-scale.result c.args.size (c.from-scale.ensures ∙ sym c.requires.scale) (omega arith) in
    (omega (arith, rest.count, zeros_of-le c.args.per_unit, c.requires.room), omega arith)

pub bounds-text-point : goal.bounds-text-point
bounds-text-point c =
    let rest = IsBehindOne-from_scale (zeros_of c.args.per_unit) c.from-scale.result c.args.size (c.from-scale.ensures ∙ sym c.requires.scale) (omega arith) in
    omega (arith, rest.count, c.write_digits-point.ensures.start)

pub returns-clause-place : goal.returns-clause-place
returns-clause-place c =
    let rest = IsBehindOne-from_scale (zeros_of c.args.per_unit) c.from-scale.result c.args.size (c.from-scale.ensures ∙ sym c.requires.scale) (omega arith) in
    (omega (arith, rest.count, zeros_of-le c.args.per_unit, c.write_digits-point.ensures.start, c.requires.room), omega (arith, c.write_digits-point.ensures.start, c.requires.room))

pub returns-clause-text : goal.returns-clause-text
returns-clause-text c =
    let places = zeros_of c.args.per_unit in
    let rest = IsBehindOne-from_scale places c.from-scale.result c.args.size (c.from-scale.ensures ∙ sym c.requires.scale) (omega arith) in
    let inside : c.write_digits-point.result < length c.write_digits-point.new.buf = omega (arith, rest.count, c.write_digits-point.ensures.start) in
    let text = decimal (c.from-scale.result + c.args.size % c.from-scale.result) in
    let written = c.write_digits-point.ensures.written ∙ at_drop_all (λ behind. text ++ behind) c.args.text.now (length c.args.text.now) (omega arith) ∙ append-nil text ∙ ap decimal rest.same in
    point_set places c.args.size c.write_digits-point.result c.write_digits-point.new.buf (zeros_of-pos places c.args.per_unit c.requires.scale c.if-per_unit-eq1.false) rest.fits inside written
