-- Answers the goals of `write_decimal`.
use Rattle.std.proofs.Common.{sym, ap, ◌∙◌, arith}
use Rattle.grid_num.specs.Decimal.{decimal_times}
use Rattle.grid_num.specs.Written.{decimal_text, zeros_of}
use Rattle.grid_num.proofs.Texts.{decimal_times-decimal_text, zeros_of-le}
use Rattle.grid_num.proofs.writer.write_decimal.Goals as goal

pub returns-clause-read_back : goal.returns-clause-read_back
returns-clause-read_back c = λ small.
    let places = zeros_of c.args.per_unit in
    ap (λ scale. decimal_times scale (decimal_text places c.args.value)) (sym c.requires) ∙ decimal_times-decimal_text places c.args.value (omega (arith, zeros_of-le c.args.per_unit)) small
