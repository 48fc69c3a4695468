-- Answers the goals of `raised`.
use Rattle.std.proofs.Common.{sym, arith}
use Rattle.grid_num.proofs.Rounding.{above_by_tens, above_by_product}
use Rattle.grid_num.proofs.real.raised.Goals.{then-tens-gt-MOST_TENS-via-then-tens-gt-MOST_TENS, then-tens-gt-MOST_TENS-via-else-tens-gt-MOST_TENS+then-product-gt-MOST_SIZE}
use Rattle.grid_num.proofs.real.raised.Goals as goal

pub returns-then-tens-gt-MOST_TENS : goal.returns-then-tens-gt-MOST_TENS
returns-then-tens-gt-MOST_TENS c =
    elim c.then-tens-gt-MOST_TENS.branch [
      | then-tens-gt-MOST_TENS-via-then-tens-gt-MOST_TENS w ↦ sym (above_by_tens c.args.negative c.args.product c.args.tens (omega arith) (omega (arith, w.if-tens-gt-MOST_TENS)))
      | then-tens-gt-MOST_TENS-via-else-tens-gt-MOST_TENS+then-product-gt-MOST_SIZE w ↦ sym (above_by_product c.args.negative c.args.product c.args.tens (omega (arith, w.if-product-gt-MOST_SIZE)))
    ]
