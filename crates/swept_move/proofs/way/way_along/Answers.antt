-- Answers the goals of `way_along`.
use Rattle.std.proofs.Common.{lit<}
use Rattle.swept_move.proofs.Widths.{range}
use Rattle.swept_move.proofs.Ways.{along}
use Rattle.swept_move.proofs.way.way_along.Goals as goal

pub invariant_of-result : goal.invariant_of-result
invariant_of-result c = record {
  most = lit< tt;
  across = range (along c.x.ensures.range.across c.x.ensures.value c.x-2.ensures.range.across c.x-2.ensures.value);
  up = range (along c.y.ensures.range.up c.y.ensures.value c.y-2.ensures.range.up c.y-2.ensures.value);
}

pub returns-clause-across : goal.returns-clause-across
returns-clause-across c = (along c.x.ensures.range.across c.x.ensures.value c.x-2.ensures.range.across c.x-2.ensures.value).value

pub returns-clause-up : goal.returns-clause-up
returns-clause-up c = (along c.y.ensures.range.up c.y.ensures.value c.y-2.ensures.range.up c.y-2.ensures.value).value
