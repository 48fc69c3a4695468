-- Answers the goals of `Layout::way_down`.
use Rattle.std.proofs.Common.{arith, mul-le-mul}
use Rattle.cxf_font.proofs.layout.Layout.way_down.Goals as goal

pub returns-clause-range : goal.returns-clause-range
returns-clause-range c = rw c.from.ensures (omega (arith, mul-le-mul c.requires.line c.line_step.ensures.range))
