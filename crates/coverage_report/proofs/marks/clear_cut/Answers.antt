-- Answers the goals of `clear_cut`.
use Rattle.std.proofs.Common.{arith}
use Rattle.coverage_report.proofs.CutBits.{cleared_cut}
use Rattle.coverage_report.proofs.marks.clear_cut.Goals as goal

pub returns : goal.returns
returns c = cleared_cut c.args.cut.now c.args.bits.now c.requires (λ k. omega (arith, c.type_inv.cut k)) _ c.and_not.ensures
