-- Answers the goals of `count_set`.
use Rattle.std.proofs.Common.{◌≡◌, ap, arith, ◌∙◌}
use Rattle.coverage_report.specs.Rows.{PointRow}
use Rattle.coverage_report.proofs.SetCounts.{set_points_counted}
use Rattle.coverage_report.proofs.bits.count_set.Goals as goal

pub count_ones-requires : goal.count_ones-requires
count_ones-requires c = let count : c.row.inside.count ≡ c.args.row.now.count = ap (λ (row : PointRow). row.count) c.row.view_is in omega (arith, c.requires.words)

pub returns : goal.returns
returns c = c.count_ones.ensures ∙ set_points_counted c.args.bits.now c.args.row.now (λ j. omega (arith, c.type_inv.bits j)) (omega (arith, c.requires.words)) c.requires.behind
