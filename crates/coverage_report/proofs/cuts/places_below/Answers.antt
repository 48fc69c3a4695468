-- Answers the goals of `places_below`.
use Rattle.std.proofs.Common.{◌-ℤ◌, arith}
use Rattle.std.proofs.lemmas.Int.{ints}
use Rattle.plane_exact.proofs.Stored.{wide}
use Rattle.coverage_report.proofs.CutPlaces.{below_read, none_below}
use Rattle.coverage_report.proofs.cuts.places_below.Goals as goal

pub returns-then-way-le0 : goal.returns-then-way-le0
returns-then-way-le0 c = none_below c.args.first c.args.bound c.args.pitch c.args.count (omega (arith, ints))

pub returns : goal.returns
returns c =
    below_read c.args.first c.args.bound (wide (wide c.args.bound -ℤ wide c.from.result)) c.args.pitch c.args.count _ _ _ c.min.result c.requires.apart c.min.ensures c.from-2.ensures c.from-3.ensures c.from-4.ensures
    (omega (arith, ints)) (omega (arith, ints))
