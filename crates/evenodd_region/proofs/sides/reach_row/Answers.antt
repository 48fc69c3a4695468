-- Answers the goals of `reach_row`.
use mir.Syntax.{w32}
use borrow.Author.Differences.{true_is_le}
use Rattle.std.proofs.Common.{arith, sym, ap₂, ◌∙◌}
use Rattle.std.specs.Int.{int_max}
use Rattle.std.proofs.lemmas.Int.{ints, clamps}
use Rattle.plane_exact.proofs.Stored.{narrow, read_is}
use Rattle.evenodd_region.specs.Ratios.{rational_of}
use Rattle.evenodd_region.proofs.InBand.{on_reaches}
use Rattle.evenodd_region.proofs.sides.reach_row.Goals as goal

pub returns-then-min-p : goal.returns-then-min-p
returns-then-min-p c on =
    let high = (on_reaches c.args.p.row (rational_of c.args.p.at) c.args.p.of c.args.a c.args.b on).1 in
    let at_a = read_is w32 _ _ (record { sfits = c.y-then-min-p.type_inv }) c.y-then-min-p.ensures.value in
    let at_b = read_is w32 _ _ (record { sfits = c.y-then-min-p-2.type_inv }) c.y-then-min-p-2.ensures.value in
    let most = read_is w32 _ _ (record { sfits = c.max.type_inv }) (c.max.ensures.value ∙ ap₂ int_max at_a at_b) in
    sym (true_is_le (narrow c.args.p.row) (narrow c.max.result) (omega (arith, ints)))

pub returns-else-min-p : goal.returns-else-min-p
returns-else-min-p c on =
    let low = (on_reaches c.args.p.row (rational_of c.args.p.at) c.args.p.of c.args.a c.args.b on).0 in
    let at_a = c.y.ensures.value in
    let at_b = c.y-2.ensures.value in
    let least = c.min.ensures.value in
    sym (true_is_le (narrow c.min.result) (narrow c.args.p.row) (omega (arith, ints, clamps)))
