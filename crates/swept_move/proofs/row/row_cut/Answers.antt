-- Answers the goals of `row_cut`.
use mir.Syntax.{w32}
use Rattle.std.specs.Int.{int_max, int_min}
use Rattle.std.proofs.Common.{◌≡◌, ℤ, FitsSigned, arith, rules}
use Rattle.std.proofs.lemmas.Int.{ints, clamps, to_z-of_z}
use Rattle.swept_move.proofs.Rows.{IsClipped, clipped_match, none_between}
use Rattle.swept_move.proofs.Widths.{held}
use Rattle.swept_move.proofs.row.row_cut.Goals as goal

-- the ends of the clipped row, as the code has them
clipped : (x0 x1 low high a b : ℤ) → FitsSigned w32 x0 → FitsSigned w32 x1 → FitsSigned w32 low → FitsSigned w32 high → a ≡ int_max (held w32 x0) (held w32 low) → b ≡ int_min (held w32 x1) (held w32 high)
    → IsClipped x0 x1 low high (held w32 a) (held w32 b)
clipped x0 x1 low high a b fits_first fits_last fits_low fits_high first last =
    let e = to_z-of_z w32 x0 fits_first in
    let e' = to_z-of_z w32 x1 fits_last in
    let k = to_z-of_z w32 low fits_low in
    let k' = to_z-of_z w32 high fits_high in
    record {
      first = omega (arith, ints, clamps);
      last = omega (arith, ints, clamps);
      least = λ x from on. omega (arith, ints, clamps);
      most = λ x to on. omega (arith, ints, clamps);
    }

pub returns-then-first-last : goal.returns-then-first-last
returns-then-first-last c =
    let columns = c.columns_of-columns.result in
    let fits_low : FitsSigned w32 columns.low = search rules in
    let fits_high : FitsSigned w32 columns.high = search rules in
    let beyond = c.if-first-last.true in
    none_between c.columns_of-columns.ensures
    (clipped c.args.x0 c.args.x1 columns.low columns.high c.max-first.result c.min-last.result c.ranges.x0 c.ranges.x1 fits_low fits_high c.max-first.ensures.value c.min-last.ensures.value)
    (omega (arith, ints))

pub returns : goal.returns
returns c =
    let columns = c.columns_of-columns.result in
    let fits_low : FitsSigned w32 columns.low = search rules in
    let fits_high : FitsSigned w32 columns.high = search rules in
    clipped_match c.columns_of-columns.ensures
    (clipped c.args.x0 c.args.x1 columns.low columns.high c.max-first.result c.min-last.result c.ranges.x0 c.ranges.x1 fits_low fits_high c.max-first.ensures.value c.min-last.ensures.value)
    (to_z-of_z w32 c.args.y c.ranges.y) c.cut_between.result c.cut_between.ensures
