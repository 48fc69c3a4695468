-- The invariants of the loop of `turned`.
use Rattle.std.proofs.Common.{◌≡◌, ◌-◌, pos}
use Rattle.integer_algebra.specs.Ranges.{IsUpTo}
use Rattle.arc_flatten.specs.Directions.{quarter_turned}
use Rattle.arc_flatten.proofs.quarter.turned.Given as goal

abbrev pub invariant-loop : goal.invariant-loop
invariant-loop l = record {
  same : quarter_turned (l.quarters - l.counter) l.way.0 l.way.1 ≡ quarter_turned l.quarters l.x l.y;
  across : IsUpTo (pos 1073741824) l.way.0;
  up : IsUpTo (pos 1073741824) l.way.1;
}
