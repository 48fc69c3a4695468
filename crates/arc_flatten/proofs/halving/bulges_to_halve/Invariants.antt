-- The invariants of the loop of `bulges_to_halve`.
use Rattle.std.proofs.Common.{◌≡◌, ◌-◌, ◌++◌, pos, vec_len}
use Rattle.integer_algebra.specs.Ranges.{IsUpTo}
use Rattle.arc_flatten.specs.Halves.{halved_bulges}
use Rattle.arc_flatten.proofs.halving.bulges_to_halve.Given as goal

abbrev pub invariant-loop : goal.invariant-loop
invariant-loop l = record {
  same : l.bulges.items ++ halved_bulges (10 - l.counter) l.way l.half ≡ halved_bulges 10 l.way l.b;
  many : vec_len l.bulges ≡ l.counter;
  range : IsUpTo (pos 10737418240000) l.half;
}
