-- The invariants of the loop of `first_quarter`.
use Rattle.std.proofs.Common.{◌≡◌, ◌-◌}
use Rattle.arc_flatten.specs.Directions.{in_quarter, towards}
use Rattle.arc_flatten.proofs.quarter.first_quarter.Given as goal

abbrev pub invariant-loop-done : goal.invariant-loop-done
invariant-loop-done l = towards (20 - l.done) l.f l.s l.t ≡ in_quarter l.f
