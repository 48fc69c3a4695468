-- The invariants of the loop of `short_power_of_ten`.
use Rattle.std.proofs.Common.{◌≡◌, ◌^◌}
use Rattle.grid_num.proofs.numeral.short_power_of_ten.Given as goal

abbrev pub invariant-loop : goal.invariant-loop
invariant-loop l = l.power ≡ 10 ^ l.counter
