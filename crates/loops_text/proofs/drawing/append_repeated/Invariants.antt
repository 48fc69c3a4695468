-- The invariants of the loop of `append_repeated`.
use Rattle.std.proofs.Common.{◌≡◌, ◌+◌, ◌++◌, replicate, vec_capacity, vec_len}
use Rattle.loops_text.proofs.drawing.append_repeated.Given as goal

abbrev pub invariant-loop : goal.invariant-loop
invariant-loop l =
    (l.numbers.items ≡ l.fn.numbers.items ++ replicate l.counter l.number) × (vec_len l.numbers ≡ vec_len l.fn.numbers + l.counter) × (vec_capacity l.numbers ≡ vec_capacity l.fn.numbers)
