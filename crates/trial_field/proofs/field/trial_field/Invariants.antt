-- The invariant of the loop of `trial_field`.
use Rattle.std.proofs.Common.{◌≡◌}
use Rattle.trial_field.specs.Field.{trial_loops}
use Rattle.trial_field.proofs.field.trial_field.Given as goal

abbrev pub invariant-loop-cell : goal.invariant-loop-cell
invariant-loop-cell l = l.field ≡ trial_loops l.cell
