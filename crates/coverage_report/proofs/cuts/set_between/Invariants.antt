-- What the loop of `set_between` keeps.
use Rattle.std.proofs.Common.{◌+◌, ◌*◌, ◌&&◌, nat_lt}
use Rattle.evenodd_region.specs.RowBits.{is_between}
use Rattle.coverage_report.specs.Cuts.{IsFilled}
use Rattle.coverage_report.proofs.cuts.set_between.Given as goal

abbrev pub invariant-loop-word : goal.invariant-loop-word
invariant-loop-word l = IsFilled (λ j. is_between (64 * l.start + l.from) (64 * l.start + l.end) j && nat_lt j (64 * (l.start + l.word))) l.initial.words l.words
