-- The invariants of the loop of `with_options`.
use Rattle.std.proofs.Common.{◌≡◌, ◌++◌, List, map, take}
use Rattle.clap.specs.Simple.{app_of}
use Rattle.job_words.specs.Options.{OptionRow, options_app, row_of}
use Rattle.job_words.proofs.options.with_options.Given as goal

abbrev pub invariant-loop-option : goal.invariant-loop-option
invariant-loop-option l = (before : List OptionRow) → app_of l.initial.longer ≡ options_app before
    → app_of l.longer ≡ options_app (before ++ map row_of (take l.option-index l.options))
