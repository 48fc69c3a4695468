-- The invariant and the measure of the loop of `without_blanks_behind`.
use Rattle.std.proofs.Common.{◌≡◌, ◌≤◌, length}
use Rattle.text_lines.specs.Blanks.{without_back}
use Rattle.text_lines.proofs.blanks.without_blanks_behind.Given as goal

abbrev pub invariant-loop-last : goal.invariant-loop-last
invariant-loop-last l = record {
  same : without_back l.text ≡ without_back l.fn.text;
  within : length l.text ≤ length l.fn.text;
}

abbrev pub decreases-loop-last : goal.decreases-loop-last
decreases-loop-last l = length l.text
