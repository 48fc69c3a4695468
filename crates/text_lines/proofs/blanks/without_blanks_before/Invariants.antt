-- The invariant and the measure of the loop of `without_blanks_before`.
use Rattle.std.proofs.Common.{◌≡◌, ◌≤◌, length}
use Rattle.text_lines.specs.Blanks.{without_front}
use Rattle.text_lines.proofs.blanks.without_blanks_before.Given as goal

abbrev pub invariant-loop-text : goal.invariant-loop-text
invariant-loop-text l = record {
  same : without_front l.text ≡ without_front l.fn.text;
  within : length l.text ≤ length l.fn.text;
}

abbrev pub decreases-loop-text : goal.decreases-loop-text
decreases-loop-text l = length l.text
