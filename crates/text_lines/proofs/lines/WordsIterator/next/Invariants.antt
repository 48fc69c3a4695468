-- The invariants of the loop of `WordsIterator::next`.
use Rattle.std.proofs.Common.{◌≡◌, length, filter}
use Rattle.text_lines.specs.Cutting.{is_word}
use Rattle.text_lines.proofs.lines.WordsIterator.next.Given as goal

abbrev pub invariant-loop-piece : goal.invariant-loop-piece
invariant-loop-piece l = filter is_word l.self-inside.pieces ≡ l.fn.self

abbrev pub decreases-loop-piece : goal.decreases-loop-piece
decreases-loop-piece l = length l.self-inside.pieces
