-- The invariants of the loop of `read_loop`.
use Rattle.std.proofs.Common.{◌≡◌, ◌-◌, ◌≤◌, [], length}
use Rattle.loops_text.specs.Grammar.{place_of_last, points_of}
use Rattle.loops_text.proofs.Reading.{last_place}
use Rattle.loops_text.proofs.reader.read_loop.Given as goal

abbrev pub invariant-loop-word : goal.invariant-loop-word
invariant-loop-word l =
    (points_of l.points.items (l.room - length l.points.items) l.word-iterator ≡ points_of [] l.room l.fn.words) × (last_place l.last l.word-iterator ≡ place_of_last l.fn.words) × (length l.points.items ≤ l.room)
