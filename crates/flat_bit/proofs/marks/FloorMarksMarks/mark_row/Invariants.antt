-- What the loop of `mark_row` keeps.
use Rattle.std.proofs.Common.{◌≡◌, ◌+◌, ◌/◌, length}
use Rattle.flat_bit.proofs.MarkedRows.{AreSoFar}
use Rattle.flat_bit.proofs.marks.FloorMarksMarks.mark_row.Given as goal

abbrev pub invariant-loop-i : goal.invariant-loop-i
invariant-loop-i l = record {
  words : length l.bits ≡ (l.count + 63) / 64;
  bits : AreSoFar l.self.scene.now l.self.bit.now l.self.limit l.y l.x0 l.pitch l.count l.i l.bits;
}
