-- What the loop of `take_rows` keeps.
use Rattle.std.proofs.Common.{◌≡◌, ◌+◌, ◌/◌, vec_len}
use Rattle.coverage_report.specs.Taken.{AreRowsTaken}
use Rattle.coverage_report.proofs.cover.take_rows.Given as goal

abbrev pub invariant-loop-k : goal.invariant-loop-k
invariant-loop-k g l = record {
  words : vec_len l.bits ≡ (l.lattice.columns + 63) / 64;
  taken : AreRowsTaken (g.M.Marks.is_marked l.marks) l.bit l.moves l.lattice l.k l.runs.items l.drawing l.left;
}
