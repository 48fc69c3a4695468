-- What the loop of `cut_rows` keeps.
use Rattle.plane_exact.specs.Plane.{rational}
use Rattle.engrave_model.specs.Removal.{Removes}
use Rattle.coverage_report.proofs.CutGrids.{AreAddedIn}
use Rattle.coverage_report.proofs.cuts.cut_rows.Given as goal

abbrev pub invariant-loop-k : goal.invariant-loop-k
invariant-loop-k l = AreAddedIn (λ p. Removes l.bit l.mv (rational p)) l.lattice l.width l.from l.k l.initial.words l.words
