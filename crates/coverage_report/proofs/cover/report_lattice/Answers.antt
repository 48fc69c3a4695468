-- Answers the goals of `report_lattice`.
use Rattle.std.specs.Prelude.{List, MatchOption, Option, None, Some}
use Rattle.std.proofs.Common.{ℕ}
use Rattle.plane_exact.specs.Plane.{GridPoint}
use Rattle.evenodd_region.specs.Bounds.{IsBoxOf, points_of}
use Rattle.coverage_report.specs.Lattices.{IsBoxPoint, IsLatticeIn, IsLatticeOf, PointLattice}
use Rattle.coverage_report.specs.Points.{IsReportPoint}
use Rattle.coverage_report.proofs.Lattices.{lattice_of_report, none_of_box}
use Rattle.coverage_report.proofs.cover.report_lattice.Goals as goal

-- by the lattice of the least box
module _ (loops : List (List GridPoint)) (pitch : ℕ) (low high : GridPoint) (box : IsBoxOf (points_of loops) low high) where
  of_box : (found : Option PointLattice) → MatchOption found ((p : GridPoint) → ¬ IsBoxPoint low high pitch p) (λ lattice. IsLatticeIn low high pitch lattice)
      → MatchOption found ((p : GridPoint) → ¬ IsReportPoint loops pitch p) (λ lattice. IsLatticeOf loops pitch lattice)
  of_box None none = none_of_box loops pitch low high box none
  of_box (Some lattice) is = lattice_of_report loops pitch low high lattice box is

pub returns : goal.returns
returns c =
    let bounds = c.in_ok-bounds.field-0 in
    of_box c.args.scene.now c.args.pitch bounds.low bounds.high c.in_ok-bounds.ensures c.lattice_of.result c.lattice_of.ensures
