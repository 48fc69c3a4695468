-- The report on the floor, by what the conical bit removes at the depth of the radius; and which points are over the floor.
use Rattle.std.specs.Prelude.{MatchResult, Result, Ok, Err}
use Rattle.std.proofs.Common.{◌≡◌, ℕ, ◌*◌, ◌≤◌, List, pos, inl, inr, arith, subst}
use Rattle.std.proofs.lemmas.Int.{ints}
use Rattle.plane_exact.specs.Cone.{Cone}
use Rattle.plane_exact.specs.Distance.{IsCloser}
use Rattle.plane_exact.specs.Nodes.{GridNode}
use Rattle.plane_exact.specs.Plane.{GridPoint, rational}
use Rattle.plane_exact.specs.Uncut.{UncutPoints}
use Rattle.plane_exact.specs.declared.moves.LineMove.{LineMove}
use Rattle.engrave_model.specs.Depth.{IsDiscClear}
use Rattle.engrave_model.specs.Drawing.{edges_of}
use Rattle.engrave_model.specs.Inside.{IsInside}
use Rattle.gcode_text.specs.Path.{chain_moves}
use Rattle.gcode_text.specs.declared.job.Job.{Job}
use Rattle.depth_rule.specs.Deepest.{deepest_of}
use Rattle.depth_rule.proofs.DeepestDepths.{deepest_fits}
use Rattle.coverage_report.specs.Cuts.{IsCut}
use Rattle.coverage_report.specs.Points.{IsReportPoint}
use Rattle.coverage_report.specs.Report.{IsCoverFault, IsReportOf}
use Rattle.coverage_report.specs.declared.fault.CoverFault.{CoverFault}
use Rattle.coverage_report.proofs.Reports.{same_report}
use Rattle.flat_bit.specs.Apart.{IsApart}
use Rattle.flat_bit.specs.Discs.{disc_moves, right_cone}
use Rattle.flat_bit.specs.Left.{AreLevel, IsFloorPoint, IsFloorReport, IsSwept}
use Rattle.flat_bit.proofs.SweptChains.{removed_is_swept}

module _ (loops : List (List GridPoint)) (cone : Cone) (limit : ℕ) where
  -- ---- a point inside is over the floor where every edge is as far as the bit's radius at the deepest depth

  module _ (slope : 1 ≤ cone.sn) (p : GridPoint) (inside : IsInside (edges_of loops) (rational p)) where
    abbrev pub IsClearDeep : Type 0
    IsClearDeep = IsApart (edges_of loops) (cone.sn * deepest_of cone limit) cone.sd (rational p)

    disc_clear : IsClearDeep → IsDiscClear (edges_of loops) cone p (deepest_of cone limit)
    unfolding IsDiscClear
    disc_clear apart w on is =
        let once : cone.sd * 1 ≡ cone.sd = omega arith in
        apart w on (subst (λ sd. IsCloser (pos (cone.sn * deepest_of cone limit)) (pos sd) (rational p) w) once is.close)

    pub floor_of_apart : 1 ≤ deepest_of cone limit → IsClearDeep → IsFloorPoint loops cone limit p
    floor_of_apart deep apart = record {
      deep = deep;
      greatest = deepest_fits cone limit slope (edges_of loops) p (deepest_of cone limit) inside
          (record { has = disc_clear apart; within = omega arith; greatest = λ y within clear. within });
    }

    disc_apart : 1 ≤ deepest_of cone limit → IsDiscClear (edges_of loops) cone p (deepest_of cone limit) → IsClearDeep
    unfolding IsDiscClear
    disc_apart deep clear w on close =
        let once : cone.sd ≡ cone.sd * 1 = omega arith in
        clear w on (record { deep = omega (arith, ints); close = subst (λ sd. IsCloser (pos (cone.sn * deepest_of cone limit)) (pos sd) (rational p) w) once close })

    pub apart_of_floor : IsFloorPoint loops cone limit p → IsClearDeep
    apart_of_floor floor =
        let deep = floor.deep in
        elim floor.greatest.fits [ inl none ↦ absurd (omega arith) | inr fits ↦ disc_apart deep fits.clear ]

  -- ---- the report

  module _ (radius pitch : ℕ) (chains : List (List GridNode)) (some : 1 ≤ radius) (level : AreLevel (deepest_of cone limit) chains) where
    floor_report : (uncut : UncutPoints) → IsReportOf (IsReportPoint loops pitch) (IsFloorPoint loops cone limit) right_cone (disc_moves radius chains) pitch uncut
        → (job : Job) → IsFloorReport loops cone limit radius (chain_moves job chains) pitch uncut
    floor_report uncut report job =
        same_report (IsReportPoint loops pitch) (IsFloorPoint loops cone limit) (IsCut right_cone (disc_moves radius chains))
        (IsSwept radius (deepest_of cone limit) (chain_moves job chains)) pitch uncut
        (λ p reported marked. removed_is_swept radius (deepest_of cone limit) some marked.deep (rational p) job chains level) report

    pub floor_reported : (bit : Cone) (moves : List LineMove) → bit ≡ right_cone → moves ≡ disc_moves radius chains → (r : Result UncutPoints CoverFault)
        → MatchResult r (λ uncut. IsReportOf (IsReportPoint loops pitch) (IsFloorPoint loops cone limit) bit moves pitch uncut) (λ fault. IsCoverFault loops pitch fault)
        → MatchResult r (λ left. (job : Job) → IsFloorReport loops cone limit radius (chain_moves job chains) pitch left) (λ fault. IsCoverFault loops pitch fault)
    floor_reported bit moves is_bit are (Ok uncut) report =
        floor_report uncut
        (subst (λ moves. IsReportOf (IsReportPoint loops pitch) (IsFloorPoint loops cone limit) right_cone moves pitch uncut) are
        (subst (λ bit. IsReportOf (IsReportPoint loops pitch) (IsFloorPoint loops cone limit) bit moves pitch uncut) is_bit report))
    floor_reported bit moves is_bit are (Err fault) is = is
