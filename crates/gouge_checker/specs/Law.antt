-- What a verdict is worth.
use Rattle.std.specs.Prelude.{◌≡◌, ◌≤◌, ◌↔◌, List}
use Rattle.plane_exact.specs.Cone.{Cone}
use Rattle.plane_exact.specs.Plane.{GridPoint}
use Rattle.plane_exact.specs.declared.moves.LineMove.{LineMove}
use Rattle.plane_exact.specs.declared.point.Seg.{Seg}
use Rattle.engrave_model.specs.Drawing.{edges_of}
use Rattle.engrave_model.specs.Removal.{IsSafeCode}
use Rattle.gouge_checker.specs.Harm.{IsFit, IsTrueNo}
use Rattle.gouge_checker.specs.Verdict.{IsVerdict}
use Rattle.gouge_checker.specs.declared.verdict.Verdict.{Verdict}
use Rattle.gouge_checker.specs.declared.verdict.Verdict.TheVariants.{Clear}

-- a yes is safe, a yes is said exactly of fit moves, and a no is a real cut
pub record IsTrueVerdict (edges : List Seg) (cone : Cone) (moves : List LineMove) (verdict : Verdict) : Type 0 where
  pub safe : verdict ≡ Clear → IsSafeCode edges cone moves
  pub exact : (verdict ≡ Clear) ↔ IsFit edges cone moves
  pub harm : IsTrueNo edges cone moves verdict

-- for all closed loops: every verdict is true, for a bit of some width
abbrev pub VerdictLaw : Type 0
VerdictLaw =
    (loops : List (List GridPoint)) (cone : Cone) (moves : List LineMove) (verdict : Verdict) → 1 ≤ cone.sn
    → IsVerdict (edges_of loops) cone moves verdict → IsTrueVerdict (edges_of loops) cone moves verdict
