-- The verdict on a list of moves.
use Rattle.std.specs.Prelude.{◌≡◌, ◌⊎◌, List, [], ◌∷◌}
use Rattle.plane_exact.specs.Cone.{Cone}
use Rattle.plane_exact.specs.declared.moves.LineMove.{LineMove}
use Rattle.plane_exact.specs.declared.moves.Move.{Move}
use Rattle.plane_exact.specs.declared.point.Seg.{Seg}
use Rattle.plane_exact.specs.Moves.{IsDeep, IsTooDeep}
use Rattle.swept_move.specs.Clear.{IsClear}
use Rattle.depth_rule.specs.Met.{IsFirstMet, IsOutside}
use Rattle.gouge_checker.specs.declared.verdict.Verdict.{Verdict}
use Rattle.gouge_checker.specs.declared.verdict.Verdict.TheVariants.{Clear, TooDeep, Gouge, Outside}

-- a move that isn't too deep goes below the surface and meets what it mustn't
pub record Gouges (cone : Cone) (mv : Move) (Meets : Type 0) : Type 0 where
  pub deep : IsDeep mv
  pub narrow : ¬ IsTooDeep cone mv
  pub meets : Meets

-- the move of the line isn't clear, for the verdict's reason: the first that applies, in this order
abbrev pub IsFaultOf : List Seg → Cone → LineMove → Verdict → Type 0
IsFaultOf edges cone move Clear = ⊥
IsFaultOf edges cone move (TooDeep line) = (line ≡ move.line) × IsTooDeep cone move.mv
IsFaultOf edges cone move (Gouge line edge) = (line ≡ move.line) × Gouges cone move.mv (IsFirstMet edges cone move.mv edge)
IsFaultOf edges cone move (Outside line) = (line ≡ move.line) × Gouges cone move.mv (IsOutside edges cone move.mv)

-- the verdict on one move: clear, or what is wrong with it
abbrev pub IsVerdictOfMove : List Seg → Cone → LineMove → Verdict → Type 0
IsVerdictOfMove edges cone move Clear = IsClear edges cone move.mv
IsVerdictOfMove edges cone move fault = IsFaultOf edges cone move fault

-- clear where every move is, and else what is wrong with the first that isn't
abbrev pub IsVerdict : List Seg → Cone → List LineMove → Verdict → Type 0
IsVerdict edges cone [] verdict = verdict ≡ Clear
IsVerdict edges cone (move ∷ moves) verdict =
    (IsClear edges cone move.mv × IsVerdict edges cone moves verdict) ⊎ IsFaultOf edges cone move verdict
