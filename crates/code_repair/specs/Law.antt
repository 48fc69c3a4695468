-- What a repair is worth.
use Rattle.std.specs.Prelude.{◌≡◌, ◌⊎◌, ◌↔◌, ◌≤◌, ℕ, List, [], ◌∷◌, ◌++◌, All, Contains}
use Rattle.plane_exact.specs.Cone.{Cone}
use Rattle.plane_exact.specs.Heights.{GridPlace}
use Rattle.plane_exact.specs.Plane.{GridPoint, RationalPoint}
use Rattle.plane_exact.specs.declared.moves.LineMove.{LineMove}
use Rattle.plane_exact.specs.declared.moves.Move.{Move}
use Rattle.plane_exact.specs.declared.point.Seg.{Seg}
use Rattle.engrave_model.specs.Drawing.{edges_of}
use Rattle.engrave_model.specs.Removal.{Removes}
use Rattle.gcode_text.specs.Following.{AreFollowing}
use Rattle.gcode_text.specs.Visits.{visit_moves}
use Rattle.swept_move.specs.Clear.{IsClear}
use Rattle.code_repair.specs.Repair.{IsRepair}

-- some moment of some of the moves removes w
pub record RemovesByAny (cone : Cone) (moves : List LineMove) (w : RationalPoint) : Type 0 where
  pub move : LineMove
  pub there : Contains moves move
  pub removes : Removes cone move.mv w

-- the move is one of these, and behind it this holds of the others
pub record ComesNext (mv : Move) (path : List LineMove) (Then : List LineMove → Type 0) : Type 0 where
  pub before : List LineMove
  pub line : ℕ
  pub after : List LineMove
  pub parts : path ≡ before ++ record { line = line; mv = mv } ∷ after
  pub later : Then after

-- the clear ones of the moves are moves of the path, in their order
abbrev pub KeepsClear : List Seg → Cone → (moves path : List LineMove) → Type 0
KeepsClear edges cone [] path = Unit {0}
KeepsClear edges cone (move ∷ moves) path =
    (IsClear edges cone move.mv × ComesNext move.mv path (KeepsClear edges cone moves)) ⊎ ((¬ IsClear edges cone move.mv) × KeepsClear edges cone moves path)

-- every move of the path is clear; it removes no point that the moves don't remove; the clear ones of these stay; and none is changed
-- exactly where all are clear
pub record IsRepaired (edges : List Seg) (cone : Cone) (moves path : List LineMove) (changed : ℕ) : Type 0 where
  pub clear : All (λ move. IsClear edges cone move.mv) path
  pub no_more : (w : RationalPoint) → RemovesByAny cone path w → RemovesByAny cone moves w
  pub keeps : KeepsClear edges cone moves path
  pub unchanged : (changed ≡ 0) ↔ All (λ move. IsClear edges cone move.mv) moves

-- for all closed loops, moves that follow each other and any safe height, for a bit of some width
abbrev pub RepairLaw : Type 0
RepairLaw =
    (loops : List (List GridPoint)) (cone : Cone) (safe : ℕ) (moves : List LineMove) (visits : List GridPlace) (changed : ℕ)
    → 1 ≤ cone.sn → 1 ≤ safe → AreFollowing moves → IsRepair (edges_of loops) cone safe moves visits changed
    → IsRepaired (edges_of loops) cone moves (visit_moves safe visits) changed
