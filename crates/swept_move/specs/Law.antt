-- What the tests of a move against an edge say of all its moments; and that moves which follow each other on a line, at one
-- height, may be judged as one.
use Rattle.std.specs.Prelude.{◌↔◌, ◌⊎◌, ◌≤◌, ℤ, List, ◌∷◌}
use Rattle.plane_exact.specs.Cone.{Cone}
use Rattle.plane_exact.specs.Heights.{GridPlace}
use Rattle.plane_exact.specs.Moves.{IsDeep}
use Rattle.plane_exact.specs.Plane.{GridPoint, IsBetween, rational}
use Rattle.plane_exact.specs.declared.moves.Move.{Move}
use Rattle.plane_exact.specs.declared.point.Seg.{Seg}
use Rattle.engrave_model.specs.Removal.{RemovesNone, RemovesSome}
use Rattle.swept_move.specs.Clear.{IsClear, PassesEdge}
use Rattle.swept_move.specs.Motion.{AllNeighbours, last_from}

-- a move that passes the tests against an edge removes no point of it, at any moment
abbrev pub SweptLaw : Type 0
SweptLaw = (cone : Cone) (mv : Move) (e : Seg) → PassesEdge cone mv e → RemovesNone cone mv e

-- a move that goes below the surface passes the tests against an edge, or removes a point of it
abbrev pub CutLaw : Type 0
CutLaw = (cone : Cone) (mv : Move) (e : Seg) → 1 ≤ cone.sn → IsDeep mv → RemovesSome cone mv e ⊎ PassesEdge cone mv e

-- so it passes them exactly where it removes no point of the edge
abbrev pub ExactLaw : Type 0
ExactLaw = (cone : Cone) (mv : Move) (e : Seg) → 1 ≤ cone.sn → IsDeep mv → PassesEdge cone mv e ↔ RemovesNone cone mv e

-- ---- moves at one height

-- the place at the height h over the point
abbrev pub at_height : ℤ → GridPoint → GridPlace
at_height h u = record { at = u; h = h }

-- the move at the height h from over the one point to over the other
abbrev pub level_move : ℤ → GridPoint → GridPoint → Move
level_move h p q = record { from = at_height h p; to = at_height h q }

-- of the point p and those behind it, each but the last is on the segment from the first point to the next
abbrev pub AreInLine : (first p : GridPoint) → List GridPoint → Type 0
AreInLine first p rest = AllNeighbours (λ q r. IsBetween first r (rational q)) p rest

-- of points that follow each other on a line: where at one height the move between each two neighbours is clear, the move from the
-- first to the last is clear
abbrev pub ClearRunLaw : Type 0
ClearRunLaw =
    (edges : List Seg) (cone : Cone) (h : ℤ) (first p : GridPoint) (rest : List GridPoint) → 1 ≤ cone.sn → AreInLine first p rest
    → AllNeighbours (λ q r. IsClear edges cone (level_move h q r)) first (p ∷ rest) → IsClear edges cone (level_move h first (last_from p rest))
