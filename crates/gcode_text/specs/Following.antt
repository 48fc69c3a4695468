-- That the moves of a program follow each other.
use Rattle.std.specs.Prelude.{◌≡◌, ℕ, ◌≤◌, List, [], ◌∷◌, length, pos, ◌≤ℤ◌, Ok}
use Rattle.grid_num.specs.declared.units.Units.{Units}
use Rattle.plane_exact.specs.Heights.{GridPlace}
use Rattle.plane_exact.specs.declared.moves.LineMove.{LineMove}
use Rattle.gcode_text.specs.Moves.{moves_of}
use Rattle.gcode_text.specs.declared.modal.TheConstants.{MOST_MOVES}

-- each move begins where the one before ended, and the first at this place
abbrev pub FollowFrom : GridPlace → List LineMove → Type 0
FollowFrom from [] = Unit {0}
FollowFrom from (first ∷ moves) = (first.mv.from ≡ from) × FollowFrom first.mv.to moves

-- each move begins where the one before ended, and the first at or above the surface
abbrev pub AreFollowing : List LineMove → Type 0
AreFollowing [] = Unit {0}
AreFollowing (first ∷ moves) = (pos 0 ≤ℤ first.mv.from.h) × FollowFrom first.mv.from (first ∷ moves)

-- the moves of every program follow each other
abbrev pub FollowLaw : Type 0
FollowLaw = (units : Units) (text : List ℕ) (moves : List LineMove) → moves_of units text ≡ Ok moves → AreFollowing moves

-- no program has more than the most moves
abbrev pub FewMovesLaw : Type 0
FewMovesLaw = (units : Units) (text : List ℕ) (moves : List LineMove) → moves_of units text ≡ Ok moves → length moves ≤ MOST_MOVES
