-- What is due for `moves`: the moves of a G-code program, a line each, and their number.
use Rattle.std.specs.Prelude.{◌≡◌, ◌==◌, ◌%◌, ℕ, ℤ, pos, List, ◌++◌, if◌then◌else◌, length, flat_map, codes, decimal, int_div, unsigned_abs}
use Rattle.grid_num.specs.Written.{decimal_text}
use Rattle.grid_num.specs.declared.units.Units.{Units}
use Rattle.plane_exact.specs.Heights.{GridPlace}
use Rattle.plane_exact.specs.declared.moves.LineMove.{LineMove}
use Rattle.engrave_core.specs.Given.{IsGivenBy}
use Rattle.engrave_core.specs.Stored.{Files, stored_code}
use Rattle.engrave_core.specs.Refusals.{IsRefusalOfStoredCode}
use Rattle.engrave_core.specs.declared.outcome.Outcome.{Outcome}
use Rattle.engrave_core.specs.declared.outcome.Outcome.TheVariants.{Done}

-- so many tenths, in grid units: where that is whole, without its point and last digit
unfoldable pub number_text : ℤ → List ℕ
number_text tenths = if unsigned_abs tenths % 10 == 0 then decimal_text 0 (int_div tenths (pos 10)) else decimal_text 1 tenths

-- X,Y,H
unfoldable pub spot_text : GridPlace → List ℕ
spot_text spot = number_text spot.at.x ++ codes "," ++ number_text spot.at.y ++ codes "," ++ number_text spot.h

-- LINE X,Y,H X,Y,H
unfoldable pub move_line : LineMove → List ℕ
move_line move = decimal_text 0 (pos move.line) ++ codes " " ++ spot_text move.mv.from ++ codes " " ++ spot_text move.mv.to ++ codes "\n"

-- a line for each move, and then their number
unfoldable pub moves_text : List LineMove → List ℕ
moves_text moves = flat_map move_line moves ++ (codes "moves " ++ decimal (length moves) ++ codes "\n")

-- Done, with the list of the moves
pub record IsListed (moves : List LineMove) (outcome : Outcome) (text : List ℕ) : Type 0 where
  pub done : outcome ≡ Done
  pub lines : text ≡ moves_text moves

-- the list of the moves of the stored G-code program, or the refusal of it
abbrev pub IsDueOfMoves : Files → List ℕ → Units → Outcome → List ℕ → Type 0
IsDueOfMoves files code units outcome text = IsGivenBy IsListed (stored_code files units code) outcome text

-- the refusals of the G-code program
abbrev pub IsRefusalOfMoves : Outcome → Type 0
IsRefusalOfMoves outcome = IsRefusalOfStoredCode outcome
