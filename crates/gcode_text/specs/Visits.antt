-- The program of a path of visits: spots, in tenths of a grid unit, to which the bit goes one after the other; its lines, and
-- the moves that they make.
use Rattle.std.specs.Prelude.{◌≡◌, ℕ, ◌*◌, ◌≤◌, ◌&&◌, ◌||◌, not, List, [], ◌∷◌, ◌++◌, length, All, if◌then◌else◌, ℤ, pos, int_lt, codes, decimal, Ok}
use Rattle.grid_num.specs.Units.{per_unit_of}
use Rattle.grid_num.specs.Written.{decimal_text, zeros_of}
use Rattle.grid_num.specs.declared.units.Units.{Units}
use Rattle.plane_exact.specs.Cone.{IsFromOneTo}
use Rattle.plane_exact.specs.Heights.{GridPlace, IsSpot}
use Rattle.plane_exact.specs.Plane.{GridPoint}
use Rattle.plane_exact.specs.Same.{same_point}
use Rattle.plane_exact.specs.declared.moves.LineMove.{LineMove}
use Rattle.gcode_text.specs.Grammar.{Word}
use Rattle.gcode_text.specs.Moves.{moves_of}
use Rattle.gcode_text.specs.Path.{end_line, mode_lines, motion_word, moves_through, rapid}
use Rattle.gcode_text.specs.Written.{WrittenLine, Note, Words, code_text}
use Rattle.gcode_text.specs.declared.job.TheConstants.{MOST_FEED, MOST_SAFE_HEIGHT}
use Rattle.gcode_text.specs.declared.modal.TheConstants.{MOST_MOVES}
use Rattle.gcode_text.specs.declared.written.Motion.{Motion}
use Rattle.gcode_text.specs.declared.written.Motion.TheVariants.{Rapid, Straight}

-- the safe height, which is given in grid units, over a point in tenths
abbrev pub spot_over : (safe : ℕ) → GridPoint → GridPlace
spot_over safe at = record { at = at; h = pos (10 * safe) }

-- ---- the lines

-- a letter and a length in tenths of a grid unit, with a digit behind the point more than the units have zeros
abbrev pub tenths_word : Units → (letter : ℕ) → ℤ → Word
tenths_word units letter v = record { letter = letter; number = decimal_text (zeros_of (10 * per_unit_of units)) v }

-- over the point, at the height that there is: X (88) and Y (89)
abbrev pub over_line : Units → GridPoint → WrittenLine
over_line units p = Words (rapid ∷ tenths_word units 88 p.x ∷ tenths_word units 89 p.y ∷ [])

-- up to the safe height: Z (90)
abbrev pub rise_line : Units → (safe : ℕ) → WrittenLine
rise_line units safe = Words (rapid ∷ tenths_word units 90 (pos (10 * safe)) ∷ [])

-- at the feed to a visit below the surface, and from one below it to another point; else as fast as the machine can
abbrev pub motion_to : (before visit : GridPlace) → Motion
motion_to before visit =
    if int_lt visit.h (pos 0) || (int_lt before.h (pos 0) && not (same_point before.at visit.at)) then Straight else Rapid

-- straight to the spot: X, Y and Z
abbrev pub spot_line : Units → Motion → GridPlace → WrittenLine
spot_line units motion spot =
    Words (motion_word motion ∷ tenths_word units 88 spot.at.x ∷ tenths_word units 89 spot.at.y ∷ tenths_word units 90 spot.h ∷ [])

-- to the visit
abbrev pub visit_line : Units → (before visit : GridPlace) → WrittenLine
visit_line units before visit = spot_line units (motion_to before visit) visit

-- from visit to visit
abbrev pub visit_lines : Units → (before : GridPlace) → List GridPlace → List WrittenLine
visit_lines units before [] = []
visit_lines units before (visit ∷ visits) = visit_line units before visit ∷ visit_lines units visit visits

-- over the first visit's point at the safe height, and from there to the visits
abbrev pub visiting_lines : Units → (safe : ℕ) → List GridPlace → List WrittenLine
visiting_lines units safe [] = []
visiting_lines units safe (first ∷ rest) = over_line units first.at ∷ visit_lines units (spot_over safe first.at) (first ∷ rest)

-- the modes, and up to the safe height
abbrev pub opening_lines : Units → (safe feed : ℕ) → List WrittenLine
opening_lines units safe feed = mode_lines units feed ++ rise_line units safe ∷ []

-- repaired CHANGED of COUNT
abbrev pub repair_note : (changed count : ℕ) → List ℕ
repair_note changed count = codes "repaired " ++ (decimal changed ++ (codes " of " ++ decimal count))

-- the lines of the program but for its note
abbrev pub visits_lines : Units → (safe feed : ℕ) → List GridPlace → List WrittenLine
visits_lines units safe feed visits = opening_lines units safe feed ++ (visiting_lines units safe visits ++ end_line ∷ [])

-- the text of the program
unfoldable pub visits_text : Units → (safe feed changed count : ℕ) → List GridPlace → List ℕ
visits_text units safe feed changed count visits = code_text (Note (repair_note changed count) ∷ visits_lines units safe feed visits)

-- ---- the moves

-- From the safe height over the first visit's point, through the visits. Line 6 takes the bit there, which is no move.
abbrev pub visit_moves : (safe : ℕ) → List GridPlace → List LineMove
visit_moves safe [] = []
visit_moves safe (first ∷ rest) = moves_through 7 (spot_over safe first.at) (first ∷ rest)

-- the ranges of a visit's numbers
abbrev pub IsVisit : GridPlace → Type 0
IsVisit visit = IsSpot visit.at.x visit.at.y visit.h

-- the program of no more visits than a program may have moves is read as exactly its moves
abbrev pub VisitsReadBackLaw : Type 0
VisitsReadBackLaw =
    (units : Units) (safe feed changed count : ℕ) (visits : List GridPlace)
    → IsFromOneTo MOST_SAFE_HEIGHT safe → IsFromOneTo MOST_FEED feed → All IsVisit visits → length visits ≤ MOST_MOVES
    → moves_of units (visits_text units safe feed changed count visits) ≡ Ok (visit_moves safe visits)
