-- The program that is written for a job and its chains: its lines, and the moves that they make.
use Rattle.std.specs.Prelude.{◌≡◌, ℕ, ◌+◌, List, [], ◌∷◌, ◌++◌, map, flat_map, All, if◌then◌else◌, ℤ, pos, neg_ℤ, codes, decimal, Ok}
use Rattle.grid_num.specs.Units.{is_inch_of, per_unit_of}
use Rattle.grid_num.specs.Written.{decimal_text, zeros_of}
use Rattle.grid_num.specs.declared.units.Units.{Units}
use Rattle.plane_exact.specs.Cone.{IsFromOneTo}
use Rattle.plane_exact.specs.Heights.{GridPlace}
use Rattle.plane_exact.specs.Nodes.{AreWithinLimits, GridNode, IsChain, last_place, node_place, place_over}
use Rattle.plane_exact.specs.Plane.{GridPoint}
use Rattle.plane_exact.specs.Uncut.{UncutPoints}
use Rattle.plane_exact.specs.declared.moves.LineMove.{LineMove}
use Rattle.plane_exact.specs.declared.moves.TheConstants.{MOST_DEPTH}
use Rattle.gcode_text.specs.Grammar.{Word}
use Rattle.gcode_text.specs.Moves.{moves_of}
use Rattle.gcode_text.specs.Report.{IsReport, report_lines}
use Rattle.gcode_text.specs.Written.{WrittenLine, Note, Words, IsNote, code_text}
use Rattle.gcode_text.specs.declared.job.Job.{Job}
use Rattle.gcode_text.specs.declared.written.Motion.{Motion}
use Rattle.gcode_text.specs.declared.written.Motion.TheVariants.{Rapid, Straight}
use Rattle.gcode_text.specs.declared.job.TheConstants.{MOST_FEED, MOST_SAFE_HEIGHT}
use Rattle.gcode_text.specs.declared.report.Subject.TheVariants.{Uncut}

-- the ranges of a job's numbers
pub record IsJob (job : Job) : Type 0 where
  pub safe : IsFromOneTo MOST_SAFE_HEIGHT job.safe
  pub feed : IsFromOneTo MOST_FEED job.feed
  pub limit : IsFromOneTo MOST_DEPTH job.limit
  pub step : IsFromOneTo MOST_DEPTH job.step

-- ---- the words

abbrev word : ℕ → List ℕ → Word
word letter number = record { letter = letter; number = number }

-- G0, as fast as the machine can
abbrev pub rapid : Word
rapid = word 71 (codes "0")

-- G1, at the feed
abbrev pub straight : Word
straight = word 71 (codes "1")

-- the word of a motion
abbrev pub motion_word : Motion → Word
motion_word Rapid = rapid
motion_word Straight = straight

-- a letter and a length in grid units, with a digit behind the point for each zero of the units
abbrev pub length_word : Units → ℕ → ℤ → Word
length_word units letter v = word letter (decimal_text (zeros_of (per_unit_of units)) v)

-- ---- the lines

-- to the height, upright: Z (90)
abbrev pub height_line : Units → (motion : Word) → ℤ → WrittenLine
height_line units motion h = Words (motion ∷ length_word units 90 h ∷ [])

-- over the point, at the height that there is: X (88) and Y (89)
abbrev pub travel_line : Units → GridPoint → WrittenLine
travel_line units p = Words (rapid ∷ length_word units 88 p.x ∷ length_word units 89 p.y ∷ [])

-- straight to the node
abbrev pub node_line : Units → GridNode → WrittenLine
node_line units node =
    Words (straight ∷ length_word units 88 node.at.x ∷ length_word units 89 node.at.y ∷ length_word units 90 (neg_ℤ (pos node.depth)) ∷ [])

-- bit SN/SD rmax R limit Z step T
unfoldable pub job_note : Job → List ℕ
job_note job =
    codes "bit " ++ (decimal job.bit.sn ++ (codes "/" ++ (decimal job.bit.sd ++ (codes " rmax " ++ (decimal job.bit.rmax
    ++ (codes " limit " ++ (decimal job.limit ++ (codes " step " ++ decimal job.step))))))))

-- the units (G20 inches, G21 millimetres), absolute places (G90), and the feed (F, 70)
abbrev pub mode_lines : Units → (feed : ℕ) → List WrittenLine
mode_lines units feed =
    Words (word 71 (if is_inch_of units then codes "20" else codes "21") ∷ [])
    ∷ Words (word 71 (codes "90") ∷ [])
    ∷ Words (word 70 (decimal feed) ∷ [])
    ∷ []

-- the modes, and up to the safe height
unfoldable pub setup_lines : Job → List WrittenLine
setup_lines job = mode_lines job.units job.feed ++ height_line job.units rapid (pos job.safe) ∷ []

-- over the first node and down to it, straight from node to node, and up to the safe height
abbrev pub chain_lines : Job → List GridNode → List WrittenLine
chain_lines job [] = []
chain_lines job (first ∷ rest) =
    travel_line job.units first.at
    ∷ height_line job.units straight (neg_ℤ (pos first.depth))
    ∷ (map (node_line job.units) rest ++ height_line job.units rapid (pos job.safe) ∷ [])

-- the lines of a program but for its end: its title, a note; the setup; and its chains
abbrev pub path_lines : (title : List ℕ) → Job → List (List GridNode) → List WrittenLine
path_lines title job chains = Note title ∷ (setup_lines job ++ flat_map (chain_lines job) chains)

-- the text of that
unfoldable pub path_text : (title : List ℕ) → Job → List (List GridNode) → List ℕ
path_text title job chains = code_text (path_lines title job chains)

-- the program's end: M2
abbrev pub end_line : WrittenLine
end_line = Words (word 77 (codes "2") ∷ [])

-- notes, a line each, and the end
abbrev pub closing_lines : (notes : List (List ℕ)) → List WrittenLine
closing_lines notes = map Note notes ++ end_line ∷ []

-- the text of that
unfoldable pub closing_text : (notes : List (List ℕ)) → List ℕ
closing_text notes = code_text (closing_lines notes)

-- the text of a program of this title, with these notes behind its chains
abbrev pub titled_text : (title : List ℕ) → Job → List (List GridNode) → (notes : List (List ℕ)) → List ℕ
titled_text title job chains notes = path_text title job chains ++ closing_text notes

-- the text of a job's program: its notes are the report on what is left uncut
abbrev pub program_text : Job → List (List GridNode) → UncutPoints → List ℕ
program_text job chains uncut = titled_text (job_note job) job chains (report_lines Uncut uncut)

-- ---- the moves

-- the places that the bit goes through for a chain: over its first node, its nodes, and up from the last
abbrev pub chain_places : Job → List GridNode → List GridPlace
chain_places job [] = []
chain_places job (first ∷ rest) =
    place_over first.at (pos job.safe) ∷ (map node_place (first ∷ rest) ++ place_over (last_place (first ∷ rest)) (pos job.safe) ∷ [])

-- from a place through others, each on a line of its own
abbrev pub moves_through : ℕ → GridPlace → List GridPlace → List LineMove
moves_through line from [] = []
moves_through line from (to ∷ places) = record { line = line; mv = record { from = from; to = to } } ∷ moves_through (line + 1) to places

-- The moves that begin at the first of the places. Line 6 takes the bit there, and as its place isn't known before, that is no move.
abbrev pub moves_along : List GridPlace → List LineMove
moves_along [] = []
moves_along (start ∷ places) = moves_through 7 start places

-- the moves of the program
unfoldable pub chain_moves : Job → List (List GridNode) → List LineMove
chain_moves job chains = moves_along (flat_map (chain_places job) chains)

-- whatever its title and its notes, the program of a path within the limits is read as exactly the moves of its chains
abbrev pub TitledLaw : Type 0
TitledLaw =
    (title : List ℕ) (job : Job) (chains : List (List GridNode)) (notes : List (List ℕ))
    → IsNote title → IsJob job → All IsChain chains → AreWithinLimits chains → All IsNote notes
    → moves_of job.units (titled_text title job chains notes) ≡ Ok (chain_moves job chains)

-- the text of the program is read as exactly its moves
abbrev pub IsReadBack : Job → List (List GridNode) → UncutPoints → Type 0
IsReadBack job chains uncut = moves_of job.units (program_text job chains uncut) ≡ Ok (chain_moves job chains)

-- the program of a path within the limits is read back
abbrev pub ReadBackLaw : Type 0
ReadBackLaw =
    (job : Job) (chains : List (List GridNode)) (uncut : UncutPoints)
    → IsJob job → All IsChain chains → AreWithinLimits chains → IsReport uncut → IsReadBack job chains uncut
