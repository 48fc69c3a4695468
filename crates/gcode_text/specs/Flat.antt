-- The program of a flat bit that mills a floor: what it says of itself, and its text.
use Rattle.std.specs.Prelude.{◌≡◌, ℕ, List, ◌++◌, codes, decimal, Ok}
use Rattle.plane_exact.specs.Nodes.{GridNode}
use Rattle.plane_exact.specs.Uncut.{UncutPoints}
use Rattle.gcode_text.specs.Moves.{moves_of}
use Rattle.gcode_text.specs.Path.{chain_moves, titled_text}
use Rattle.gcode_text.specs.Report.{report_lines}
use Rattle.gcode_text.specs.declared.job.Job.{Job}
use Rattle.gcode_text.specs.declared.report.Subject.TheVariants.{Floor}

-- flat F
unfoldable pub flat_title : (radius : ℕ) → List ℕ
flat_title radius = codes "flat " ++ decimal radius

-- the text of the program of a flat bit of this radius: its notes are the report on the floor that it leaves
abbrev pub flat_text : Job → (radius : ℕ) → List (List GridNode) → UncutPoints → List ℕ
flat_text job radius chains left = titled_text (flat_title radius) job chains (report_lines Floor left)

-- the text of the program is read as exactly its moves
abbrev pub IsFlatReadBack : Job → (radius : ℕ) → List (List GridNode) → UncutPoints → Type 0
IsFlatReadBack job radius chains left = moves_of job.units (flat_text job radius chains left) ≡ Ok (chain_moves job chains)
