-- The program that engraves strokes: what it says of itself, and its text.
use Rattle.std.specs.Prelude.{◌≡◌, ℕ, List, [], ◌∷◌, ◌++◌, length, codes, decimal, Ok}
use Rattle.plane_exact.specs.Nodes.{GridNode}
use Rattle.gcode_text.specs.Moves.{moves_of}
use Rattle.gcode_text.specs.Path.{chain_moves, titled_text}
use Rattle.gcode_text.specs.declared.job.Job.{Job}

-- strokes S chains C depth Z
unfoldable pub strokes_title : (strokes chains depth : ℕ) → List ℕ
strokes_title strokes chains depth = codes "strokes " ++ (decimal strokes ++ (codes " chains " ++ (decimal chains ++ (codes " depth " ++ decimal depth))))

-- cut U of V
unfoldable pub cut_note : (cut points : ℕ) → List ℕ
cut_note cut points = codes "cut " ++ (decimal cut ++ (codes " of " ++ decimal points))

-- the text of the program of so many strokes at this depth, and of so many points that it cuts
abbrev pub strokes_text : Job → (strokes depth : ℕ) → List (List GridNode) → (cut points : ℕ) → List ℕ
strokes_text job strokes depth chains cut points = titled_text (strokes_title strokes (length chains) depth) job chains (cut_note cut points ∷ [])

-- the text of the program is read as exactly its moves
abbrev pub AreStrokesReadBack : Job → (strokes depth : ℕ) → List (List GridNode) → (cut points : ℕ) → Type 0
AreStrokesReadBack job strokes depth chains cut points = moves_of job.units (strokes_text job strokes depth chains cut points) ≡ Ok (chain_moves job chains)
