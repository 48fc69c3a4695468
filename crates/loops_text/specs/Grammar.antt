-- The loops form of a drawing: a loop a line, its points x,y in words. The drawing of a text, or its first fault.
use Rattle.std.specs.Prelude.{ℕ, ◌-◌, Bool, true, false, not, ◌&&◌, if◌then◌else◌, Option, Some, None, List, [], ◌∷◌, ◌++◌, length, map, filter, ℤ, nat_eq, ◌==◌, Result, Ok, Err}
use Rattle.grid_num.specs.Judging.{and_then}
use Rattle.text_lines.specs.Pieces.{Piece, lines_of, words_of}
use Rattle.grid_num.specs.Whole.{pair_of}
use Rattle.plane_exact.specs.Plane.{GridPoint, is_coordinate}
use Rattle.engrave_model.specs.Drawing.{most_edges}
use Rattle.plane_exact.specs.Same.{same_point}
use Rattle.loops_text.specs.declared.fault.LoopsFault.{LoopsFault}
use Rattle.loops_text.specs.declared.fault.LoopsKind.{LoopsKind}
use Rattle.loops_text.specs.declared.fault.LoopsKind.TheVariants.{Syntax, Short, SamePoint, OutOfRange, TooMany}

-- a line is skipped where it has no word, or where its first word begins with '#' (35)
abbrev pub is_skipped : List Piece → Bool
is_skipped [] = true
is_skipped (word ∷ words) = begins_with_hash word.bytes
  where
    begins_with_hash : List ℕ → Bool
    begins_with_hash [] = false
    begins_with_hash (byte ∷ rest) = byte == 35

-- the words of each line that is a loop
abbrev pub loop_lines : List ℕ → List (List Piece)
loop_lines text = filter (λ words. not (is_skipped words)) (map words_of (lines_of text))

-- a fault of the word
abbrev pub fault_at : {A : Type 0} → Piece → LoopsKind → Result A LoopsFault
fault_at word kind = Err (record { at = word.at; kind = kind })

-- the point that a word writes: two whole numbers with a comma (44) between them
abbrev pub point_of : Piece → Result GridPoint LoopsFault
point_of word = on_grid (pair_of 44 word.bytes)
  where
    on_grid : Option (ℤ × ℤ) → Result GridPoint LoopsFault
    on_grid None = fault_at word Syntax
    on_grid (Some (x, y)) = if is_coordinate x && is_coordinate y then Ok (record { x = x; y = y }) else fault_at word OutOfRange

-- the point is the last of the points again
abbrev pub is_last : List GridPoint → GridPoint → Bool
is_last [] p = false
is_last (q ∷ []) p = same_point q p
is_last (q ∷ r ∷ points) p = is_last (r ∷ points) p

-- the point of a word after the earlier ones of its loop, where the drawing has room for so many more
abbrev pub next_point : List GridPoint → ℕ → Piece → Result GridPoint LoopsFault
next_point earlier room word =
    and_then (point_of word)
    (λ p. if is_last earlier p then fault_at word SamePoint else if nat_eq room 0 then fault_at word TooMany else Ok p)

-- the points of a loop's words after the earlier ones
abbrev pub points_of : List GridPoint → ℕ → List Piece → Result (List GridPoint) LoopsFault
points_of earlier room [] = Ok earlier
points_of earlier room (word ∷ words) =
    and_then (next_point earlier room word) (λ p. points_of (earlier ++ p ∷ []) (room - 1) words)

-- where the first of the words stands
abbrev pub place_of_first : List Piece → ℕ
place_of_first [] = 0
place_of_first (word ∷ words) = word.at

-- where the last of the words stands
abbrev pub place_of_last : List Piece → ℕ
place_of_last [] = 0
place_of_last (word ∷ []) = word.at
place_of_last (word ∷ next ∷ words) = place_of_last (next ∷ words)

-- The points as a closed loop: at least two, of which the last isn't the first again. The places are those of
-- the first and of the last word.
abbrev pub closed : ℕ → ℕ → List GridPoint → Result (List GridPoint) LoopsFault
closed first last [] = Err (record { at = first; kind = Short })
closed first last (p ∷ []) = Err (record { at = first; kind = Short })
closed first last (p ∷ q ∷ points) =
    if is_last (q ∷ points) p then Err (record { at = last; kind = SamePoint }) else Ok (p ∷ q ∷ points)

-- the loop of a line's words, where the drawing has room for so many more points
abbrev pub loop_of : ℕ → List Piece → Result (List GridPoint) LoopsFault
loop_of room words = and_then (points_of [] room words) (closed (place_of_first words) (place_of_last words))

-- the loops of the lines, in order, or the first fault
abbrev pub loops_from : ℕ → List (List Piece) → Result (List (List GridPoint)) LoopsFault
loops_from room [] = Ok []
loops_from room (words ∷ lines) =
    and_then (loop_of room words)
    (λ points. and_then (loops_from (room - length points) lines) (λ loops. Ok (points ∷ loops)))

-- the drawing of a text in loops form, or its first fault
abbrev pub loops_of : List ℕ → Result (List (List GridPoint)) LoopsFault
loops_of text = loops_from most_edges (loop_lines text)
