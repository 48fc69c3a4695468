-- Reading in order: what is read so far, and the definition on the rest.
use Rattle.std.proofs.Common.{◌≤◌, ◌≡◌, ℕ, ◌-◌, Bool, true, false, not, if◌then◌else◌, None, Some, Result, Ok, Err, List, [], ◌∷◌, ◌++◌, length, map, filter, sum_by, sym, ap, ◌∙◌, refl, arith, append_assoc}
use Rattle.std.proofs.lemmas.List.Sums.{sum_by_push}
use Rattle.grid_num.specs.Judging.{and_then}
use Rattle.text_lines.specs.Pieces.{Piece, words_of}
use Rattle.plane_exact.specs.Plane.{GridPoint}
use Rattle.engrave_model.specs.Drawing.{edges_of, most_edges}
use Rattle.plane_exact.specs.Same.{same_point}
use Rattle.loops_text.specs.Edges.{push_fault}
use Rattle.loops_text.specs.Grammar.{is_last, is_skipped, loop_of, loops_from, next_point, place_of_first, place_of_last, points_of}
use Rattle.loops_text.proofs.Drawings.{length-edges_of}
use Rattle.loops_text.proofs.Judged.{push_fault-after_loop_of}
use Rattle.loops_text.specs.declared.fault.LoopsFault.{LoopsFault}

-- the place of the last of the words, or the given one where there is none
abbrev pub last_place : ℕ → List Piece → ℕ
last_place place [] = place
last_place place (word ∷ words) = last_place word.at words

pub last_place-all : (words : List Piece) → last_place 0 words ≡ place_of_last words
last_place-all [] = refl
last_place-all (word ∷ []) = refl
last_place-all (word ∷ next ∷ words) = last_place-all (next ∷ words)

-- the loops read so far, and those of the lines left
abbrev pub drawing_with : List (List GridPoint) → List Piece → Result (List (List GridPoint)) LoopsFault
drawing_with loops lines =
    and_then (loops_from (most_edges - sum_by length loops) (filter (λ words. not (is_skipped words)) (map words_of lines))) (λ others. Ok (loops ++ others))

pub is_last_push : (points : List GridPoint) (q p : GridPoint) → is_last (points ++ q ∷ []) p ≡ same_point q p
is_last_push [] q p = refl
is_last_push (r ∷ []) q p = refl
is_last_push (r ∷ s ∷ points) q p = is_last_push (s ∷ points) q p

-- one more point
pub points_of_step : (earlier : List GridPoint) (room : ℕ) (word : Piece) (words : List Piece) (p : GridPoint) → next_point earlier room word ≡ Ok p → points_of earlier room (word ∷ words) ≡ points_of (earlier ++ p ∷ []) (room - 1) words
points_of_step earlier room word words p is = rw is refl

-- a line that is no loop
pub drawing_with-skipped : (loops : List (List GridPoint)) (line : Piece) (lines : List Piece) → is_skipped (words_of line) ≡ true → drawing_with loops (line ∷ lines) ≡ drawing_with loops lines
drawing_with-skipped loops line lines is = rw is refl

-- a faulty loop
pub drawing_with-Err : (loops : List (List GridPoint)) (line : Piece) (lines : List Piece) (fault : LoopsFault) → is_skipped (words_of line) ≡ false → loop_of (most_edges - sum_by length loops) (words_of line) ≡ Err fault → drawing_with loops (line ∷ lines) ≡ Err fault
drawing_with-Err loops line lines fault is wrong = rw (is, wrong) refl

-- one more loop
joined : (loops : List (List GridPoint)) (points : List GridPoint) (others : Result (List (List GridPoint)) LoopsFault) → and_then (and_then others (λ found. Ok (points ∷ found))) (λ found. Ok (loops ++ found)) ≡ and_then others (λ found. Ok ((loops ++ points ∷ []) ++ found))
joined loops points (Ok found) = ap Ok (sym (append_assoc loops (points ∷ []) found))
joined loops points (Err fault) = refl

pub drawing_with-Ok : (loops : List (List GridPoint)) (line : Piece) (lines : List Piece) (points : List GridPoint) → is_skipped (words_of line) ≡ false → loop_of (most_edges - sum_by length loops) (words_of line) ≡ Ok points → drawing_with loops (line ∷ lines) ≡ drawing_with (loops ++ points ∷ []) lines
drawing_with-Ok loops line lines points is right =
    let room : most_edges - sum_by length loops - length points ≡ most_edges - sum_by length (loops ++ points ∷ []) = omega (arith, sum_by_push length loops points) in
    rw (is, right, room) (joined loops points _)

-- ---- a turn of the loop over lines, whose first one isn't skipped
is_loop : {A : Type 0} (skipped : Bool) (first place : A) → Some first ≡ (if skipped then None else Some place) → skipped ≡ false
is_loop true first place start = absurd (cc)
is_loop false first place start = refl

pub record IsTurn (loops : List (List GridPoint)) (lines others : List Piece) (words : List Piece) (first edges : ℕ) (whole : Result (List (List GridPoint)) LoopsFault) : Type 0 where
  pub line : Piece
  pub so_far : drawing_with loops lines ≡ whole
  pub step : lines ≡ line ∷ others
  pub start : Some first ≡ (if is_skipped (words_of line) then None else Some (place_of_first (words_of line)))
  pub its_words : words ≡ words_of line
  pub counted : edges ≡ length (edges_of loops)

room_left : {loops : List (List GridPoint)} {lines others words : List Piece} {first edges : ℕ} {whole : Result (List (List GridPoint)) LoopsFault} → IsTurn loops lines others words first edges whole → most_edges - edges ≡ most_edges - sum_by length loops
room_left {loops} turn = omega (arith, turn.counted, length-edges_of loops)

pub fault_of_turn : {loops : List (List GridPoint)} {lines others words : List Piece} {first edges : ℕ} {whole : Result (List (List GridPoint)) LoopsFault} → IsTurn loops lines others words first edges whole → (fault : LoopsFault) → loop_of (most_edges - edges) words ≡ Err fault → whole ≡ Err fault
fault_of_turn {loops} {lines} {others} turn fault wrong =
    let here = rw (room_left turn, turn.its_words) at wrong in
    sym turn.so_far ∙ ap (drawing_with loops) turn.step ∙ drawing_with-Err loops turn.line others fault (is_loop _ _ _ turn.start) here

pub next_of_turn : {loops : List (List GridPoint)} {lines others words : List Piece} {first edges : ℕ} {whole : Result (List (List GridPoint)) LoopsFault} → IsTurn loops lines others words first edges whole → (points : List GridPoint) → loop_of (most_edges - edges) words ≡ Ok points → drawing_with (loops ++ points ∷ []) others ≡ whole
next_of_turn {loops} {lines} {others} turn points right =
    let here = rw (room_left turn, turn.its_words) at right in
    sym (drawing_with-Ok loops turn.line others points (is_loop _ _ _ turn.start) here) ∙ ap (drawing_with loops) (sym turn.step) ∙ turn.so_far

-- the loop that was read breaks no rule of the drawing
pub push_fault-of_turn : {loops : List (List GridPoint)} {lines others words : List Piece} {first edges : ℕ} {whole : Result (List (List GridPoint)) LoopsFault} → IsTurn loops lines others words first edges whole → edges ≤ most_edges → (points : List GridPoint) → loop_of (most_edges - edges) words ≡ Ok points → push_fault loops points ≡ None
push_fault-of_turn {loops} {lines} {others} {words} turn few points right =
    push_fault-after_loop_of loops words points (omega (arith, turn.counted, length-edges_of loops)) (rw (room_left turn) at right)
