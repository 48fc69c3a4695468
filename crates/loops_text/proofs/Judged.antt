-- A loop whose words were judged in order breaks no rule of a drawing.
use Rattle.std.proofs.Common.{◌≡◌, ℕ, ◌+◌, ◌-◌, ◌<◌, ◌≤◌, Bool, true, false, ◌||◌, cond, None, Result, Ok, Err, List, [], ◌∷◌, ◌++◌, length, sum_by, ap, ◌∙◌, refl, arith}
use Rattle.std.specs.List.{list_any}
use Rattle.std.proofs.lemmas.List.{length_push}
use Rattle.std.proofs.lemmas.Bool.{eqb-false}
use Rattle.grid_num.specs.Judging.{and_then}
use Rattle.text_lines.specs.Pieces.{Piece}
use Rattle.plane_exact.specs.Plane.{GridPoint}
use Rattle.engrave_model.specs.Drawing.{edges_back_to, edges_of_loop, most_edges}
use Rattle.plane_exact.specs.Same.{same_point}
use Rattle.loops_text.specs.Edges.{push_fault}
use Rattle.loops_text.specs.Grammar.{closed, is_last, loop_of, next_point, point_of, points_of}
use Rattle.loops_text.specs.declared.fault.LoopsFault.{LoopsFault}
use Rattle.loops_text.proofs.Drawings.{push_fault-None}

-- some point equals the one before it
abbrev pub repeats : List GridPoint → Bool
repeats [] = false
repeats (p ∷ []) = false
repeats (p ∷ q ∷ points) = same_point p q || repeats (q ∷ points)

or_assoc : (a b c : Bool) → (a || (b || c)) ≡ ((a || b) || c)
or_assoc true b c = refl
or_assoc false b c = refl

pub or_false : (a : Bool) → (a || false) ≡ a
or_false true = refl
or_false false = refl

pub repeats_push : (earlier : List GridPoint) (p : GridPoint) → repeats (earlier ++ p ∷ []) ≡ (repeats earlier || is_last earlier p)
repeats_push [] p = refl
repeats_push (q ∷ []) p = or_false (same_point q p)
repeats_push (q ∷ r ∷ earlier) p =
    ap (λ rest. same_point q r || rest) (repeats_push (r ∷ earlier) p) ∙ or_assoc (same_point q r) (repeats (r ∷ earlier)) (is_last (r ∷ earlier) p)

-- the edges of a loop begin and end apart, if its points do and it is closed
pub edges_apart : (first p : GridPoint) (points : List GridPoint) → list_any (λ e. same_point e.a e.b) (edges_back_to first (p ∷ points)) ≡ (repeats (p ∷ points) || is_last (p ∷ points) first)
edges_apart first p [] = or_false (same_point p first)
edges_apart first p (q ∷ points) =
    ap (λ rest. same_point p q || rest) (edges_apart first q points) ∙ or_assoc (same_point p q) (repeats (q ∷ points)) (is_last (q ∷ points) first)

-- ---- judging in order
after : {A B : Type 0} (r : Result A LoopsFault) (next : A → Result B LoopsFault) (y : B) → and_then r next ≡ Ok y → (x : A) × (r ≡ Ok x) × (next x ≡ Ok y)
after (Ok x) next y is = (x, refl, is)
after (Err fault) next y is = absurd (cc)

tested : {A : Type 0} (broken : Bool) (fault : LoopsFault) (later : Result A LoopsFault) (x : A) → cond broken (Err fault) later ≡ Ok x → (broken ≡ false) × (later ≡ Ok x)
tested true fault later x is = absurd (cc)
tested false fault later x is = (refl, is)

record IsNext (earlier : List GridPoint) (room : ℕ) (p : GridPoint) : Type 0 where
  apart : is_last earlier p ≡ false
  fits : 0 < room

not_zero : (n : ℕ) → (n ≡ 0 → ⊥) → 0 < n
not_zero n some = omega arith

IsNext-from_next_point : (earlier : List GridPoint) (room : ℕ) (word : Piece) (p : GridPoint) → next_point earlier room word ≡ Ok p → IsNext earlier room p
IsNext-from_next_point earlier room word p is =
    let found = after (point_of word) _ p is in
    let apart = tested _ _ _ p found.2 in
    let fits = tested _ _ _ p apart.1 in
    let same : found.0 ≡ p = cc fits.1 in
    record { apart = rw (← same) apart.0; fits = not_zero room (eqb-false room 0 fits.0) }

record IsJudged (earlier : List GridPoint) (room : ℕ) (points : List GridPoint) : Type 0 where
  apart : repeats points ≡ false
  fits : length points ≤ length earlier + room

IsJudged-from_points_of : (earlier : List GridPoint) (room : ℕ) (words : List Piece) (points : List GridPoint) → points_of earlier room words ≡ Ok points → repeats earlier ≡ false → IsJudged earlier room points
IsJudged-from_points_of earlier room [] points is apart =
    let same : earlier ≡ points = cc in
    record { apart = rw (← same) apart; fits = rw (← same) (omega arith) }
IsJudged-from_points_of earlier room (word ∷ words) points is apart =
    let found = after (next_point earlier room word) _ points is in
    let p = found.0 in
    let next = IsNext-from_next_point earlier room word p found.1 in
    let longer : repeats (earlier ++ p ∷ []) ≡ false = repeats_push earlier p ∙ rw (apart, next.apart) refl in
    let rest = IsJudged-from_points_of (earlier ++ p ∷ []) (room - 1) words points found.2 longer in
    record { apart = rest.apart; fits = omega (arith, rest.fits, next.fits, length_push earlier p) }

record IsClosed (points : List GridPoint) : Type 0 where
  some : 2 ≤ length points
  apart : list_any (λ e. same_point e.a e.b) (edges_of_loop points) ≡ repeats points

IsClosed-from_closed : (first last : ℕ) (points found : List GridPoint) → closed first last points ≡ Ok found → (found ≡ points) × IsClosed points
IsClosed-from_closed first last [] found is = absurd (cc)
IsClosed-from_closed first last (p ∷ []) found is = absurd (cc)
IsClosed-from_closed first last (p ∷ q ∷ points) found is =
    let open_end : (is_last (q ∷ points) p ≡ false) × (Ok (p ∷ q ∷ points) ≡ Ok found) = tested _ _ _ found is in
    let same : found ≡ p ∷ q ∷ points = cc open_end.1 in
    (same, record { some = omega arith; apart = edges_apart p p (q ∷ points) ∙ rw open_end.0 (or_false (repeats (p ∷ q ∷ points))) })

-- a loop that was read may be added to the drawing
pub push_fault-after_loop_of : (loops : List (List GridPoint)) (words : List Piece) (points : List GridPoint) → sum_by length loops ≤ most_edges → loop_of (most_edges - sum_by length loops) words ≡ Ok points → push_fault loops points ≡ None
push_fault-after_loop_of loops words points few is =
    let found = after (points_of [] (most_edges - sum_by length loops) words) _ points is in
    let whole = IsClosed-from_closed _ _ found.0 points found.2 in
    let judged = IsJudged-from_points_of [] (most_edges - sum_by length loops) words found.0 found.1 refl in
    rw whole.0 (push_fault-None loops found.0 whole.1.some (whole.1.apart ∙ judged.apart) (omega (arith, judged.fits)))
