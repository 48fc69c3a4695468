-- A G-code program that is judged as its bytes come: behind one more byte, and behind a part of a line.
use Rattle.std.proofs.Common.{◌≡◌, ℕ, ◌+◌, ◌-◌, List, [], ◌∷◌, ◌++◌, length, take, drop, sym, ap, subst, ◌∙◌, append_assoc}
use Rattle.std.proofs.Math.Seq.{take-add}
use Rattle.std.proofs.lemmas.List.{append-nil, length_push, take_rest}
use Rattle.plane_exact.specs.Cone.{Cone}
use Rattle.plane_exact.specs.declared.moves.LineMove.{LineMove}
use Rattle.plane_exact.specs.declared.point.Seg.{Seg}
use Rattle.gcode_text.specs.Stepping.{IsAfter, after, and_turn, moves_reported, start_of, turn_of}
use Rattle.gcode_text.specs.declared.state.State.{State}
use Rattle.gcode_text.specs.declared.state.Turn.{Turn}
use Rattle.gcode_text.specs.declared.state.Turn.TheVariants.{Moved}
use Rattle.gcode_text.proofs.Stepped.{after-append, moves_reported-append}
use Rattle.gouge_checker.specs.Verdict.{IsVerdict}
use Rattle.gouge_checker.specs.declared.verdict.Verdict.{Verdict}
use Rattle.engrave_core.specs.Judging.{AreJudged, IsJudgedTo}

-- what a verdict on some moves becomes with one more
abbrev IsNext : List Seg → Cone → LineMove → Verdict → Verdict → Type 0
IsNext edges cone mv before verdict =
    (moves : List LineMove) → IsVerdict edges cone moves before → IsVerdict edges cone (moves ++ mv ∷ []) verdict

-- i bytes of a piece were taken, and then n
pub taken_more : (bytes piece : List ℕ) (i n : ℕ) → (bytes ++ take i piece) ++ take n (take (length piece - i) (drop i piece)) ≡ bytes ++ take (i + n) piece
taken_more bytes piece i n =
    append_assoc bytes (take i piece) _ ∙ ap (λ rest. bytes ++ (take i piece ++ take n rest)) (take_rest piece i) ∙ ap (λ taken. bytes ++ taken) (sym (take-add i n piece))

-- the moves that one more byte reports
reported_more : (s : State) (byte : ℕ) (bytes : List ℕ) → IsAfter bytes s
    → moves_reported (start_of s.units) (bytes ++ byte ∷ []) ≡ moves_reported (start_of s.units) bytes ++ and_turn (turn_of s byte) []
reported_more s byte bytes stands =
    let start = start_of s.units in
    moves_reported-append start bytes (byte ∷ []) ∙ ap (λ t. moves_reported start bytes ++ and_turn (turn_of t byte) []) (sym stands)

module _ (edges : List Seg) (cone : Cone) where
  -- one more move
  judged_more : (moves : List LineMove) (mv : LineMove) (before verdict : Verdict) (count : ℕ) → IsNext edges cone mv before verdict
      → AreJudged edges cone moves before count → AreJudged edges cone (moves ++ mv ∷ []) verdict (count + 1)
  judged_more moves mv before verdict count next judged =
      record { is = next moves judged.is; counted = ap (λ n. n + 1) judged.counted ∙ sym (length_push moves mv) }

  module _ (old new : State) (same : new.units ≡ old.units) where
    -- where more bytes lead, with these moves reported
    judged_by : (bytes : List ℕ) (moves : List LineMove) (verdict : Verdict) (count : ℕ) → IsAfter bytes new
        → moves_reported (start_of old.units) bytes ≡ moves → AreJudged edges cone moves verdict count → IsJudgedTo edges cone bytes new verdict count
    judged_by bytes moves verdict count stands is judged = record {
      stands = stands;
      so_far = subst (λ ms. AreJudged edges cone ms verdict count) (sym (ap (λ units. moves_reported (start_of units) bytes) same ∙ is)) judged;
    }

    -- a byte that closes the line of a move
    pub moved : (bytes : List ℕ) (byte : ℕ) (mv : LineMove) (before verdict : Verdict) (count : ℕ) → Moved mv ≡ turn_of old byte → IsAfter (bytes ++ byte ∷ []) new
        → IsNext edges cone mv before verdict → IsJudgedTo edges cone bytes old before count → IsJudgedTo edges cone (bytes ++ byte ∷ []) new verdict (count + 1)
    moved bytes byte mv before verdict count turn stands next judged =
        let reported = moves_reported (start_of old.units) bytes in
        judged_by (bytes ++ byte ∷ []) (reported ++ mv ∷ []) verdict (count + 1) stands
        (reported_more old byte bytes judged.stands ∙ ap (λ t. reported ++ and_turn t []) (sym turn))
        (judged_more reported mv before verdict count next judged.so_far)

    -- one that reports none
    pub unmoved : (bytes : List ℕ) (byte : ℕ) (report : Turn) (verdict : Verdict) (count : ℕ) → report ≡ turn_of old byte → and_turn report [] ≡ []
        → IsAfter (bytes ++ byte ∷ []) new → IsJudgedTo edges cone bytes old verdict count → IsJudgedTo edges cone (bytes ++ byte ∷ []) new verdict count
    unmoved bytes byte report verdict count turn none stands judged =
        let reported = moves_reported (start_of old.units) bytes in
        judged_by (bytes ++ byte ∷ []) reported verdict count stands
        (reported_more old byte bytes judged.stands ∙ ap (λ t. reported ++ and_turn t []) (sym turn) ∙ ap (λ moves. reported ++ moves) none ∙ append-nil reported)
        judged.so_far

    -- a part of a line, which reports none
    pub line_on : (bytes part : List ℕ) (verdict : Verdict) (count : ℕ) → new ≡ after old part → moves_reported old part ≡ []
        → IsJudgedTo edges cone bytes old verdict count → IsJudgedTo edges cone (bytes ++ part) new verdict count
    line_on bytes part verdict count is silent judged =
        let start = start_of old.units in
        let reported = moves_reported start bytes in
        judged_by (bytes ++ part) reported verdict count
        (is ∙ ap (λ s. after s part) judged.stands ∙ sym (after-append start bytes part) ∙ ap (λ units. after (start_of units) (bytes ++ part)) (sym same))
        (moves_reported-append start bytes part ∙ ap (λ s. reported ++ moves_reported s part) (sym judged.stands) ∙ ap (λ moves. reported ++ moves) silent ∙ append-nil reported)
        judged.so_far
