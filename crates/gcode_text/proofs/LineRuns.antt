-- Bytes of one line, all at once.
use Rattle.std.proofs.Common.{◌≡◌, ℕ, ◌+◌, ◌≤◌, ◌<◌, Bool, true, false, not, cond, eqb, List, [], ◌∷◌, ◌++◌, length, take, sym, ap, ◌∙◌, refl, arith, append_assoc}
use Rattle.std.specs.List.{list_all, prefix_len}
use Rattle.std.proofs.lemmas.Bool.{and_from, and_parts, lt-ltb}
use Rattle.std.proofs.lemmas.Grind.{common_steps}
use Rattle.std.proofs.lemmas.List.{append-nil, length-take-le, length_push}
use Rattle.gcode_text.specs.Runs.{is_of_line}
use Rattle.gcode_text.specs.Stepping.{after, and_turn, moves_reported, next, next_in, turn_in}
use Rattle.gcode_text.specs.declared.state.Phase.TheVariants as phase
use Rattle.gcode_text.specs.declared.state.State.{State}

-- with these bytes of the line, behind so many that were fed
abbrev pub with_line : State → List ℕ → ℕ → State
with_line s items fed = record s { bytes = record { items = items }; fed = fed }

no_feed : (feeds : Bool) → not feeds ≡ true → feeds ≡ false
no_feed true is = absurd (cc)
no_feed false is = refl

one_byte : (s : State) (byte : ℕ) → s.phase ≡ phase.Open → eqb byte 10 ≡ false → length s.bytes.items < 1025 → next s byte ≡ with_line s (s.bytes.items ++ byte ∷ []) (s.fed + 1)
one_byte s byte open_phase other room =
    ap (λ p. next_in p (record s { fed = s.fed + 1 }) byte) open_phase ∙ rw (other, lt-ltb _ _ room) refl

silent_byte : (s : State) (byte : ℕ) (rest : List ℕ) → s.phase ≡ phase.Open → eqb byte 10 ≡ false → moves_reported s (byte ∷ rest) ≡ moves_reported (next s byte) rest
silent_byte s byte rest open_phase other =
    ap (λ p. and_turn (turn_in p s byte) (moves_reported (next s byte) rest)) open_phase ∙ rw other refl

pub record IsTaken (s : State) (bytes : List ℕ) : Type 0 where
  pub state : after s bytes ≡ with_line s (s.bytes.items ++ bytes) (s.fed + length bytes)
  pub silent : moves_reported s bytes ≡ []

pub IsTaken-line : (bytes : List ℕ) (s : State) → s.phase ≡ phase.Open → list_all is_of_line bytes ≡ true → length s.bytes.items + length bytes ≤ 1025 → IsTaken s bytes
IsTaken-line [] s open_phase all room =
    let fed : s.fed ≡ s.fed + length {A = ℕ} [] = omega arith in
    record { state = ap (λ items. with_line s items s.fed) (sym (append-nil s.bytes.items)) ∙ ap (with_line s (s.bytes.items ++ [])) fed; silent = refl }
IsTaken-line (byte ∷ bytes) s open_phase all room =
    let parts = and_parts (is_of_line byte) (list_all is_of_line bytes) all in
    let other = no_feed (eqb byte 10) parts.0 in
    let step = with_line s (s.bytes.items ++ byte ∷ []) (s.fed + 1) in
    let one : next s byte ≡ step = one_byte s byte open_phase other (omega arith) in
    let later = IsTaken-line bytes step open_phase parts.1 (omega (arith, length_push s.bytes.items byte)) in
    let fed : s.fed + 1 + length bytes ≡ s.fed + length (byte ∷ bytes) = omega arith in
    record {
      state = ap (λ t. after t bytes) one ∙ later.state ∙ ap (λ items. with_line s items (s.fed + 1 + length bytes)) (append_assoc s.bytes.items (byte ∷ []) bytes) ∙ ap (with_line s (s.bytes.items ++ byte ∷ bytes)) fed;
      silent = silent_byte s byte bytes open_phase other ∙ ap (λ t. moves_reported t bytes) one ∙ later.silent;
    }

-- the bytes before the first line feed
pub line_front : (bytes : List ℕ) → list_all is_of_line (take (prefix_len is_of_line bytes) bytes) ≡ true
line_front [] = refl
line_front (byte ∷ bytes) = by_byte (is_of_line byte) refl (line_front bytes)
  where
    by_byte : (of_line : Bool) → is_of_line byte ≡ of_line → list_all is_of_line (take (prefix_len is_of_line bytes) bytes) ≡ true → list_all is_of_line (take (cond of_line (1 + prefix_len is_of_line bytes) 0) (byte ∷ bytes)) ≡ true
    by_byte true is later =
        let first : take (1 + prefix_len is_of_line bytes) (byte ∷ bytes) ≡ byte ∷ take (prefix_len is_of_line bytes) bytes = grind (arith, common_steps) in
        rw first (and_from (is_of_line byte) (list_all is_of_line (take (prefix_len is_of_line bytes) bytes)) is later)
    by_byte false is later = refl

-- those that are taken, where only the first so many are looked at
pub IsTaken-front : (s : State) (bytes front : List ℕ) (room len : ℕ) → s.phase ≡ phase.Open → front ≡ take room bytes → len ≡ prefix_len is_of_line front → len ≤ length front → length s.bytes.items + len ≤ 1025 → IsTaken s (take len front) × (take len front ≡ take len bytes) × (length (take len front) ≡ len)
IsTaken-front s bytes front room len open_phase is value within fits =
    let size : length (take len front) ≡ len = length-take-le len front within in
    let all : list_all is_of_line (take len front) ≡ true = ap (λ n. list_all is_of_line (take n front)) value ∙ line_front front in
    let same : take len front ≡ take len bytes = grind (arith, common_steps) in
    (IsTaken-line (take len front) s open_phase all (omega (arith, size)), same, size)
