-- What a reader has collected, and the moves of the bytes that it stands for.
use Rattle.std.specs.Prelude.{IfErr}
use Rattle.std.proofs.Common.{◌≡◌, ℕ, ◌-◌, Bool, List, [], ◌++◌, Result, Ok, Err, length, take, drop, sym, ap, ◌∙◌}
use Rattle.std.proofs.lemmas.List.{append-nil, take-append-drop}
use Rattle.gcode_text.specs.Collecting.{Continues}
use Rattle.gcode_text.specs.Moves.{moves_of}
use Rattle.gcode_text.specs.Reading.{Progress, StandsFor}
use Rattle.gcode_text.specs.Stepping.{after, last_move, moves_at_end, moves_reported, start_of}
use Rattle.gcode_text.specs.declared.reader.Collected.{Collected}
use Rattle.gcode_text.specs.declared.state.State.{State}
use Rattle.gcode_text.proofs.Cutting.{rest_is}
use Rattle.gcode_text.proofs.Stepped.{after-append, moves_of-steps, moves_reported-append}

-- the moves at the end are those of any bytes that the reader stands for
pub collects : (bytes : List ℕ) (r : Progress) → StandsFor bytes r → moves_of r.units bytes ≡ moves_at_end r.moves (last_move r.state)
collects bytes r stands =
    moves_of-steps r.units bytes ∙ ap (λ reported. moves_at_end reported (last_move (after (start_of r.units) bytes))) (sym stands.moves) ∙ ap (λ s. moves_at_end r.moves (last_move s)) (sym stands.state)

pub IfErr-weaker : {V E : Type 0} (r : Result V E) (P Q : E → Type 0) → ((e : E) → P e → Q e) → IfErr r P → IfErr r Q
IfErr-weaker (Ok x) P Q weaker is = is
IfErr-weaker (Err e) P Q weaker is = weaker e is

-- so many more bytes, which report nothing
pub Continues-line : (first old : Collected) (stepper : State) (piece rest : List ℕ) (len : ℕ) → stepper ≡ after old.stepper (take len rest) → moves_reported old.stepper (take len rest) ≡ [] → Continues first piece old rest → Continues first piece (record old { stepper = stepper }) (take (length rest - len) (drop len rest))
Continues-line first old stepper piece rest len is silent so_far =
    let line = take len rest in
    let behind = drop len rest in
    let both = sym (take-append-drop len rest) in
    let all = sym (rest_is rest len) in
    let reported : moves_reported old.stepper (line ++ behind) ≡ moves_reported stepper behind =
    moves_reported-append old.stepper line behind ∙ ap (λ moves. moves ++ moves_reported (after old.stepper line) behind) silent ∙ ap (λ s. moves_reported s behind) (sym is) in
    record {
      state = so_far.state ∙ ap (after old.stepper) both ∙ after-append old.stepper line behind ∙ ap (λ s. after s behind) (sym is) ∙ ap (after stepper) all;
      moves = so_far.moves ∙ ap (λ bytes. old.moves.items ++ moves_reported old.stepper bytes) both ∙ ap (λ moves. old.moves.items ++ moves) reported ∙ ap (λ bytes. old.moves.items ++ moves_reported stepper bytes) all;
    }

abbrev progress : Collected → Bool → Progress
progress c is_lost = record { units = c.stepper.units; state = c.stepper; moves = c.moves.items; is_lost = is_lost }

-- a reader that stood for these bytes stands for them and the piece behind them
pub StandsFor-more : (bytes piece : List ℕ) (old new : Collected) (was is : Bool) → new.stepper.units ≡ old.stepper.units → Continues old piece new [] → StandsFor bytes (progress old was) → StandsFor (bytes ++ piece) (progress new is)
StandsFor-more bytes piece old new was is units continues stands =
    let start = start_of old.stepper.units in
    record {
      state = sym continues.state ∙ ap (λ s. after s piece) stands.state ∙ sym (after-append start bytes piece) ∙ ap (λ u. after (start_of u) (bytes ++ piece)) (sym units);
      moves = sym (append-nil new.moves.items) ∙ sym continues.moves ∙ ap (λ moves. moves ++ moves_reported old.stepper piece) stands.moves ∙ ap (λ s. moves_reported start bytes ++ moves_reported s piece) stands.state ∙ sym (moves_reported-append start bytes piece) ∙ ap (λ u. moves_reported (start_of u) (bytes ++ piece)) (sym units);
    }
