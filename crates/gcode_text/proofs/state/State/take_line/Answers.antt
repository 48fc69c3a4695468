-- Answers the goals of `State::take_line`.
use Rattle.std.proofs.Common.{◌≡◌, ◌+◌, ◌≤◌, ◌++◌, length, take, sym, ap, ◌∙◌, rules, arith}
use Rattle.gcode_text.specs.Stepping.{after, moves_reported}
use Rattle.gcode_text.specs.declared.state.Phase.TheVariants as phase
use Rattle.gcode_text.proofs.LineRuns.{IsTaken-front, with_line}
use Rattle.gcode_text.proofs.state.State.take_line.Goals as goal

pub returns-clause-after : goal.returns-clause-after
returns-clause-after c =
    let s = c.args.self.now in
    let open_phase : s.phase ≡ phase.Open = search rules in
    let fits : length s.bytes.items + c.line_len-len.result ≤ 1025 = omega (arith, c.line_len-len.ensures.within, c.front-front.ensures.room, c.len-room.ensures.value) in
    let taken = IsTaken-front s c.args.bytes.now c.front-front.result.now _ c.line_len-len.result open_phase c.front-front.ensures.value c.line_len-len.ensures.value c.line_len-len.ensures.within fits in
    let items : c.try_extend_from_slice.new.self.items ≡ s.bytes.items ++ take c.line_len-len.result c.front-front.result.now = search rules in
    ap (λ items. with_line s items (s.fed + c.line_len-len.result)) items ∙ ap (λ n. with_line s (s.bytes.items ++ take c.line_len-len.result c.front-front.result.now) (s.fed + n)) (sym taken.2) ∙ sym taken.0.state ∙ ap (after s) taken.1

pub returns-clause-silent : goal.returns-clause-silent
returns-clause-silent c =
    let s = c.args.self.now in
    let open_phase : s.phase ≡ phase.Open = search rules in
    let fits : length s.bytes.items + c.line_len-len.result ≤ 1025 = omega (arith, c.line_len-len.ensures.within, c.front-front.ensures.room, c.len-room.ensures.value) in
    let taken = IsTaken-front s c.args.bytes.now c.front-front.result.now _ c.line_len-len.result open_phase c.front-front.ensures.value c.line_len-len.ensures.value c.line_len-len.ensures.within fits in
    ap (moves_reported s) (sym taken.1) ∙ taken.0.silent
