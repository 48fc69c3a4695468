-- Answers the goals of `first_character`.
use Rattle.std.proofs.Common.{◌∙◌, ap, arith, length, length-drop, drop, refl, ◌-◌}
use Rattle.std.proofs.lemmas.List.{take_all}
use Rattle.cxf_font.specs.Keys.{first_byte}
use Rattle.cxf_font.proofs.Characters.{first_character-None, first_character-Some, first_character-nil}
use Rattle.cxf_font.proofs.key.first_character.Goals as goal

pub returns-in_err-next-clause-none : goal.returns-in_err-next-clause-none
returns-in_err-next-clause-none c =
    rw c.from_residual.ensures (first_character-nil c.args.text.now (rw c.utf8_chunks.ensures.rest at c.in_err-next.ensures.steps.0))

pub returns-in-Some-clause-some : goal.returns-in-Some-clause-some
returns-in-Some-clause-some c =
    let text = c.args.text.now in
    let chunk = rw c.utf8_chunks.ensures.rest at c.in_ok-next.ensures.steps in
    let begins = rw (c.chars.ensures.rest, c.valid-front.ensures) at c.in-Some.ensures.steps in
    let found = first_character-Some text c.in_ok-next.field-0.valid.now _ chunk.0 chunk.3.0 c.in-Some.character begins.2 in
    let behind = take_all (length text - c.len_utf8.result) (drop c.len_utf8.result text) (omega (arith, length-drop c.len_utf8.result text)) in
    found ∙ rw (behind, c.from.ensures, c.len_utf8.ensures.value) refl

pub returns-in_ok-byte-in-None-clause-some : goal.returns-in_ok-byte-in-None-clause-some
returns-in_ok-byte-in-None-clause-some c =
    let chunk = rw c.utf8_chunks.ensures.rest at c.in_ok-next.ensures.steps in
    let none = rw (c.chars.ensures.rest, c.valid-front.ensures) at c.in-None.ensures.steps.2 in
    let behind = first_character-None c.args.text.now c.in_ok-next.field-0.valid.now _ chunk.0 chunk.3.0 none in
    behind ∙ ap first_byte c.in_ok-byte-in-None.ensures.cases.0 ∙ rw c.from-in-None.ensures refl
