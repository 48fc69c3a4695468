-- Answers the goals of `push_move`.
use Rattle.std.specs.Prelude.{codes, pos}
use Rattle.std.specs.Int.{w64}
use Rattle.std.proofs.Common.{◌≡◌, ◌++◌, ap, of_z, to_z, append_assoc, ◌∙◌}
use Rattle.std.proofs.lemmas.Int.{to_z-of_z}
use Rattle.grid_num.specs.Written.{decimal_text, zeros_of}
use Rattle.engrave_core.specs.Commands.Moves.{move_line, spot_text}
use Rattle.engrave_core.proofs.Texts.{OnOk-added, OnOk-map, appended}
use Rattle.engrave_core.proofs.commands.moves.push_move.Goals as goal

pub returns : goal.returns
unfolding move_line
returns c =
    let line : to_z w64 (of_z w64 c.from.result) ≡ pos c.args.line_move.now.line = to_z-of_z w64 c.from.result (record { sfits = c.from.type_inv }) ∙ c.from.ensures in
    let number : c.write_decimal.new.out.items ≡ c.args.text.now.items ++ decimal_text (zeros_of 1) (to_z w64 (of_z w64 c.from.result)) = c.in_ok-write_decimal.ensures.text in
    let from = spot_text c.args.line_move.now.mv.from in
    let to = spot_text c.args.line_move.now.mv.to in
    OnOk-map c.extend_from_slice-3.result
    (λ last. last
    ∙ ap (λ t. t ++ codes "\n") (appended c.args.text.now.items (decimal_text 0 (pos c.args.line_move.now.line)) (codes " ") from (codes " ") to
    (number ∙ ap (λ z. c.args.text.now.items ++ decimal_text 0 z) line)
    c.in_ok-extend_from_slice.ensures.items
    c.in_ok-push_spot.ensures
    c.in_ok-extend_from_slice-2.ensures.items
    c.in_ok-push_spot-2.ensures)
    ∙ simp append_assoc)
    (OnOk-added c.extend_from_slice-3.result _ _ (codes "\n") c.extend_from_slice-3.ensures.items)
