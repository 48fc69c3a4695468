-- Answers the goals of `push_spot`.
use Rattle.std.specs.Prelude.{codes}
use Rattle.std.specs.Int.{w32}
use Rattle.std.proofs.Common.{◌≡◌, ◌++◌, ◌≤ℤ◌, ℤ, pos, negsuc, ap, arith, of_z, to_z, append_assoc, ◌∙◌}
use Rattle.std.proofs.lemmas.Int.{ints}
use Rattle.plane_exact.specs.Heights.{GridPlace}
use Rattle.engrave_core.specs.Commands.Moves.{number_text, spot_text}
use Rattle.engrave_core.proofs.Texts.{OnOk-map, appended}
use Rattle.engrave_core.proofs.commands.moves.push_spot.Goals as goal

-- the text of a coordinate, as the code has it
number_is : (x a : ℤ) → negsuc 327679 ≤ℤ x → x ≤ℤ pos 327670 → x ≡ a → number_text (to_z w32 (of_z w32 x)) ≡ number_text a
number_is x a low high is =
    let narrow : to_z w32 (of_z w32 x) ≡ x = omega (arith, ints) in
    ap number_text (narrow ∙ is)

pub returns : goal.returns
unfolding spot_text
returns c =
    let s = c.spot.invariant in
    let h_low = s.height.low in
    let h_high = s.height.high in
    let x = number_is c.spot.inside.x c.args.spot.at.x s.across.low s.across.high (ap (λ (p : GridPlace). p.at.x) c.spot.view_is) in
    let y = number_is c.spot.inside.y c.args.spot.at.y s.up.low s.up.high (ap (λ (p : GridPlace). p.at.y) c.spot.view_is) in
    let h = number_is c.spot.inside.h c.args.spot.h (omega (arith, ints)) (omega (arith, ints)) (ap (λ (p : GridPlace). p.h) c.spot.view_is) in
    OnOk-map c.push_number-3.result
    (λ last. appended c.args.text.now.items (number_text c.args.spot.at.x) (codes ",") (number_text c.args.spot.at.y) (codes ",") (number_text c.args.spot.h)
    (c.in_ok-push_number.ensures ∙ ap (λ t. c.args.text.now.items ++ t) x)
    c.in_ok-extend_from_slice.ensures.items
    (c.in_ok-push_number-2.ensures ∙ ap (λ t. c.extend_from_slice.new.self.items ++ t) y)
    c.in_ok-extend_from_slice-2.ensures.items
    (last ∙ ap (λ t. c.extend_from_slice-2.new.self.items ++ t) h)
    ∙ simp append_assoc)
    c.push_number-3.ensures
