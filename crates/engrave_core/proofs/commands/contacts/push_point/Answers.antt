-- Answers the goals of `push_point`.
use mir.Syntax.{w32, w64}
use Rattle.std.specs.Prelude.{codes}
use Rattle.std.proofs.Common.{◌≡◌, ◌++◌, ℤ, ap, arith, of_z, to_z, append_assoc, ◌∙◌}
use Rattle.std.proofs.lemmas.Int.{ints}
use Rattle.plane_exact.specs.Plane.{IsCoordinate}
use Rattle.engrave_core.specs.Commands.Contacts.{number_before, point_text}
use Rattle.engrave_core.proofs.Texts.{OnOk-map}
use Rattle.engrave_core.proofs.commands.contacts.push_point.Goals as goal

-- a coordinate, as the code has it
coordinate : (r x a : ℤ) → IsCoordinate a → x ≡ a → r ≡ to_z w32 (of_z w32 x) → to_z w64 (of_z w64 r) ≡ a
coordinate r x a on is wide = let low = on.low in let high = on.high in omega (arith, ints)

pub returns : goal.returns
unfolding point_text
returns c =
    let x = coordinate c.from.result c.x.result c.args.p.x c.x.ensures.range.across c.x.ensures.value c.from.ensures in
    let y = coordinate c.from-2.result c.y.result c.args.p.y c.y.ensures.range.up c.y.ensures.value c.from-2.ensures in
    OnOk-map c.push_number-2.result
    (λ last.
    last
    ∙ ap (λ z. c.push_number.new.text.items ++ number_before z (codes "\n")) y
    ∙ ap (λ t. t ++ number_before c.args.p.y (codes "\n")) (c.in_ok-push_number.ensures ∙ ap (λ z. c.args.text.now.items ++ number_before z (codes ",")) x)
    ∙ simp append_assoc)
    c.push_number-2.ensures
