-- Answers the goals of `line_of_dxf`.
use Rattle.std.specs.Prelude.{◌≡◌, ◌≢◌, ℕ, [], codes, decimal, string_bytes}
use Rattle.std.proofs.Common.{◌++◌, ◌∙◌, ap, ap₂, refl, sym}
use Rattle.dxf_outline.specs.Faults.{missing_tail}
use Rattle.dxf_outline.specs.declared.fault.DxfKind.{DxfKind}
use Rattle.dxf_outline.specs.declared.fault.DxfKind.TheVariants.{BadCode, Missing, Number, Unended, OutOfRange, TooMany, Memory}
use Rattle.engrave_core.specs.Line.{dxf_line}
use Rattle.engrave_core.proofs.Texts.{IfOk-bytes, tailed}
use Rattle.engrave_core.proofs.line.line_of_dxf.Goals as goal

-- nothing stands behind the words of another kind
untailed : (kind : DxfKind) → ((code : ℕ) → kind ≢ Missing code) → missing_tail kind ≡ []
untailed BadCode other = refl
untailed (Missing code) other = absurd (other code refl)
untailed Number other = refl
untailed Unended other = refl
untailed OutOfRange other = refl
untailed TooMany other = refl
untailed Memory other = refl

pub returns-in-Missing : goal.returns-in-Missing
returns-in-Missing c =
    let pair = decimal c.args.fault.now.pair in
    IfOk-bytes string_bytes c.format.result
    (codes "input dxf pair " ++ (pair ++ (codes " " ++ (c.words-words.result.now ++ (codes " " ++ (decimal c.in-Missing.code ++ codes "\n"))))))
    (dxf_line c.args.fault.now)
    (tailed (codes "input dxf pair ") pair (codes " ") c.words-words.result.now (codes " " ++ decimal c.in-Missing.code) (codes "\n")
    ∙ ap₂ (λ words tail. (codes "input dxf pair " ++ (((pair ++ codes " ") ++ words) ++ tail)) ++ codes "\n") c.words-words.ensures (ap missing_tail (sym c.in-Missing.is)))
    c.format.ensures.ok

pub returns-in_default : goal.returns-in_default
returns-in_default c =
    let pair = decimal c.args.fault.now.pair in
    IfOk-bytes string_bytes c.format-in_default.result
    (codes "input dxf pair " ++ (pair ++ (codes " " ++ (c.words-words.result.now ++ codes "\n"))))
    (dxf_line c.args.fault.now)
    (tailed (codes "input dxf pair ") pair (codes " ") c.words-words.result.now [] (codes "\n")
    ∙ ap₂ (λ words tail. (codes "input dxf pair " ++ (((pair ++ codes " ") ++ words) ++ tail)) ++ codes "\n") c.words-words.ensures
    (sym (untailed c.args.fault.now.kind c.in_default.not-Missing)))
    c.format-in_default.ensures.ok
