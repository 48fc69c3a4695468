-- Answers the goals of `parts_alike`.
use Rattle.std.proofs.Common.{ap, ap₂, sym, ◌∙◌}
use Rattle.pbm_edges.specs.Boundary.{side_of}
use Rattle.pbm_edges.specs.Same.{pixel_of}
use Rattle.pbm_edges.proofs.Steady.{all_black, all_white, zero_is, full_is}
use Rattle.pbm_edges.proofs.same.parts_alike.Goals as goal

pub returns-then-above-eq255 : goal.returns-then-above-eq255
returns-then-above-eq255 c = λ white i on.
    ap₂ side_of (ap (λ byte. pixel_of byte i) c.if-above-eq255.true ∙ all_black i on) (ap (λ byte. pixel_of byte i) (zero_is c.args.below white) ∙ all_white i on)
    ∙ sym c.in-Onward.is

pub returns-then-above-eq0 : goal.returns-then-above-eq0
returns-then-above-eq0 c = λ black i on.
    ap₂ side_of (ap (λ byte. pixel_of byte i) c.if-above-eq0.true ∙ all_white i on) (ap (λ byte. pixel_of byte i) (full_is c.args.below black) ∙ all_black i on)
    ∙ sym c.in-Back.is
