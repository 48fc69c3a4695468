-- Answers the goals of `without_blanks_behind`.
use Rattle.std.proofs.Common.{ap, sym, ◌∙◌, ◌∷◌, [], arith, length, length-append}
use Rattle.text_lines.specs.Blanks.{without_back}
use Rattle.text_lines.proofs.Ends.{without_back-blank, without_back-other}
use Rattle.text_lines.proofs.blanks.without_blanks_behind.Goals as goal

pub loop-last-preserved : goal.loop-last-preserved
loop-last-preserved c =
    let whole = c.in-Some.ensures.cases.0 in
    let blank = without_back-blank c.in-Some.before.now c.in-Some.last.now (sym c.separates.ensures ∙ c.if-not-separates.false) in
    record {
      same = sym (ap without_back whole ∙ blank) ∙ c.loop-last.invariant.same;
      within = omega (arith, ap length whole, length-append c.in-Some.before.now (c.in-Some.last.now ∷ []), c.loop-last.invariant.within);
    }

pub returns-then-not-separates-clause-value : goal.returns-then-not-separates-clause-value
returns-then-not-separates-clause-value c =
    let whole = c.in-Some.ensures.cases.0 in
    let other = without_back-other c.in-Some.before.now c.in-Some.last.now (sym c.separates.ensures ∙ c.if-not-separates.true) in
    whole ∙ sym other ∙ sym (ap without_back whole) ∙ c.loop-last.invariant.same
