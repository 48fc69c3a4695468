-- Answers the goals of `Decimal::from_digits`.
use Rattle.std.proofs.Common.{arith, sym, ◌∙◌}
use Rattle.std.proofs.lemmas.Bool.Decides.{nat_tests}
use Rattle.grid_num.proofs.Runs.{AreNumeral-from_tests}
use Rattle.grid_num.proofs.decimal.Decimal.from_digits.Goals as goal

pub value_after-requires-clause-digits : goal.value_after-requires-clause-digits
value_after-requires-clause-digits c =
    (AreNumeral-from_tests c.args.whole.now c.args.fraction.now (sym c.have_digits_alone.ensures ∙ c.if-not-have_digits_alone.false) (omega arith)).in_whole

pub value_after-requires-clause-fits : goal.value_after-requires-clause-fits
value_after-requires-clause-fits c =
    (AreNumeral-from_tests c.args.whole.now c.args.fraction.now (sym c.have_digits_alone.ensures ∙ c.if-not-have_digits_alone.false) (omega arith)).whole_fits

pub value_after-requires-2-clause-digits : goal.value_after-requires-2-clause-digits
value_after-requires-2-clause-digits c =
    (AreNumeral-from_tests c.args.whole.now c.args.fraction.now (sym c.have_digits_alone.ensures ∙ c.if-not-have_digits_alone.false) (omega arith)).in_fraction

pub value_after-requires-2-clause-fits : goal.value_after-requires-2-clause-fits
value_after-requires-2-clause-fits c =
    let numeral = AreNumeral-from_tests c.args.whole.now c.args.fraction.now (sym c.have_digits_alone.ensures ∙ c.if-not-have_digits_alone.false) (omega arith) in
    rw c.value_after.ensures numeral.fits

pub invariant_of-result : goal.invariant_of-result
invariant_of-result c =
    let numeral = AreNumeral-from_tests c.args.whole.now c.args.fraction.now (sym c.have_digits_alone.ensures ∙ c.if-not-have_digits_alone.false) (omega arith) in
    rw (c.value_after-2.ensures, c.value_after.ensures) numeral.fits

pub returns : goal.returns
returns c =
    let numeral = AreNumeral-from_tests c.args.whole.now c.args.fraction.now (sym c.have_digits_alone.ensures ∙ c.if-not-have_digits_alone.false) (omega arith) in
    let value = numeral.value in
    let value_is = c.value_after-2.ensures in
    let whole_is = c.value_after.ensures in
    grind (arith, nat_tests)
