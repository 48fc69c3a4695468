-- Answers the goals of `read_font`.
use Rattle.std.proofs.Common.{◌≡◌, ◌∙◌, ap, sym, ◌+◌, arith, length, Result, IfOk, Ok, Err}
use Rattle.text_lines.specs.Cutting.{piece_of}
use Rattle.text_lines.proofs.Counts.{length-lines_of}
use Rattle.cxf_font.specs.Lines.{font_line}
use Rattle.cxf_font.specs.State.{font_on}
use Rattle.cxf_font.specs.declared.fault.CxfFault.{CxfFault}
use Rattle.cxf_font.proofs.Continuing.{font_on-begin, font_on-end, font_on-fault, font_on-step}
use Rattle.cxf_font.proofs.reader.read_font.Goals as goal

-- a value that is known
is_ok : {A E : Type 0} (found : Result A E) (x : A) → IfOk found (λ y. y ≡ x) → IfOk found (λ y. ◌≡◌ {A = Result A CxfFault} (Ok x) (Ok y))
is_ok (Ok y) x is = ap Ok (sym is)
is_ok (Err fault) x none = tt

pub loop-line-init : goal.loop-line-init
loop-line-init c =
    let lines = c.into_iter-line-iterator.ensures.into_iter_gives ∙ c.of-line-items.ensures in
    record {
      font = ap (font_on c.begin-reading.result 1) lines ∙ font_on-begin c.begin-reading.result c.args.bytes.now c.begin-reading.ensures.font c.begin-reading.ensures.begun;
      count = omega (arith, ap length lines);
    }

pub overflow_add-number : goal.overflow_add-number
overflow_add-number c =
    let s = c.in-Some.ensures.steps in
    omega (arith, c.loop-line.invariant.count, ap length s, length-lines_of c.args.bytes.now)

pub loop-line-preserved : goal.loop-line-preserved
loop-line-preserved c =
    let is = c.in-Some.ensures.steps in
    let line = piece_of c.in-Some.line in
    let says = ap (λ begun. font_line begun c.in-Some.line.bytes.now) (sym c.has_begun.ensures) ∙ sym c.in-Ok.ensures.value in
    record {
      font = font_on-step c.loop-line.reading c.take.new.self (c.loop-line.number + 1) line c.next.new.self c.in-Ok.said says c.in_ok-take-in-Ok.ensures.font c.in_ok-take-in-Ok.ensures.begun ∙ sym (ap (font_on c.loop-line.reading (c.loop-line.number + 1)) is) ∙ c.loop-line.invariant.font;
      count = omega (arith, ap length is, c.loop-line.invariant.count);
    }

pub returns-in-Err-clause-fault : goal.returns-in-Err-clause-fault
returns-in-Err-clause-fault c kind =
    let is = c.in-Some.ensures.steps in
    let line = piece_of c.in-Some.line in
    let says = ap (λ begun. font_line begun c.in-Some.line.bytes.now) (sym c.has_begun.ensures) ∙ sym c.in-Err.ensures.value in
    sym c.loop-line.invariant.font ∙ ap (font_on c.loop-line.reading (c.loop-line.number + 1)) is ∙ font_on-fault c.loop-line.reading (c.loop-line.number + 1) line c.next.new.self c.in-Err.kind says

pub returns-clause-value : goal.returns-clause-value
returns-clause-value c =
    let ended = sym c.loop-line.invariant.font ∙ ap (font_on c.loop-line.reading (c.loop-line.number + 1)) c.in-None.ensures.steps.0 ∙ font_on-end c.loop-line.reading (c.loop-line.number + 1) in
    rw ended (is_ok c.finish.result _ c.finish.ensures.font)
