-- Answers the goals of `passes_through`.
use Rattle.std.proofs.Common.{eqb-true}
use Rattle.plane_exact.proofs.Ranges.{not_above, at_most, read_zero, zero_read}
use Rattle.plane_exact.proofs.Collinear.{on_segment, on_line, between_ends}
use Rattle.plane_exact.proofs.segment.passes_through.Goals as goal

pub returns-then-cross-eq0 : goal.returns-then-cross-eq0
returns-then-cross-eq0 c =
    let level = read_zero _ _ c.cross.ensures.range c.cross.ensures.value c.if-cross-eq0.true in (
      (λ t. on_segment c.args.s.a c.args.s.b c.args.p level (not_above _ _ c.dot.ensures.range c.dot.ensures.value t)),
      (λ on. at_most _ _ c.dot.ensures.range c.dot.ensures.value (between_ends c.args.s.a c.args.s.b c.args.p on)),
    )

pub returns-else-cross-eq0 : goal.returns-else-cross-eq0
returns-else-cross-eq0 c =
    let apart = c.if-cross-eq0.false in (
      (λ t. absurd (apart (eqb-true _ _ t))),
      (λ on. absurd (apart (zero_read _ _ c.cross.ensures.range c.cross.ensures.value (on_line c.args.s.a c.args.s.b c.args.p on)))),
    )
