-- Answers the goals of `collinear`.
use Rattle.std.proofs.Common.{inl, inr, refl, sym, ◌∙◌}
use Rattle.plane_exact.proofs.Signs.{held, less, not_less, not_both, strict, read_same, same_read}
use Rattle.plane_exact.proofs.Ranges.{read_zero, zero_read}
use Rattle.plane_exact.proofs.Overlaps.{none_before, none_after, one_at_start, one_at_finish, more}
use Rattle.plane_exact.proofs.meet.collinear.Goals.{then-to-lt0, else-to-lt0}
use Rattle.plane_exact.proofs.meet.collinear.Goals as goal

pub returns-then-length-from : goal.returns-then-length-from
returns-then-length-from c = elim c.if-to-lt0.branch [
  | then-to-lt0 b ↦ none_before c.args.s c.args.t c.requires.start c.requires.finish c.requires.forward
      (less _ _ _ _ (held _ _ c.dot-to.ensures.range c.dot-to.ensures.value) refl b.if-to-lt0.true)
  | else-to-lt0 b ↦ none_after c.args.s c.args.t c.requires.start c.requires.finish c.requires.forward
      (less _ _ _ _ (held _ _ c.dot-length.ensures.range c.dot-length.ensures.value) (held _ _ c.dot-from.ensures.range c.dot-from.ensures.value) (sym b.value-is ∙ c.if-length-from.true))
]

pub returns-then-from-length : goal.returns-then-from-length
returns-then-from-length c = elim c.if-from-length.either [
  | inl t ↦ one_at_start c.args.s c.args.t c.requires.start c.requires.finish c.requires.forward
      (read_zero _ _ c.dot-to.ensures.range c.dot-to.ensures.value t)
  | inr t ↦ one_at_finish c.args.s c.args.t c.requires.start c.requires.finish c.requires.forward
      (read_same _ _ _ _ c.dot-from.ensures.range c.dot-from.ensures.value c.dot-length.ensures.range c.dot-length.ensures.value t.1)
]

pub returns-else-from-length : goal.returns-else-from-length
returns-else-from-length c = elim c.if-to-lt0.branch [
  | then-to-lt0 b ↦ absurd (not_both _ b.if-to-lt0.true (sym b.value-is ∙ c.if-length-from.false))
  | else-to-lt0 b ↦ more c.args.s c.args.t c.requires.start c.requires.finish c.requires.forward
      (strict _ _ (not_less _ _ _ _ (held _ _ c.dot-to.ensures.range c.dot-to.ensures.value) refl b.if-to-lt0.false) (λ e. c.if-from-length.false.0 (zero_read _ _ c.dot-to.ensures.range c.dot-to.ensures.value (sym e))))
      (strict _ _ (not_less _ _ _ _ (held _ _ c.dot-length.ensures.range c.dot-length.ensures.value) (held _ _ c.dot-from.ensures.range c.dot-from.ensures.value) (sym b.value-is ∙ c.if-length-from.false)) (λ e. c.if-from-length.false.1 (same_read _ _ _ _ c.dot-from.ensures.value c.dot-length.ensures.value e)))
]
