-- Answers the goals of `slanted`.
use Rattle.std.proofs.Common.{sym, ◌∙◌}
use Rattle.plane_exact.proofs.Signs.{not_both}
use Rattle.plane_exact.proofs.Slants.{straddles_first, straddles_second, meet_at_ends, meet_within, as_turned}
use Rattle.plane_exact.proofs.meet.slanted.Goals.{then-rises_through, else-rises_through, else-has_end_on-via-then-has_end_on+else-has_end_on-2, else-has_end_on-via-else-has_end_on}
use Rattle.plane_exact.proofs.meet.slanted.Goals as goal

pub returns-then-not-rises_through : goal.returns-then-not-rises_through
returns-then-not-rises_through c = elim c.if-rises_through.branch [
  | then-rises_through b ↦ λ w on.
      let turned = as_turned c.args.s c.args.t b.turned.result b.turned.ensures.start b.turned.ensures.finish b.rises_through-then-rises_through.ensures in
      not_both _ (turned.1 (straddles_second c.args.s c.args.t c.requires w on)) (sym b.value-is ∙ c.if-not-rises_through.true)
  | else-rises_through b ↦ λ w on. not_both _ (c.rises_through.ensures.1 (straddles_first c.args.s c.args.t c.requires w on)) b.if-rises_through.false
]

pub returns-then-has_end_on-2 : goal.returns-then-has_end_on-2
returns-then-has_end_on-2 c = elim c.if-rises_through.branch [
  | then-rises_through b ↦
      let turned = as_turned c.args.s c.args.t b.turned.result b.turned.ensures.start b.turned.ensures.finish b.rises_through-then-rises_through.ensures in
      meet_at_ends c.args.s c.args.t c.requires
      (c.rises_through.ensures.0 b.if-rises_through.true)
      (turned.0 (sym b.value-is ∙ c.if-not-rises_through.false))
      (c.has_end_on.ensures.0 c.if-has_end_on.true)
      (c.has_end_on-then-has_end_on.ensures.0 c.if-has_end_on-2.true)
  | else-rises_through b ↦ absurd (not_both _ (sym b.value-is ∙ c.if-not-rises_through.false) b.if-rises_through.false)
]

pub returns-else-has_end_on : goal.returns-else-has_end_on
returns-else-has_end_on c = elim c.if-rises_through.branch [
  | then-rises_through b ↦
      let turned = as_turned c.args.s c.args.t b.turned.result b.turned.ensures.start b.turned.ensures.finish b.rises_through-then-rises_through.ensures in
      meet_within c.args.s c.args.t c.requires
      (c.rises_through.ensures.0 b.if-rises_through.true)
      (turned.0 (sym b.value-is ∙ c.if-not-rises_through.false))
      (λ ends. elim c.else-has_end_on.branch [
        | else-has_end_on-via-then-has_end_on+else-has_end_on-2 e ↦ not_both _ (e.has_end_on-then-has_end_on.ensures.1 ends.1) e.if-has_end_on-2.false
        | else-has_end_on-via-else-has_end_on e ↦ not_both _ (c.has_end_on.ensures.1 ends.0) e.if-has_end_on.false
      ])
  | else-rises_through b ↦ absurd (not_both _ (sym b.value-is ∙ c.if-not-rises_through.false) b.if-rises_through.false)
]
