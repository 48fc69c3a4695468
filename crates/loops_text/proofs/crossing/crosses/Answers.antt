-- Answers the goals of `crosses`.
use Rattle.loops_text.proofs.Crossings.{other_clear}
use Rattle.loops_text.proofs.crossing.crosses.Goals as goal

pub returns-in-Apart : goal.returns-in-Apart
returns-in-Apart c = (
  (λ never. cc),
  (λ crossing. absurd (other_clear c.args.s.now c.args.t.now _ c.cross_kind.ensures c.in-Apart.is crossing)),
)
