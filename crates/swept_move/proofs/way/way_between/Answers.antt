-- Answers the goals of `way_between`.
use Rattle.std.proofs.Common.{ap₂, ◌-ℤ◌, ◌∙◌}
use Rattle.plane_exact.specs.Heights.{GridPlace}
use Rattle.swept_move.proofs.Ways.{fine, taken}
use Rattle.swept_move.proofs.way.way_between.Goals as goal

pub returns-clause-across : goal.returns-clause-across
returns-clause-across c =
    (taken (fine c.to.invariant.across) (fine c.from.invariant.across) c.to.invariant.across c.from.invariant.across).value
    ∙ ap₂ (λ (p q : GridPlace). p.at.x -ℤ q.at.x) c.to.view_is c.from.view_is

pub returns-clause-up : goal.returns-clause-up
returns-clause-up c =
    (taken (fine c.to.invariant.up) (fine c.from.invariant.up) c.to.invariant.up c.from.invariant.up).value
    ∙ ap₂ (λ (p q : GridPlace). p.at.y -ℤ q.at.y) c.to.view_is c.from.view_is
