-- Answers the goals of `end_of_same`.
use Rattle.std.proofs.Common.{◌≡◌, arith, subst, sym}
use Rattle.pbm_edges.specs.Boundary.{side_at}
use Rattle.pbm_edges.proofs.same.end_of_same.Goals as goal

pub returns-in_default-None-clause-same : goal.returns-in_default-None-clause-same
returns-in_default-None-clause-same c = λ j from to.
    let here : j ≡ c.args.i = omega arith in
    subst (λ j. side_at c.args.image.now c.args.line j ≡ c.args.side) (sym here) (sym c.requires.side)
