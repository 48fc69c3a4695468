-- Answers the goals of `greatest_free`.
use Rattle.std.proofs.Common.{pos, ◌≤ℤ◌, arith, subst}
use Rattle.std.proofs.lemmas.Int.{ints}
use Rattle.engrave_model.specs.Drawing.{edges_of}
use Rattle.tangent_disc.specs.Tangent.{IsGreatestFree}
use Rattle.tangent_disc.proofs.Searches.{stopped}
use Rattle.tangent_disc.proofs.greatest.greatest_free.Goals as goal
use Rattle.tangent_disc.proofs.greatest.greatest_free.Goals.{then-j-most-via-then-j-most, then-j-most-via-else-j-most+then-most-rmax}

pub returns-then-j-most : goal.returns-then-j-most
returns-then-j-most c =
    let t = c.args.touch.now in
    let edges = edges_of c.args.scene.now in
    let some = t.at.ranged.long.low in
    let long : pos 0 ≤ℤ t.point.length = omega (arith, ints) in
    elim c.then-j-most.branch [
      | then-j-most-via-then-j-most w ↦ stopped edges t.side t.point c.loop-most.most c.args.rmax c.greatest_free_within-j.result long c.greatest_free_within-j.ensures w.if-j-most.true c.loop-most.invariant.1
      | then-j-most-via-else-j-most+then-most-rmax w ↦ subst (λ most. IsGreatestFree edges t.side t.point most c.greatest_free_within-j.result) w.if-most-rmax.true c.greatest_free_within-j.ensures
    ]
