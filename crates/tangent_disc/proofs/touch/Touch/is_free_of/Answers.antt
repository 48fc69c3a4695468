-- Answers the goals of `Touch::is_free_of`.
use Rattle.tangent_disc.proofs.Free.{free_of_off}
use Rattle.tangent_disc.specs.OpenDisc.{centre_of}
use Rattle.tangent_disc.proofs.touch.Touch.is_free_of.Goals as goal

pub returns : goal.returns
returns c =
    let touch = c.args.self.now in
    let disc = c.disc.ensures in
    let free = free_of_off touch.side touch.point touch.at.ranged.long.low c.args.j (centre_of c.disc.result) c.disc.result.reach disc.across disc.up disc.denominator disc.wide c.args.edge.now in (
      (λ yes. free.0 (c.is_off.ensures.0 yes)),
      (λ is. c.is_off.ensures.1 (free.1 is)),
    )
