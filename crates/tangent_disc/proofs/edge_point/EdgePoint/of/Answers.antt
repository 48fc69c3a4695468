-- Answers the goals of `EdgePoint::of`.
use Rattle.std.proofs.Common.{◌≡◌, pos, to_z, of_z, w64, arith, subst}
use Rattle.std.proofs.lemmas.Int.{ints}
use Rattle.tangent_disc.specs.Contacts.{IsAtMostLong}
use Rattle.tangent_disc.proofs.Lengths.{length_some}
use Rattle.tangent_disc.proofs.edge_point.EdgePoint.of.Goals as goal

pub returns-clause-range : goal.returns-clause-range
returns-clause-range c =
    let some = length_some c.args.drawing.now c.edge-edge.ensures.drawing.each c.args.c.now.edge c.edge-edge.result c.edge-edge.ensures.edge _ c.length_up.ensures.value in
    let enough = c.length_up.ensures.value.enough in
    let long : pos c.length_up.result ≡ to_z w64 (of_z w64 c.from-3.result) = omega (arith, ints) in
    record {
      pieces = record { low = omega (arith, ints); high = omega (arith, ints) };
      along = record { low = omega (arith, ints); high = omega (arith, ints) };
      long = record { low = omega (arith, ints); high = omega (arith, ints) };
      enough = subst (IsAtMostLong c.edge-edge.result) long enough;
    }
