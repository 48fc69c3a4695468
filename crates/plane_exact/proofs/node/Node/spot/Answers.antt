-- Answers the goals of `Node::spot`.
use Rattle.std.proofs.Common.{◌≡◌, ◌≤◌, ℕ, ℤ, pos, negsuc, neg_ℤ, ◌*ℤ◌, arith, of_z, to_z, ap, w32}
use Rattle.std.proofs.lemmas.Int.{ints}
use Rattle.plane_exact.specs.Nodes.{node_place}
use Rattle.plane_exact.specs.Plane.{IsCoordinate}
use Rattle.plane_exact.proofs.node.Node.spot.Goals as goal

-- the numbers, as the code has them
coordinate : (r x : ℤ) → IsCoordinate x → r ≡ x → to_z w32 (of_z w32 (pos 10 *ℤ to_z w32 (of_z w32 r))) ≡ pos 10 *ℤ x
coordinate r x on is =
    let low = on.low in
    let high = on.high in
    let narrow : to_z w32 (of_z w32 r) ≡ x = omega (arith, ints) in
    omega (arith, ints)

height : (z : ℕ) → z ≤ 32767 → to_z w32 (of_z w32 (negsuc 9 *ℤ to_z w32 z)) ≡ pos 10 *ℤ neg_ℤ (pos z)
height z small =
    let narrow : to_z w32 z ≡ pos z = omega (arith, ints) in
    omega (arith, ints)

pub returns : goal.returns
returns c =
    let node = c.self.inside in
    let on = c.x.ensures.range in
    let x = coordinate c.x.result node.at.x on.across c.x.ensures.value in
    let y = coordinate c.y.result node.at.y on.up c.y.ensures.value in
    let h = height node.depth c.self.invariant in
    rw (x, y, h) (ap node_place c.self.view_is)
