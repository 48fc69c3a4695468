-- The chains of a floor have no more nodes than a path may have, where they are no more than it may have.
use Rattle.std.specs.List.{All}
use Rattle.std.proofs.Common.{ℕ, ◌≤◌, ◌*◌, Bool, true, false, if◌then◌else◌, List, [], ◌∷◌, length, ℤ, int_lt, arith}
use Rattle.std.proofs.lemmas.List.{length-append}
use Rattle.std.proofs.lemmas.List.Elements.{All-head, All-tail}
use Rattle.plane_exact.specs.Cone.{Cone}
use Rattle.plane_exact.specs.Nodes.{AreWithinLimits, GridNode, joined}
use Rattle.plane_exact.specs.Plane.{GridPoint}
use Rattle.plane_exact.specs.declared.node.TheConstants.{MOST_CHAINS}
use Rattle.engrave_model.specs.Drawing.{edges_of}
use Rattle.depth_rule.specs.Deepest.{deepest_of}
use Rattle.cleanup_pocket.specs.Floors.{chain_along, node_on}
use Rattle.cleanup_pocket.specs.Runs.{Run}
use Rattle.cleanup_pocket.specs.declared.axis.Axis.{Axis}
use Rattle.cleanup_pocket.specs.declared.axis.Way.{Way}
use Rattle.flat_bit.specs.Flat.{IsFlat, IsFlatGood, IsFlatWay}
use Rattle.flat_bit.proofs.FloorChains.{floor_all}

one_or_two : (is_long : Bool) (first last : GridNode) → length (if is_long then first ∷ last ∷ [] else first ∷ []) ≤ 2
one_or_two true first last = omega arith
one_or_two false first last = omega arith

few_nodes : (chains : List (List GridNode)) → All (λ chain. length chain ≤ 2) chains → length (joined chains) ≤ 2 * length chains
few_nodes [] short = omega arith
few_nodes (chain ∷ chains) short =
    let first : length chain ≤ 2 = All-head (λ chain. length chain ≤ 2) chain chains short in
    let rest = few_nodes chains (All-tail (λ chain. length chain ≤ 2) chain chains short) in
    let sum = length-append chain (joined chains) in
    omega arith

pub flat_few : (loops : List (List GridPoint)) (cone : Cone) (limit radius over : ℕ) (way : Way) (chains : List (List GridNode))
    → IsFlat loops cone limit radius over way chains → length chains ≤ MOST_CHAINS → AreWithinLimits chains
flat_few loops cone limit radius over way chains are few =
    let short =
    floor_all (IsFlatGood (edges_of loops) cone limit radius) (IsFlatWay (edges_of loops) cone limit radius) (deepest_of cone limit) (λ chain. length chain ≤ 2) loops over way chains
    (λ deep axis line run longest. one_or_two (int_lt run.first run.last) (node_on axis line (deepest_of cone limit) run.first) (node_on axis line (deepest_of cone limit) run.last)) are in
    let nodes = few_nodes chains short in
    record { chains_le = few; nodes_le = omega arith }
