-- Chains as they are made: one step, one way, one round and one loop after another.
use Rattle.std.specs.Prelude.{◌≡◌, ◌<◌, ◌≤◌, ◌+◌, ℕ, List, ◌++◌, length, map}
use Rattle.plane_exact.specs.Cone.{Cone}
use Rattle.plane_exact.specs.Nodes.{GridNode, joined}
use Rattle.plane_exact.specs.Plane.{GridPoint}
use Rattle.plane_exact.specs.declared.node.TheConstants.{MOST_NODES}
use Rattle.plane_exact.specs.declared.point.Seg.{Seg}
use Rattle.link_split.specs.declared.step.Step.{Step}
use Rattle.carve_plan.specs.Chains.{AreChainsAround, chains_along}
use Rattle.carve_plan.specs.Plan.{AreLoopChains}
use Rattle.carve_plan.specs.Stops.{AreRounds}
use Rattle.carve_plan.specs.declared.fault.PlanFault.{PlanFault}
use Rattle.carve_plan.specs.declared.fault.PlanFault.TheVariants.{Contact, TooManyNodes, TooManyChains, Memory}
use Rattle.carve_plan.specs.declared.made.Made.{Made}
use Rattle.carve_plan.specs.declared.stop.Stop.{Stop}

-- the nodes of the stops
abbrev pub nodes_of : List Stop → List GridNode
nodes_of stops = map (λ stop. stop.node) stops

-- the nodes of the chains are counted, and no more than a path may have
pub record IsCounted (nodes : ℕ) (chains : List (List GridNode)) : Type 0 where
  pub count : nodes ≡ length (joined chains)
  pub few : nodes ≤ MOST_NODES

-- the fault of making chains: too many nodes, where there are too many, or out of memory
abbrev pub IsCutFault : Type 0 → PlanFault → Type 0
IsCutFault AreTooMany (Contact fault) = ⊥
IsCutFault AreTooMany TooManyNodes = AreTooMany
IsCutFault AreTooMany TooManyChains = ⊥
IsCutFault AreTooMany Memory = Unit {0}

-- The same, where there are too many nodes in all whatever way is made of these. There is one at most, and as it isn't made to its end
-- this is said of each.
abbrev pub IsMadeFault : {A : Type 0} → (A → Type 0) → (A → ℕ) → PlanFault → Type 0
IsMadeFault {A} IsWay nodes fault = IsCutFault ((way : A) → IsWay way → MOST_NODES < nodes way) fault

-- the chains that are made and what the steps make of the chain under way
abbrev pub made_after : Made → List GridNode → List Step → List (List GridNode)
made_after made chain steps = made.chains.items ++ chains_along chain steps

-- steps of this kind were made
pub record IsWayMade (IsWay : List Step → Type 0) (old : Made) (before : List GridNode) (new : Made) (after : List GridNode) : Type 0 where
  pub steps : List Step
  pub way : IsWay steps
  pub made : (rest : List Step) → made_after old before (steps ++ rest) ≡ made_after new after rest
  pub counted : new.nodes ≡ old.nodes + length steps

-- the chains round a loop were put behind the old ones
pub record IsRoundMade (edges : List Seg) (cone : Cone) (limit : ℕ) (first : GridNode) (others : List GridNode) (old new : List (List GridNode)) : Type 0 where
  pub chains : List (List GridNode)
  pub around : AreChainsAround edges cone limit first others chains
  pub made : new ≡ old ++ chains

-- the chains of the stops' loops, with no more nodes than a path may have
pub record AreStopChains (loops : List (List GridPoint)) (cone : Cone) (limit : ℕ) (stops : List Stop) (chains : List (List GridNode)) : Type 0 where
  pub rounds : List (List GridNode)
  pub parted : AreRounds stops rounds
  pub linked : AreLoopChains loops cone limit rounds chains
  pub few : length (joined chains) ≤ MOST_NODES

-- they have more
pub record HasManyNodes (loops : List (List GridPoint)) (cone : Cone) (limit : ℕ) (stops : List Stop) : Type 0 where
  pub rounds : List (List GridNode)
  pub parted : AreRounds stops rounds
  pub many : (chains : List (List GridNode)) → AreLoopChains loops cone limit rounds chains → MOST_NODES < length (joined chains)
