-- When a drawing has no plan.
use Rattle.std.specs.Prelude.{◌≢◌, ◌⊎◌, ◌<◌, ◌≤◌, ◌+◌, nat_le, if◌then◌else◌, ℕ, List, ◌++◌, length}
use Rattle.plane_exact.specs.Cone.{Cone}
use Rattle.plane_exact.specs.Nodes.{GridNode, joined}
use Rattle.plane_exact.specs.Plane.{GridPoint}
use Rattle.plane_exact.specs.declared.node.TheConstants.{MOST_CHAINS, MOST_NODES}
use Rattle.tangent_disc.specs.Contacts.{IsContactFault}
use Rattle.tangent_disc.specs.declared.contact.ContactFault.{ContactFault}
use Rattle.tangent_disc.specs.declared.contact.ContactFault.TheVariants as contact
use Rattle.carve_plan.specs.Plan.{AreLoopChains, ArePocketChains, AskedPocket}
use Rattle.carve_plan.specs.Stops.{AreRoundsOf}
use Rattle.carve_plan.specs.declared.fault.PlanFault.{PlanFault}
use Rattle.carve_plan.specs.declared.fault.PlanFault.TheVariants.{Contact, TooManyNodes, TooManyChains, Memory}

-- the contacts have this fault, which isn't running out of memory
pub record HasContactFault (loops : List (List GridPoint)) (step : ℕ) (fault : ContactFault) : Type 0 where
  pub is : IsContactFault loops step fault
  pub told : fault ≢ contact.Memory

-- The loops' nodes have chains with more nodes in all than a path may have. The nodes have one list of chains, if any; this is said of
-- each, so that no chain needs to be made once they are too many.
pub record HasManyLoopNodes (loops : List (List GridPoint)) (cone : Cone) (limit step : ℕ) : Type 0 where
  pub rounds : List (List GridNode)
  pub around : AreRoundsOf loops cone limit step rounds
  pub many : (chains : List (List GridNode)) → AreLoopChains loops cone limit rounds chains → MOST_NODES < length (joined chains)

-- The nodes that are counted: those of the loops' chains, and those of the pocket where it has no more chains than a path may have.
abbrev pub counted_nodes : (chains pocket : List (List GridNode)) → ℕ
counted_nodes chains pocket = length (joined chains) + (if nat_le (length pocket) MOST_CHAINS then length (joined pocket) else 0)

-- the chains of the loops and the pocket have these numbers of nodes and of chains
pub record HasChains (loops : List (List GridPoint)) (cone : Cone) (limit step : ℕ) (asked : AskedPocket) (Counts : (nodes chains : ℕ) → Type 0) : Type 0 where
  pub rounds : List (List GridNode)
  pub around : AreRoundsOf loops cone limit step rounds
  pub chains : List (List GridNode)
  pub linked : AreLoopChains loops cone limit rounds chains
  pub pocket : List (List GridNode)
  pub milled : ArePocketChains loops cone limit asked pocket
  pub counts : Counts (counted_nodes chains pocket) (length (chains ++ pocket))

-- more nodes than a path may have
abbrev pub HasTooManyNodes : List (List GridPoint) → Cone → (limit step : ℕ) → AskedPocket → Type 0
HasTooManyNodes loops cone limit step asked =
    HasManyLoopNodes loops cone limit step ⊎ HasChains loops cone limit step asked (λ nodes chains. MOST_NODES < nodes)

-- no more nodes, but more chains
abbrev pub HasTooManyChains : List (List GridPoint) → Cone → (limit step : ℕ) → AskedPocket → Type 0
HasTooManyChains loops cone limit step asked = HasChains loops cone limit step asked (λ nodes chains. (nodes ≤ MOST_NODES) × (MOST_CHAINS < chains))

-- when each fault is answered, the first that applies; out of memory at any time
abbrev pub IsPlanFault : List (List GridPoint) → Cone → (limit step : ℕ) → AskedPocket → PlanFault → Type 0
IsPlanFault loops cone limit step asked (Contact fault) = HasContactFault loops step fault
IsPlanFault loops cone limit step asked TooManyNodes = HasTooManyNodes loops cone limit step asked
IsPlanFault loops cone limit step asked TooManyChains = HasTooManyChains loops cone limit step asked
IsPlanFault loops cone limit step asked Memory = Unit {0}
