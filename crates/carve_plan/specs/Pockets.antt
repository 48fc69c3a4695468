-- The chains of a plan's pocket, and the limits of all chains.
use Rattle.std.specs.Prelude.{◌<◌, ◌≤◌, ℕ, List, length}
use Rattle.plane_exact.specs.Cone.{Cone}
use Rattle.plane_exact.specs.Nodes.{GridNode, joined}
use Rattle.plane_exact.specs.Plane.{GridPoint}
use Rattle.plane_exact.specs.declared.node.TheConstants.{MOST_CHAINS, MOST_NODES}
use Rattle.carve_plan.specs.Plan.{ArePocketChains, AskedPocket}
use Rattle.carve_plan.specs.declared.fault.PlanFault.{PlanFault}
use Rattle.carve_plan.specs.declared.fault.PlanFault.TheVariants.{Contact, TooManyNodes, TooManyChains, Memory}

-- the pocket alone has more chains than a path may have
pub record HasManyPocketChains (loops : List (List GridPoint)) (cone : Cone) (limit : ℕ) (asked : AskedPocket) : Type 0 where
  pub pocket : List (List GridNode)
  pub milled : ArePocketChains loops cone limit asked pocket
  pub many : MOST_CHAINS < length pocket

-- the fault of making the pocket's chains
abbrev pub IsMillFault : List (List GridPoint) → Cone → (limit : ℕ) → AskedPocket → PlanFault → Type 0
IsMillFault loops cone limit asked (Contact fault) = ⊥
IsMillFault loops cone limit asked TooManyNodes = ⊥
IsMillFault loops cone limit asked TooManyChains = HasManyPocketChains loops cone limit asked
IsMillFault loops cone limit asked Memory = Unit {0}

-- the fault of chains that are too many: the nodes come first
abbrev pub IsLimitFault : List (List GridNode) → PlanFault → Type 0
IsLimitFault chains (Contact fault) = ⊥
IsLimitFault chains TooManyNodes = MOST_NODES < length (joined chains)
IsLimitFault chains TooManyChains = (length (joined chains) ≤ MOST_NODES) × (MOST_CHAINS < length chains)
IsLimitFault chains Memory = ⊥
