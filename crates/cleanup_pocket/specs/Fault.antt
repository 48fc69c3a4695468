-- When the chains of a floor are refused.
use Rattle.std.specs.Prelude.{ℕ, ◌<◌, List, length}
use Rattle.plane_exact.specs.Cone.{Cone}
use Rattle.plane_exact.specs.Nodes.{GridNode}
use Rattle.plane_exact.specs.Plane.{GridPoint}
use Rattle.plane_exact.specs.declared.node.TheConstants.{MOST_CHAINS}
use Rattle.cleanup_pocket.specs.Pocket.{IsPocket}
use Rattle.cleanup_pocket.specs.declared.axis.Way.{Way}
use Rattle.cleanup_pocket.specs.declared.fault.PocketFault.{PocketFault}
use Rattle.cleanup_pocket.specs.declared.fault.PocketFault.TheVariants.{TooMany, Memory}

-- the chains of which this is so are more than a path may have
pub record HasManyChains (AreChains : List (List GridNode) → Type 0) : Type 0 where
  pub chains : List (List GridNode)
  pub is : AreChains chains
  pub many : MOST_CHAINS < length chains

-- when each fault is answered; out of memory at any time
abbrev pub IsManyFault : (AreChains : List (List GridNode) → Type 0) → PocketFault → Type 0
IsManyFault AreChains TooMany = HasManyChains AreChains
IsManyFault AreChains Memory = Unit {0}

-- the same of a drawing's pocket
abbrev pub IsPocketFault : List (List GridPoint) → Cone → (limit over : ℕ) → Way → PocketFault → Type 0
IsPocketFault loops cone limit over way fault = IsManyFault (IsPocket loops cone limit over way) fault
