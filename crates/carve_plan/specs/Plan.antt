-- The plan of a drawing: the chains of all its loops and of its pocket, in the order in which they are cut.
use Rattle.std.specs.Prelude.{◌≡◌, ℕ, Option, None, Some, List, [], ◌++◌, map}
use Rattle.std.specs.List.{AllZip}
use Rattle.plane_exact.specs.Cone.{Cone}
use Rattle.plane_exact.specs.Nodes.{AreWithinLimits, GridNode, joined}
use Rattle.plane_exact.specs.Plane.{GridPoint}
use Rattle.engrave_model.specs.Drawing.{edges_of}
use Rattle.cleanup_pocket.specs.Pocket.{IsPocket}
use Rattle.cleanup_pocket.specs.declared.axis.Way.{Way}
use Rattle.path_order.specs.Order.{IsOrder, chain_at}
use Rattle.carve_plan.specs.Chains.{AreRoundChains}
use Rattle.carve_plan.specs.Stops.{AreRoundsOf}

-- the chains of the loops' nodes, loop by loop
pub record AreLoopChains (loops : List (List GridPoint)) (cone : Cone) (limit : ℕ) (rounds : List (List GridNode)) (chains : List (List GridNode)) : Type 0 where
  pub parts : List (List (List GridNode))
  pub each : AllZip (AreRoundChains (edges_of loops) cone limit) rounds parts
  pub are : chains ≡ joined parts

-- which pocket is milled, if one is asked for: by which lines, and how far apart
abbrev pub AskedPocket : Type 0
AskedPocket = Option (Way × ℕ)

-- the chains of the drawing's pocket, where one is asked for
abbrev pub ArePocketChains : List (List GridPoint) → Cone → (limit : ℕ) → AskedPocket → List (List GridNode) → Type 0
ArePocketChains loops cone limit None pocket = pocket ≡ []
ArePocketChains loops cone limit (Some (way, over)) pocket = IsPocket loops cone limit over way pocket

-- the chains of the drawing's loops and those of its pocket, no more than a path may have, each once, and always the nearest next
pub record IsPlan (loops : List (List GridPoint)) (cone : Cone) (limit step : ℕ) (asked : AskedPocket) (plan : List (List GridNode)) : Type 0 where
  pub rounds : List (List GridNode)
  pub around : AreRoundsOf loops cone limit step rounds
  pub chains : List (List GridNode)
  pub linked : AreLoopChains loops cone limit rounds chains
  pub pocket : List (List GridNode)
  pub milled : ArePocketChains loops cone limit asked pocket
  pub within : AreWithinLimits (chains ++ pocket)
  pub order : List ℕ
  pub ordered : IsOrder (chains ++ pocket) order
  pub are : plan ≡ map (chain_at (chains ++ pocket)) order
