-- The chains of a loop's nodes: the bit stays down as long as the way is clear.
use Rattle.std.specs.Prelude.{◌≡◌, ℕ, List, [], ◌∷◌, ◌++◌}
use Rattle.plane_exact.specs.Cone.{Cone}
use Rattle.plane_exact.specs.Nodes.{GridNode}
use Rattle.plane_exact.specs.declared.point.Seg.{Seg}
use Rattle.engrave_model.specs.Lists.{AreJoined}
use Rattle.link_split.specs.Link.{IsLink}
use Rattle.link_split.specs.declared.step.Step.{Step}
use Rattle.link_split.specs.declared.step.Step.TheVariants.{To, Lift}
use Rattle.carve_plan.specs.declared.round.TheConstants.{MOST_HALVED}

-- the steps of the links from a node to the next ones in turn
abbrev pub AreLinked : List Seg → Cone → ℕ → GridNode → List GridNode → List Step → Type 0
AreLinked edges cone limit from [] steps = steps ≡ []
AreLinked edges cone limit from (to ∷ nodes) steps = AreJoined (IsLink edges cone limit MOST_HALVED from to) (AreLinked edges cone limit to nodes) steps

-- the chains that steps make behind a chain that has begun: a straight step adds its node, and a lift ends the chain and begins the next
abbrev pub chains_along : List GridNode → List Step → List (List GridNode)
chains_along chain [] = chain ∷ []
chains_along chain (To node ∷ steps) = chains_along (chain ++ node ∷ []) steps
chains_along chain (Lift node ∷ steps) = chain ∷ chains_along (node ∷ []) steps

-- the chains round a loop, from its first node through the others and back to it
pub record AreChainsAround (edges : List Seg) (cone : Cone) (limit : ℕ) (first : GridNode) (others : List GridNode) (chains : List (List GridNode)) : Type 0 where
  pub steps : List Step
  pub linked : AreLinked edges cone limit first (others ++ first ∷ []) steps
  pub are : chains ≡ chains_along (first ∷ []) steps

-- the chains of a loop's nodes
abbrev pub AreRoundChains : List Seg → Cone → ℕ → List GridNode → List (List GridNode) → Type 0
AreRoundChains edges cone limit [] chains = chains ≡ []
AreRoundChains edges cone limit (first ∷ others) chains = AreChainsAround edges cone limit first others chains
