-- Links: the steps by which the bit goes from one node of a path to the next.
--
-- A link is told by the first of these cases that applies: the nodes are one; both are at the surface; the move between them is
-- clear; it isn't, and its way may not be halved; its way may, and two links join the halves.
use Rattle.std.specs.Prelude.{◌≡◌, ◌≢◌, ◌⊎◌, ℕ, zero, suc, List, [], ◌∷◌, ◌++◌}
use Rattle.plane_exact.specs.Cone.{Cone}
use Rattle.plane_exact.specs.Nodes.{GridNode}
use Rattle.plane_exact.specs.declared.point.Seg.{Seg}
use Rattle.swept_move.specs.Clear.{IsClear}
use Rattle.engrave_model.specs.Lists.{AreJoined}
use Rattle.depth_rule.specs.Along.{move_between}
use Rattle.link_split.specs.Midway.{HasNoMidway, IsMidway}
use Rattle.link_split.specs.declared.step.Step.{Step}
use Rattle.link_split.specs.declared.step.Step.TheVariants.{To, Lift}

-- both nodes are at the surface
pub record AreAtSurface (p q : GridNode) : Type 0 where
  pub first : p.depth ≡ 0
  pub second : q.depth ≡ 0

-- the nodes are one: there is no step
pub record IsNoLink (p q : GridNode) (steps : List Step) : Type 0 where
  pub same : p ≡ q
  pub none : steps ≡ []

-- they differ, and both are at the surface: a lift to the second
pub record IsSurfaceLink (p q : GridNode) (steps : List Step) : Type 0 where
  pub differ : p ≢ q
  pub surface : AreAtSurface p q
  pub lift : steps ≡ Lift q ∷ []

-- they differ, one is below the surface, and the move between them is clear: straight to the second
pub record IsStraightLink (edges : List Seg) (cone : Cone) (p q : GridNode) (steps : List Step) : Type 0 where
  pub differ : p ≢ q
  pub deep : ¬ AreAtSurface p q
  pub clear : IsClear edges cone (move_between p q)
  pub straight : steps ≡ To q ∷ []

-- the nodes differ, one is below the surface, and the move between them isn't clear
pub record IsObstructed (edges : List Seg) (cone : Cone) (p q : GridNode) : Type 0 where
  pub differ : p ≢ q
  pub deep : ¬ AreAtSurface p q
  pub meets : ¬ IsClear edges cone (move_between p q)

-- the way is obstructed and may not be halved, which is `Whole`: a lift to the second node
pub record IsLiftedLink (edges : List Seg) (cone : Cone) (p q : GridNode) (Whole : Type 0) (steps : List Step) : Type 0 where
  pub obstructed : IsObstructed edges cone p q
  pub whole : Whole
  pub lift : steps ≡ Lift q ∷ []

-- the way is obstructed and may be halved: a link to the node halfway, each a `Half`, and then one from there
pub record IsHalvedLink (edges : List Seg) (cone : Cone) (limit : ℕ) (Half : GridNode → GridNode → List Step → Type 0) (p q : GridNode) (steps : List Step) : Type 0 where
  pub obstructed : IsObstructed edges cone p q
  pub mid : GridNode
  pub midway : IsMidway edges cone limit p q mid
  pub halves : AreJoined (Half p mid) (Half mid q) steps

-- the cases in which the way isn't obstructed
abbrev pub IsFreeLink : List Seg → Cone → GridNode → GridNode → List Step → Type 0
IsFreeLink edges cone p q steps = IsNoLink p q steps ⊎ (IsSurfaceLink p q steps ⊎ IsStraightLink edges cone p q steps)

-- the steps of the link from p to q, whose way may be halved so many times
unfoldable pub IsLink : List Seg → Cone → ℕ → ℕ → GridNode → GridNode → List Step → Type 0
IsLink edges cone limit zero p q steps = IsFreeLink edges cone p q steps ⊎ IsLiftedLink edges cone p q (Unit {0}) steps
IsLink edges cone limit (suc halvings) p q steps =
    IsFreeLink edges cone p q steps
    ⊎ (IsLiftedLink edges cone p q (HasNoMidway edges cone limit p q) steps
    ⊎ IsHalvedLink edges cone limit (IsLink edges cone limit halvings) p q steps)

-- steps of this kind were put behind the old ones
pub record IsGrownBy (Added : List Step → Type 0) (old new : List Step) : Type 0 where
  pub added : List Step
  pub grown : new ≡ old ++ added
  pub is : Added added
