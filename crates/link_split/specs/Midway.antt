-- The node halfway between two nodes of a path.
use Rattle.std.specs.Prelude.{◌≡◌, ◌≢◌, ◌⊎◌, ℕ, List, ℤ, pos, ◌+ℤ◌, ◌*ℤ◌, ◌≤ℤ◌, ◌<ℤ◌}
use Rattle.plane_exact.specs.Cone.{Cone}
use Rattle.plane_exact.specs.Nodes.{GridNode}
use Rattle.plane_exact.specs.Plane.{GridPoint}
use Rattle.plane_exact.specs.declared.point.Seg.{Seg}
use Rattle.engrave_model.specs.Depth.{IsGreatestDepth}

-- the numbers differ by at most 1
pub record IsWithinOne (a b : ℤ) : Type 0 where
  pub low : a ≤ℤ (b +ℤ pos 1)
  pub high : b ≤ℤ (a +ℤ pos 1)

-- neither coordinate differs by more than 1
pub record AreNeighbours (p q : GridPoint) : Type 0 where
  pub across : IsWithinOne p.x q.x
  pub up : IsWithinOne p.y q.y

-- m is the floor of half the sum of a and b
pub record IsHalf (a b m : ℤ) : Type 0 where
  pub low : (pos 2 *ℤ m) ≤ℤ (a +ℤ b)
  pub high : (a +ℤ b) <ℤ (pos 2 *ℤ m +ℤ pos 2)

-- the node is as deep as fits at its point
abbrev pub IsDeepest : List Seg → Cone → ℕ → GridNode → Type 0
IsDeepest edges cone limit node = IsGreatestDepth edges cone limit node.at node.depth

-- mid is halfway between p and q, rounded down in each coordinate, and as deep as fits there
pub record IsHalfway (edges : List Seg) (cone : Cone) (limit : ℕ) (p q mid : GridNode) : Type 0 where
  pub across : IsHalf p.at.x q.at.x mid.at.x
  pub up : IsHalf p.at.y q.at.y mid.at.y
  pub depth : IsDeepest edges cone limit mid

-- the way from p to q may be halved at mid: the points aren't neighbours, and some depth fits halfway
pub record IsMidway (edges : List Seg) (cone : Cone) (limit : ℕ) (p q mid : GridNode) : Type 0 where
  pub apart : ¬ AreNeighbours p.at q.at
  pub halfway : IsHalfway edges cone limit p q mid
  pub deep : mid.depth ≢ 0

-- the way from p to q may not be halved: the points are neighbours, or only the depth 0 fits halfway
abbrev pub HasNoMidway : List Seg → Cone → ℕ → GridNode → GridNode → Type 0
HasNoMidway edges cone limit p q = AreNeighbours p.at q.at ⊎ ((mid : GridNode) → IsHalfway edges cone limit p q mid → mid.depth ≡ 0)
