-- Nodes along which the bit may go: each is no deeper than fits, and each move from one to the next is clear.
use Rattle.std.specs.Prelude.{ℕ, List, [], ◌∷◌, All}
use Rattle.plane_exact.specs.Cone.{Cone}
use Rattle.plane_exact.specs.Nodes.{GridNode, node_place}
use Rattle.plane_exact.specs.declared.moves.Move.{Move}
use Rattle.plane_exact.specs.declared.point.Seg.{Seg}
use Rattle.engrave_model.specs.Depth.{Fits}
use Rattle.swept_move.specs.Clear.{IsClear}

-- the straight move from one node to another, in tenths of a grid unit
abbrev pub move_between : GridNode → GridNode → Move
move_between p q = record { from = node_place p; to = node_place q }

-- each move along the nodes is clear
abbrev pub IsClearAlong : List Seg → Cone → List GridNode → Type 0
IsClearAlong edges cone [] = Unit {0}
IsClearAlong edges cone (p ∷ []) = Unit {0}
IsClearAlong edges cone (p ∷ q ∷ nodes) = IsClear edges cone (move_between p q) × IsClearAlong edges cone (q ∷ nodes)

-- each node fits, and each move along them is clear
pub record IsSound (edges : List Seg) (cone : Cone) (limit : ℕ) (nodes : List GridNode) : Type 0 where
  pub fits : All (λ node. Fits edges cone limit node.at node.depth) nodes
  pub clear : IsClearAlong edges cone nodes
