-- The moves along strokes.
use Rattle.std.specs.Prelude.{ℕ}
use Rattle.plane_exact.specs.Nodes.{node_place}
use Rattle.plane_exact.specs.declared.moves.LineMove.{LineMove}
use Rattle.plane_exact.specs.declared.point.Seg.{Seg}
use Rattle.stroke_engrave.specs.Chains.{node_at}

-- the move along the stroke at the depth
abbrev pub stroke_move : (depth : ℕ) → Seg → LineMove
stroke_move depth stroke = record { line = 1; mv = record { from = node_place (node_at depth stroke.a); to = node_place (node_at depth stroke.b) } }
