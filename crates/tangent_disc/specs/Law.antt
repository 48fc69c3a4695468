-- A disc that touches the outline at a contact holds every lesser one.
use Rattle.std.specs.Prelude.{ℕ, ◌≤◌, List, pos, ◌≤ℤ◌}
use Rattle.plane_exact.specs.declared.point.Seg.{Seg}
use Rattle.tangent_disc.specs.Tangent.{IsFree}
use Rattle.tangent_disc.specs.declared.disc.Side.{Side}
use Rattle.tangent_disc.specs.declared.edge_point.EdgePoint.{EdgePoint}

-- where a number is free on a side, every lesser one is free on it
abbrev pub LessFreeLaw : Type 0
LessFreeLaw = (edges : List Seg) (side : Side) (p : EdgePoint) → pos 0 ≤ℤ p.length → (i j : ℕ) → i ≤ j → IsFree edges side p j → IsFree edges side p i
