-- What the chains of a pocket are worth.
use Rattle.std.specs.Prelude.{◌≤◌, ℕ, List, All}
use Rattle.plane_exact.specs.Cone.{Cone}
use Rattle.plane_exact.specs.Nodes.{GridNode}
use Rattle.plane_exact.specs.Plane.{GridPoint}
use Rattle.engrave_model.specs.Drawing.{edges_of}
use Rattle.depth_rule.specs.Along.{IsSound}
use Rattle.cleanup_pocket.specs.Pocket.{IsPocket}
use Rattle.cleanup_pocket.specs.declared.axis.Way.{Way}

-- at each node of a pocket the depth fits, and each move along a chain of it is clear, for a bit of some width
abbrev pub PocketLaw : Type 0
PocketLaw =
    (loops : List (List GridPoint)) (cone : Cone) (limit over : ℕ) (way : Way) (chains : List (List GridNode)) → 1 ≤ cone.sn
    → IsPocket loops cone limit over way chains → All (IsSound (edges_of loops) cone limit) chains
