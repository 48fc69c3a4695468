-- What a move removes is convex: with two points it removes each point between them.
use Rattle.plane_exact.specs.Cone.{Cone}
use Rattle.plane_exact.specs.Plane.{IsOnPath, RationalPoint}
use Rattle.plane_exact.specs.declared.moves.Move.{Move}
use Rattle.engrave_model.specs.Removal.{Removes}

-- a point between two that a move removes, be it at different moments, is removed at some moment too
abbrev pub ConvexLaw : Type 0
ConvexLaw = (cone : Cone) (mv : Move) (v w u : RationalPoint) → IsOnPath v w u → Removes cone mv v → Removes cone mv w → Removes cone mv u
