-- A walk of the bit from place to place: the moves that it makes, and where it is.
use Rattle.std.specs.Prelude.{Option, Some, None, List, [], ◌∷◌, ◌++◌, map}
use Rattle.plane_exact.specs.Heights.{GridPlace}
use Rattle.plane_exact.specs.declared.moves.LineMove.{LineMove}

-- the places of a walk: where each of its moves begins, and where the bit is
abbrev pub places_of : List LineMove → Option GridPlace → List GridPlace
places_of moves None = []
places_of moves (Some at) = map (λ made. made.mv.from) moves ++ at ∷ []
