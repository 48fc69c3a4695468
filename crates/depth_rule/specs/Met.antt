-- What a move that goes below the surface meets in a drawing.
use Rattle.std.specs.Prelude.{ℕ, ◌<◌, List, length, slice_index_or, All}
use Rattle.plane_exact.specs.Cone.{Cone}
use Rattle.plane_exact.specs.declared.moves.Move.{Move}
use Rattle.plane_exact.specs.declared.point.Seg.{Seg}
use Rattle.plane_exact.specs.Moves.{first_deep}
use Rattle.swept_move.specs.Clear.{PassesEdge}
use Rattle.engrave_model.specs.Inside.{IsInside}
use Rattle.engrave_model.specs.Removal.{from_tenths}
use Rattle.depth_rule.specs.declared.met.Met.{Met}
use Rattle.depth_rule.specs.declared.met.Met.TheVariants.{Edge, Outside, Nothing}

-- the move passes the tests against each edge before this one, and not against this one
pub record IsFirstMet (edges : List Seg) (cone : Cone) (mv : Move) (e : ℕ) : Type 0 where
  pub there : e < length edges
  pub fails : (d : Seg) → ¬ PassesEdge cone mv (slice_index_or edges e d)
  pub before : (k : ℕ) (d : Seg) → k < e → PassesEdge cone mv (slice_index_or edges k d)

-- the move doesn't pass the tests against the edge of this number
abbrev pub IsMetAt : List Seg → Cone → Move → (e : ℕ) → Type 0
IsMetAt edges cone mv e = (e < length edges) × ((d : Seg) → ¬ PassesEdge cone mv (slice_index_or edges e d))

-- the move passes the tests against every edge, and its first end below the surface isn't inside
pub record IsOutside (edges : List Seg) (cone : Cone) (mv : Move) : Type 0 where
  pub passes : All (PassesEdge cone mv) edges
  pub outside : ¬ IsInside edges (from_tenths (first_deep mv))

-- the move passes the tests against every edge, and its first end below the surface is inside
pub record MeetsNothing (edges : List Seg) (cone : Cone) (mv : Move) : Type 0 where
  pub passes : All (PassesEdge cone mv) edges
  pub inside : IsInside edges (from_tenths (first_deep mv))

-- what the move meets, by each of the answers
abbrev pub IsMet : List Seg → Cone → Move → Met → Type 0
IsMet edges cone mv (Edge e) = IsFirstMet edges cone mv e
IsMet edges cone mv Outside = IsOutside edges cone mv
IsMet edges cone mv Nothing = MeetsNothing edges cone mv
