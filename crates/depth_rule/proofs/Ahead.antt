-- The numbers that are still to come in a loop over the edges near a box are numbers of edges.
use Rattle.std.specs.Prelude.{All, slice_index_or}
use Rattle.std.specs.List.{slice_get}
use Rattle.std.proofs.Common.{◌≡◌, ℕ, ◌<◌, List, ◌∷◌, length, Some, subst, sym}
use Rattle.std.proofs.lemmas.List.Elements.{All-head, All-tail}
use Rattle.std.proofs.lemmas.Option.{get_or_from_slice_get}
use Rattle.plane_exact.specs.declared.point.Seg.{Seg}
use Rattle.lane_kernels.specs.declared.boxes.Rect.{Rect}
use Rattle.segment_grid.specs.Near.{AreNear}
use Rattle.segment_grid.proofs.NearLaws.{near_there}

-- each is the number of an edge
abbrev pub AreNumbers : List Seg → List ℕ → Type 0
AreNumbers edges left = All (λ e. e < length edges) left

pub begun_ahead : (edges : List Seg) (q : Rect) (ns all : List ℕ) → AreNear edges q ns → all ≡ ns → AreNumbers edges all
begun_ahead edges q ns all near is = subst (AreNumbers edges) (sym is) (near_there q edges ns near)

module _ (edges : List Seg) (e : ℕ) (all left : List ℕ) (first : all ≡ e ∷ left) (ahead : AreNumbers edges all) where
  pub first_there : e < length edges
  first_there = All-head (λ e. e < length edges) e left (subst (AreNumbers edges) first ahead)

  pub rest_ahead : AreNumbers edges left
  rest_ahead = All-tail (λ e. e < length edges) e left (subst (AreNumbers edges) first ahead)

-- the edge that the code read is the one of that number
pub edge_at : (edges : List Seg) (e : ℕ) (edge : Seg) → slice_get edges e ≡ Some edge → (d : Seg) → slice_index_or edges e d ≡ edge
edge_at edges e edge read d = get_or_from_slice_get edges e edge d read
