-- Where points come to stand: points of which one leaves the grid, and their numbers as the code stores them.
use Rattle.std.proofs.Common.{◌≡◌, ◌++◌, Bool, List, [], ◌∷◌, Option, Some, None, ℤ, pos, ap, ◌∙◌, refl, arith}
use Rattle.std.proofs.lemmas.Int.{ints}
use Rattle.integer_algebra.specs.Ranges.{IsUpTo}
use Rattle.plane_exact.proofs.Stored.{wide}
use Rattle.cxf_font.specs.Placing.{turned}
use Rattle.plane_exact.specs.Plane.{GridPoint}
use Rattle.arc_flatten.specs.Grid.{grid_of}
use Rattle.arc_flatten.specs.Points.{FinePoint}
use Rattle.arc_flatten.specs.Segments.{grid_points, onto, segments_along, segments_of}
use Rattle.std.specs.Prelude.{option_map}

onto-None : (first : Option GridPoint) → onto first None ≡ None
onto-None None = refl
onto-None (Some p) = refl

grid_points-none : (before : List FinePoint) (p : FinePoint) (behind : List FinePoint) → grid_of p ≡ None → grid_points (before ++ p ∷ behind) ≡ None
grid_points-none [] p behind off = ap (λ first. onto first (grid_points behind)) off
grid_points-none (q ∷ before) p behind off = ap (onto (grid_of q)) (grid_points-none before p behind off) ∙ onto-None (grid_of q)

pub segments_of-none : (before : List FinePoint) (p : FinePoint) (behind points : List FinePoint) → before ++ p ∷ behind ≡ points → grid_of p ≡ None → segments_of points ≡ None
unfolding segments_of
segments_of-none before p behind points are off = rw (← are) (ap (option_map segments_along) (grid_points-none before p behind off))

-- a number that is turned as it should be, as the code stores it
pub stored_turned : (is_turned : Bool) (z t r : ℤ) → r ≡ turned is_turned z → z ≡ t → IsUpTo (pos 20000000000000000) r → wide r ≡ turned is_turned t
stored_turned is_turned z t r value same range =
    let low = range.low in
    let high = range.high in
    let read : wide r ≡ r = omega (arith, ints) in
    read ∙ value ∙ ap (turned is_turned) same
