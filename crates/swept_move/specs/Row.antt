-- What a move removes of a row of grid points, and the rows that it can reach.
use Rattle.std.specs.Prelude.{ℤ, ◌≤ℤ◌}
use Rattle.plane_exact.specs.Cone.{Cone}
use Rattle.plane_exact.specs.Plane.{GridPoint, rational}
use Rattle.plane_exact.specs.declared.moves.Move.{Move}
use Rattle.engrave_model.specs.Removal.{Removes}

-- some moment of the move removes the point (x, y)
abbrev pub RemovesAt : Cone → Move → (y x : ℤ) → Type 0
RemovesAt cone mv y x = Removes cone mv (rational (record { x = x; y = y }))

-- of the points of the row y from x0 to x1 the move removes those from first to last, and no others
pub record IsRowCut (cone : Cone) (mv : Move) (y x0 x1 first last : ℤ) : Type 0 where
  pub low : x0 ≤ℤ first
  pub some : first ≤ℤ last
  pub high : last ≤ℤ x1
  pub removes : (x : ℤ) → first ≤ℤ x → x ≤ℤ last → RemovesAt cone mv y x
  pub first_least : (x : ℤ) → x0 ≤ℤ x → x ≤ℤ x1 → RemovesAt cone mv y x → first ≤ℤ x
  pub last_greatest : (x : ℤ) → x0 ≤ℤ x → x ≤ℤ x1 → RemovesAt cone mv y x → x ≤ℤ last

-- it removes none of them
abbrev pub IsRowSpared : Cone → Move → (y x0 x1 : ℤ) → Type 0
IsRowSpared cone mv y x0 x1 = (x : ℤ) → x0 ≤ℤ x → x ≤ℤ x1 → ¬ RemovesAt cone mv y x

-- what the move removes of the grid lies in the rows from low to high
abbrev pub IsBand : Cone → Move → (low high : ℤ) → Type 0
IsBand cone mv low high = (p : GridPoint) → Removes cone mv (rational p) → (low ≤ℤ p.y) × (p.y ≤ℤ high)
