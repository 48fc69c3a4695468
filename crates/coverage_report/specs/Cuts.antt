-- Which points of a lattice moves remove, as the bits of words, row by row.
use Rattle.std.specs.Prelude.{◌≡◌, ◌↔◌, ◌⊎◌, ℕ, ◌+◌, ◌*◌, ◌/◌, ◌<◌, ◌≤◌, Bool, if◌then◌else◌, List, length, slice_range, Any, ℤ, pos, ◌+ℤ◌, ◌<ℤ◌}
use Rattle.plane_exact.specs.Cone.{Cone}
use Rattle.plane_exact.specs.Plane.{GridPoint, rational}
use Rattle.plane_exact.specs.declared.moves.LineMove.{LineMove}
use Rattle.plane_exact.specs.declared.moves.Move.{Move}
use Rattle.engrave_model.specs.Removal.{Removes}
use Rattle.evenodd_region.specs.RowBits.{IsSetIn, bit_in, point_of_row}
use Rattle.coverage_report.specs.Lattices.{PointLattice, row_at}
use Rattle.coverage_report.specs.Rows.{PointRow}

-- some move removes p
abbrev pub IsCut : Cone → List LineMove → GridPoint → Type 0
IsCut cone moves p = Any (λ move. Removes cone move.mv (rational p)) moves

-- the bits that are 1 are those of the row's points that some move removes
pub record AreRowCuts (cone : Cone) (moves : List LineMove) (row : PointRow) (words : List ℕ) : Type 0 where
  pub bits : (i : ℕ) → IsSetIn words i ↔ ((i < row.count) × IsCut cone moves (point_of_row row.y row.x row.pitch i))

-- the words of the row k, where each row has so many
abbrev pub row_words : (width k : ℕ) → List ℕ → List ℕ
row_words width k words = slice_range words (k * width) ((k + 1) * width)

-- the words have the row words of each row of the lattice, one row after the other, and these tell which points moves remove
pub record AreCutsOf (cone : Cone) (moves : List LineMove) (lattice : PointLattice) (width : ℕ) (words : List ℕ) : Type 0 where
  pub wide : width ≡ (lattice.columns + 63) / 64
  pub all : length words ≡ lattice.rows * width
  pub rows : (k : ℕ) → k < lattice.rows → AreRowCuts cone moves (row_at lattice k) (row_words width k words)

-- ---- what one call adds

-- the bits that pass the test are 1, and the others are as they were
pub record IsFilled (test : ℕ → Bool) (old new : List ℕ) : Type 0 where
  pub bits : (j : ℕ) → bit_in new j ≡ (if test j then 1 else bit_in old j)

-- of the row, whose bits begin with those of the word `start`, the points that the move removes came to those that are cut
pub record IsRowCutBy (cone : Cone) (mv : Move) (row : PointRow) (start : ℕ) (old new : List ℕ) : Type 0 where
  pub here : (i : ℕ) → i < row.count → IsSetIn new (64 * start + i) ↔ (IsSetIn old (64 * start + i) ⊎ Removes cone mv (rational (point_of_row row.y row.x row.pitch i)))
  pub others : (j : ℕ) → (j < 64 * start) ⊎ ((64 * start + row.count) ≤ j) → bit_in new j ≡ bit_in old j

-- the bit i of the row k is 1
abbrev pub IsCutAt : (width k i : ℕ) → List ℕ → Type 0
IsCutAt width k i words = IsSetIn words (64 * (k * width) + i)

-- of the words of each row, the bits behind those of its points are as they were
abbrev pub AreKeptBehind : PointLattice → (width : ℕ) → (old new : List ℕ) → Type 0
AreKeptBehind lattice width old new =
    (k i : ℕ) → k < lattice.rows → lattice.columns ≤ i → i < 64 * width → bit_in new (64 * (k * width) + i) ≡ bit_in old (64 * (k * width) + i)

-- the points of the lattice of which this is so came to those that are cut
pub record AreAdded (IsSo : GridPoint → Type 0) (lattice : PointLattice) (width : ℕ) (old new : List ℕ) : Type 0 where
  pub behind : AreKeptBehind lattice width old new
  pub bits : (k i : ℕ) → k < lattice.rows → i < lattice.columns
      → IsCutAt width k i new ↔ (IsCutAt width k i old ⊎ IsSo (point_of_row (row_at lattice k).y lattice.x lattice.pitch i))

-- so many of the places at the pitch from `first` on are below the bound
pub record AreBelow (first : ℤ) (pitch count : ℕ) (bound : ℤ) (below : ℕ) : Type 0 where
  pub few : below ≤ count
  pub are : (i : ℕ) → i < count → (i < below) ↔ ((first +ℤ pos (i * pitch)) <ℤ bound)

-- a bit is 1 afterwards where it was 1 and no bit of `cut` is
pub record AreWithout (cut old new : List ℕ) : Type 0 where
  pub bits : (i : ℕ) → IsSetIn new i ↔ (IsSetIn old i × ¬ IsSetIn cut i)
