-- What a bitmap keeps of its pixels.
use Rattle.std.specs.Prelude.{◌≡◌, ℕ, ◌*◌, ◌≤◌, Bool, List, length}
use Rattle.pbm_edges.specs.Packed.{row_bytes, unpacked}
use Rattle.pbm_edges.specs.declared.bitmap.TheConstants.{MOST_SIDE}
use Rattle.pbm_edges.specs.declared.cells.Cells.{Cells}
use Rattle.pbm_edges.specs.declared.cells.Cells.TheVariants.{Plain, Packed}

-- which pixels are black, row by row
abbrev pub black_of : (width height : ℕ) → Cells → List Bool
black_of width height (Plain pixels) = pixels.items
black_of width height (Packed rows) = unpacked width height rows.items

-- there is a colour for each pixel
abbrev pub IsFull : (width height : ℕ) → Cells → Type 0
IsFull width height (Plain pixels) = length pixels.items ≡ height * width
IsFull width height (Packed rows) = length rows.items ≡ height * row_bytes width

-- the ranges of the sides, and that there is a colour for each pixel
pub record IsStored (width height : ℕ) (cells : Cells) : Type 0 where
  pub narrow : 1 ≤ width
  pub wide : width ≤ MOST_SIDE
  pub low : 1 ≤ height
  pub high : height ≤ MOST_SIDE
  pub full : IsFull width height cells
