-- Bitmaps, and the colours of their pixels.
use Rattle.std.specs.Prelude.{ℕ, ◌+◌, ◌-◌, ◌*◌, ◌≤◌, Bool, false, ◌&&◌, List, nat_le, slice_index_or}
use Rattle.pbm_edges.specs.declared.bitmap.TheConstants.{MOST_SIDE}

-- a bitmap: which of its pixels are black, row by row from the top, and from left to right in a row
pub record Pixels : Type 0 where
  pub width : ℕ
  pub height : ℕ
  pub black : List Bool

-- the ranges of the sides
pub record IsBitmap (image : Pixels) : Type 0 where
  pub narrow : 1 ≤ image.width
  pub wide : image.width ≤ MOST_SIDE
  pub low : 1 ≤ image.height
  pub high : image.height ≤ MOST_SIDE

-- the pixel of this column and row, from 0, is black
abbrev pub is_black_at : Pixels → (col row : ℕ) → Bool
is_black_at image col row = slice_index_or image.black (row * image.width + col) false

-- the same for columns and rows counted from 1; beyond the image all is white
abbrev pub is_black_in : Pixels → (x y : ℕ) → Bool
is_black_in image x y = nat_le 1 x && nat_le x image.width && nat_le 1 y && nat_le y image.height && is_black_at image (x - 1) (y - 1)
