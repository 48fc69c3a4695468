-- Pixels packed as bits.
use Rattle.std.specs.Prelude.{ℕ, ◌+◌, ◌-◌, ◌*◌, ◌/◌, ◌%◌, ◌^◌, Bool, List, map, slice_index, ◌==◌}
use Rattle.std.specs.List.{flat_map, range_with_len}

-- how many bytes a row of packed pixels has
abbrev pub row_bytes : (width : ℕ) → ℕ
row_bytes width = (width + 7) / 8

-- the pixel of a column, in the row that begins at this byte: eight pixels to a byte, the highest bit first
abbrev pub packed_pixel : List ℕ → (at col : ℕ) → Bool
packed_pixel text at col = slice_index text (at + col / 8) / 2 ^ (7 - col % 8) % 2 == 1

-- a row of packed pixels
abbrev pub packed_row : List ℕ → (width row : ℕ) → List Bool
packed_row text width row = map (packed_pixel text (row * row_bytes width)) (range_with_len 0 width)

-- the pixels of so many packed rows
unfoldable pub unpacked : (width height : ℕ) → List ℕ → List Bool
unpacked width height text = flat_map (packed_row text width) (range_with_len 0 height)
