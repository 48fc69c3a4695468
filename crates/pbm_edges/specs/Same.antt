-- Pixels by their bytes: where the boundary goes on the same over many of them.
use Rattle.std.specs.Prelude.{◌≡◌, ℕ, ◌+◌, ◌-◌, ◌*◌, ◌/◌, ◌%◌, ◌^◌, ◌<◌, ◌≤◌, Bool, true, false, List, length, slice_index_or, ◌==◌}
use Rattle.pbm_edges.specs.Packed.{packed_pixel, row_bytes}
use Rattle.pbm_edges.specs.Pixels.{Pixels, is_black_at, is_black_in}

-- the bytes are the packed rows of the image
pub record IsPackedOf (image : Pixels) (bytes : List ℕ) : Type 0 where
  pub full : length bytes ≡ image.height * row_bytes image.width
  pub pixel : (col row : ℕ) → col < image.width → row < image.height → is_black_at image col row ≡ packed_pixel bytes (row * row_bytes image.width) col

-- one of the eight pixels of a byte, from the left
abbrev pub pixel_of : (byte i : ℕ) → Bool
pixel_of byte i = byte / 2 ^ (7 - i) % 2 == 1

-- the byte b of a row has the pixels of this column, counted from 1
pub record IsInByte (image : Pixels) (b x : ℕ) : Type 0 where
  pub some : 1 ≤ x
  pub within : x ≤ image.width
  pub byte : (x - 1) / 8 ≡ b

-- in the columns of the byte b the nine rows from 8 block + 1 on, counted from 1, are the same
abbrev pub IsSteady : Pixels → (block b : ℕ) → Type 0
IsSteady image block b =
    (x y : ℕ) → IsInByte image b x → 8 * block + 1 ≤ y → y ≤ 8 * block + 9 → is_black_in image x y ≡ is_black_in image x (8 * block + 1)

-- the flags, byte by byte of each eighth row, tell where the rows are the same; one that is down tells nothing
abbrev pub AreSteady : Pixels → List Bool → Type 0
AreSteady image flags = (n : ℕ) → slice_index_or flags n false ≡ true → IsSteady image (n / row_bytes image.width) (n % row_bytes image.width)
