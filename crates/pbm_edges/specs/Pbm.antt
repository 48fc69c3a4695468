-- PBM files: bitmaps whose pixels are written as digits (P1) or packed as bits (P4).
use Rattle.std.specs.Prelude.{ℕ, ◌*◌, Bool, true, false, ◌&&◌, if◌then◌else◌, Option, Some, None, List, [], ◌∷◌, ◌++◌, length, nat_le, nat_lt, ◌==◌, Result, Ok, Err}
use Rattle.pbm_edges.specs.Header.{Heading, heading_of, is_space}
use Rattle.pbm_edges.specs.Packed.{row_bytes, unpacked}
use Rattle.pbm_edges.specs.Pixels.{Pixels}
use Rattle.pbm_edges.specs.declared.bitmap.TheConstants.{MOST_SIDE}
use Rattle.pbm_edges.specs.declared.fault.PbmFault.{PbmFault}
use Rattle.pbm_edges.specs.declared.fault.PbmFault.TheVariants.{Magic, Header, Size, Short, Pixel}
use Rattle.pbm_edges.specs.declared.magic.Packing.{Packing}
use Rattle.pbm_edges.specs.declared.magic.Packing.TheVariants.{Plain, Packed}

-- the packing that the magic number says, P1 or P4, and the text behind it
unfoldable pub magic_of : List ℕ → Option (Packing × List ℕ)
magic_of (p ∷ digit ∷ text) =
    if p == 80 && digit == 49 then Some (Plain, text)
    else if p == 80 && digit == 52 then Some (Packed, text)
    else None
magic_of _ = None

-- so many pixels, behind those before the text: a 0 or a 1 each, with white space that doesn't count; what stands behind them isn't
-- looked at
abbrev pub plain_pixels : (count : ℕ) → (before : List Bool) → List ℕ → Result (List Bool) PbmFault
plain_pixels count before [] = if nat_le count (length before) then Ok before else Err Short
plain_pixels count before (byte ∷ rest) =
    if nat_le count (length before) then Ok before
    else if is_space byte then plain_pixels count before rest
    else if byte == 48 then plain_pixels count (before ++ false ∷ []) rest
    else if byte == 49 then plain_pixels count (before ++ true ∷ []) rest
    else Err Pixel

-- the rows of packed pixels
unfoldable pub packed_pixels : (width height : ℕ) → List ℕ → Result (List Bool) PbmFault
packed_pixels width height text =
    if nat_lt (length text) (height * row_bytes width) then Err Short else Ok (unpacked width height text)

-- the pixels of an image with these sides
abbrev pub pixels_of : Packing → (width height : ℕ) → List ℕ → Result (List Bool) PbmFault
pixels_of Plain width height text = plain_pixels (height * width) [] text
pixels_of Packed width height text = packed_pixels width height text

-- a bitmap with these sides and pixels
abbrev pub with_pixels : (width height : ℕ) → Result (List Bool) PbmFault → Result Pixels PbmFault
with_pixels width height (Ok black) = Ok (record { width = width; height = height; black = black })
with_pixels width height (Err fault) = Err fault

-- a side is from 1 to 8191
abbrev pub is_size : ℕ → Bool
is_size side = nat_le 1 side && nat_le side MOST_SIDE

-- the bitmap behind its heading, where there is one
abbrev pub headed : Packing → Option Heading → Result Pixels PbmFault
headed packing None = Err Header
headed packing (Some h) =
    if is_size h.width && is_size h.height then with_pixels h.width h.height (pixels_of packing h.width h.height h.rest) else Err Size

-- the bitmap behind its magic number, where there is one
abbrev pub behind_magic : Option (Packing × List ℕ) → Result Pixels PbmFault
behind_magic None = Err Magic
behind_magic (Some (packing, text)) = headed packing (heading_of text)

-- the bitmap of a PBM file, or its first fault
unfoldable pub pbm_of : List ℕ → Result Pixels PbmFault
pbm_of bytes = behind_magic (magic_of bytes)
