-- What stands before the pixels of a PBM file: white space with comments, and the two sides of the image.
use Rattle.std.specs.Prelude.{ℕ, Bool, true, false, not, ◌&&◌, ◌||◌, if◌then◌else◌, Option, Some, None, List, [], ◌∷◌, nat_le, ◌==◌, take, drop, option_map}
use Rattle.std.specs.List.{prefix_len}
use Rattle.std.specs.Char.{is_ascii_digit}
use Rattle.grid_num.specs.Whole.{digits_of}
use Rattle.pbm_edges.specs.declared.header.TheConstants.{MOST_DIGITS}

-- white space: a space (32), or one from tab (9) to carriage return (13)
abbrev pub is_space : ℕ → Bool
is_space byte = byte == 32 || (nat_le 9 byte && nat_le byte 13)

-- white space, or a `#` (35), which begins a comment
abbrev pub begins_space : List ℕ → Bool
begins_space [] = false
begins_space (byte ∷ rest) = is_space byte || byte == 35

-- the text behind white space and comments; a comment, or the rest of the one that it begins within, goes up to a line feed (10)
abbrev pub behind_space : (comment : Bool) → List ℕ → List ℕ
behind_space comment [] = []
behind_space true (byte ∷ rest) = behind_space (not (byte == 10)) rest
behind_space false (byte ∷ rest) =
    if is_space byte then behind_space false rest
    else if byte == 35 then behind_space true rest
    else byte ∷ rest

-- the number of one to five digits that the text begins with, and the text behind it
abbrev pub first_number : List ℕ → Option (ℕ × List ℕ)
first_number text =
    let count = prefix_len is_ascii_digit text in
    if nat_le count MOST_DIGITS then option_map (λ number. (number, drop count text)) (digits_of (take count text)) else None

-- the same behind white space
abbrev pub next_number : List ℕ → Option (ℕ × List ℕ)
next_number text = if begins_space text then first_number (behind_space false text) else None

-- the sides of an image, and the text behind the one byte of white space that ends them
pub record Heading : Type 0 where
  pub width : ℕ
  pub height : ℕ
  pub rest : List ℕ

-- the heading with these sides, where one byte of white space ends it
abbrev pub ended : (width height : ℕ) → List ℕ → Option Heading
ended width height [] = None
ended width height (byte ∷ rest) = if is_space byte then Some (record { width = width; height = height; rest = rest }) else None

-- the heading with this width
abbrev pub with_height : (width : ℕ) → Option (ℕ × List ℕ) → Option Heading
with_height width None = None
with_height width (Some (height, rest)) = ended width height rest

-- the heading that begins with this number
abbrev pub with_width : Option (ℕ × List ℕ) → Option Heading
with_width None = None
with_width (Some (width, rest)) = with_height width (next_number rest)

-- the heading behind the magic number
unfoldable pub heading_of : List ℕ → Option Heading
heading_of text = with_width (next_number text)
