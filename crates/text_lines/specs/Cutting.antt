-- What is still to come of a text that is being cut.
use Rattle.std.specs.Prelude.{ℕ, Bool, Option, Some, None, List, [], not, ◌==◌}
use Rattle.text_lines.specs.Pieces.{Piece, pieces, is_blank, is_empty, without_return}
use Rattle.text_lines.specs.declared.pieces.Piece.{Piece as Part}
use Rattle.text_lines.specs.declared.pieces.Separator.{Separator}
use Rattle.text_lines.specs.declared.pieces.Separator.TheVariants.{Byte, Blank}

-- the byte separates
abbrev pub separates : Separator → ℕ → Bool
separates (Byte separator) byte = byte == separator
separates Blank byte = is_blank byte

-- a part of a text, as a piece
abbrev pub piece_of : Part → Piece
piece_of part = record { at = part.at; bytes = part.bytes.now }

-- the pieces of what isn't cut yet
abbrev pub pieces_left : Separator → Option Part → List Piece
pieces_left separator None = []
pieces_left separator (Some rest) = pieces (separates separator) rest.at rest.bytes.now

-- a line whose carriage return, if it ends with one, is no part of it
abbrev pub trimmed : Piece → Piece
trimmed line = record { at = line.at; bytes = without_return line.bytes }

-- a piece between blanks that isn't empty
abbrev pub is_word : Piece → Bool
is_word piece = not (is_empty piece.bytes)
