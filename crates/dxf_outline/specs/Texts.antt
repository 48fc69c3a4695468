-- The lines of a file without the blanks at their ends.
use Rattle.std.specs.Prelude.{ℕ, List, map, filter, length, nat_lt}
use Rattle.text_lines.specs.Blanks.{unpadded}
use Rattle.text_lines.specs.Pieces.{Piece, lines_of}

-- lines of a text of this size without blanks at their ends; what begins behind the text's last line feed and has no byte is no line
abbrev pub texts_in : (size : ℕ) → List Piece → List (List ℕ)
texts_in size pieces = map (λ line. unpadded line.bytes) (filter (λ line. nat_lt line.at size) pieces)

-- the lines of a file
abbrev pub texts_of : List ℕ → List (List ℕ)
texts_of bytes = texts_in (length bytes) (lines_of bytes)
