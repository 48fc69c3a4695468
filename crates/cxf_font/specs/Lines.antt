-- What a line of a font says: it is skipped, it begins a glyph, or it draws an element.
use Rattle.std.specs.Prelude.{ℕ, Bool, true, false, if◌then◌else◌, Option, Some, None, List, [], ◌∷◌, map, take, drop, ℤ, bytes_eq, codes, ◌==◌, Result, Ok, Err}
use Rattle.std.specs.List.{position}
use Rattle.text_lines.specs.Pieces.{is_blank, pieces}
use Rattle.grid_num.specs.Judging.{and_then}
use Rattle.grid_num.specs.Real.{real_times}
use Rattle.grid_num.specs.declared.decimal.NumFault.{NumFault}
use Rattle.text_lines.specs.Blanks.{unpadded}
use Rattle.cxf_font.specs.Elements.{is_angle, is_length, is_radius}
use Rattle.cxf_font.specs.Keys.{key_of}
use Rattle.cxf_font.specs.declared.element.Element.{Element}
use Rattle.cxf_font.specs.declared.element.Element.TheVariants as element
use Rattle.cxf_font.specs.declared.fault.CxfKind.{CxfKind}
use Rattle.cxf_font.specs.declared.fault.CxfKind.TheVariants.{Syntax, Number}
use Rattle.cxf_font.specs.declared.line.FontLine.{FontLine}
use Rattle.cxf_font.specs.declared.line.FontLine.TheVariants.{Skipped, Begins, Draws}

-- the fields of a text between its commas (44), without blanks at their ends
abbrev pub fields_of : List ℕ → List (List ℕ)
fields_of text = map (λ piece. unpadded piece.bytes) (pieces (λ byte. byte == 44) 0 text)

-- a number that was read, where it is in its range
abbrev pub in_range : (ℤ → Bool) → Result ℤ NumFault → Result ℤ CxfKind
in_range fits (Ok z) = if fits z then Ok z else Err Number
in_range fits (Err fault) = Err Number

-- the number of a field in millionths, where it is in its range
abbrev pub number_in : (ℤ → Bool) → List ℕ → Result ℤ CxfKind
number_in fits field = in_range fits (real_times 1000000 field)

-- the line of four fields
unfoldable pub line_of : List (List ℕ) → Result Element CxfKind
line_of (f ∷ g ∷ h ∷ i ∷ []) =
    and_then (number_in is_length f) (λ x1.
    and_then (number_in is_length g) (λ y1.
    and_then (number_in is_length h) (λ x2.
    and_then (number_in is_length i) (λ y2. Ok (element.Line x1 y1 x2 y2)))))
line_of _ = Err Syntax

-- the arc of five fields
unfoldable pub arc_of : (clockwise : Bool) → List (List ℕ) → Result Element CxfKind
arc_of clockwise (f ∷ g ∷ h ∷ i ∷ j ∷ []) =
    and_then (number_in is_length f) (λ cx.
    and_then (number_in is_length g) (λ cy.
    and_then (number_in is_radius h) (λ r.
    and_then (number_in is_angle i) (λ a1.
    and_then (number_in is_angle j) (λ a2. Ok (element.Arc cx cy r a1 a2 clockwise))))))
arc_of clockwise _ = Err Syntax

-- the element of a letter and its fields
abbrev pub element_by : (letter : List ℕ) → List (List ℕ) → Result Element CxfKind
element_by letter fields =
    if bytes_eq letter (codes "L") then line_of fields
    else if bytes_eq letter (codes "A") then arc_of false fields
    else if bytes_eq letter (codes "AR") then arc_of true fields
    else Err Syntax

-- the element of a line: what stands before its first blank, and its fields behind that
unfoldable pub element_of : List ℕ → Result Element CxfKind
element_of text = split_at (position is_blank text)
  where
    split_at : Option ℕ → Result Element CxfKind
    split_at None = Err Syntax
    split_at (Some blank) = element_by (take blank text) (fields_of (drop blank text))

-- What a line without blanks at its ends says, behind the begin of a glyph or before the first: it is skipped where it is empty,
-- begins with a '#' (35), or stands before the first glyph and doesn't begin with a '[' (91).
abbrev pub stripped_line : (begun : Bool) → List ℕ → Result FontLine CxfKind
stripped_line begun [] = Ok Skipped
stripped_line begun (byte ∷ rest) =
    if byte == 35 then Ok Skipped
    else if byte == 91 then and_then (key_of rest) (λ key. Ok (Begins key))
    else if begun then and_then (element_of (byte ∷ rest)) (λ element. Ok (Draws element))
    else Ok Skipped

-- what a line says, behind the begin of a glyph or before the first
abbrev pub font_line : (begun : Bool) → List ℕ → Result FontLine CxfKind
font_line begun text = stripped_line begun (unpadded text)
