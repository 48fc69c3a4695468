-- The character whose glyph a line begins: what stands behind its '['.
use Rattle.std.specs.Prelude.{ℕ, Bool, ◌&&◌, ◌||◌, if◌then◌else◌, Option, Some, None, List, [], ◌∷◌, take, drop, length, nat_le, nat_lt, ◌==◌, Result, Ok, Err}
use Rattle.std.specs.Char.{is_digit, len_utf8}
use Rattle.std.specs.List.{list_all, position, slice_get}
use Rattle.std.specs.Str.{chars}
use Rattle.std.specs.Str.Lossy.{utf8_valid_len}
use Rattle.std.specs.Str.Parse.{digits_value}
use Rattle.cxf_font.specs.declared.fault.CxfKind.{CxfKind}
use Rattle.cxf_font.specs.declared.fault.CxfKind.TheVariants.{Syntax}

-- a ']'
abbrev pub is_bracket : ℕ → Bool
is_bracket byte = byte == 93

-- the number is that of a Unicode character, which a surrogate isn't
abbrev pub is_character : ℕ → Bool
is_character number = nat_lt number 0xD800 || (nat_le 0xE000 number && nat_le number 0x10FFFF)

-- the number that one to six hexadecimal digits write
unfoldable pub hexadecimal_of : List ℕ → Option ℕ
hexadecimal_of digits =
    if nat_le 1 (length digits) && nat_le (length digits) 6 && list_all (λ digit. is_digit digit 16) digits
    then Some (digits_value 16 digits) else None

-- the number of a text that begins with hexadecimal digits and a ']'
abbrev pub number_in_brackets : List ℕ → Option ℕ
number_in_brackets text = until (position is_bracket text)
  where
    until : Option ℕ → Option ℕ
    until None = None
    until (Some end) = hexadecimal_of (take end text)

-- the number of a text that begins with a '#' (35), hexadecimal digits and a ']'
abbrev pub number_of : List ℕ → Option ℕ
number_of [] = None
number_of (byte ∷ rest) = if byte == 35 then number_in_brackets rest else None

-- the first byte as the character of its number
abbrev pub first_byte : List ℕ → Option (ℕ × List ℕ)
first_byte [] = None
first_byte (byte ∷ rest) = Some (byte, rest)

-- The first character of a text, and what stands behind it: the first one of the longest front that is UTF-8, or where no character
-- begins so, the first byte.
unfoldable pub first_character : List ℕ → Option (ℕ × List ℕ)
first_character text = begun_by (slice_get (chars (take (utf8_valid_len text) text)) 0)
  where
    begun_by : Option ℕ → Option (ℕ × List ℕ)
    begun_by None = first_byte text
    begun_by (Some character) = Some (character, drop (len_utf8 character) text)

-- a character before a ']'
abbrev pub bracketed : Option (ℕ × List ℕ) → Result ℕ CxfKind
bracketed None = Err Syntax
bracketed (Some (character, [])) = Err Syntax
bracketed (Some (character, byte ∷ rest)) = if is_bracket byte then Ok character else Err Syntax

-- the character by its number in brackets, or else the one character in them; what stands behind the ']' isn't looked at
abbrev pub key_of : List ℕ → Result ℕ CxfKind
key_of text = named (number_of text)
  where
    named : Option ℕ → Result ℕ CxfKind
    named (Some number) = if is_character number then Ok number else Err Syntax
    named None = bracketed (first_character text)
