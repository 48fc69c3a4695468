-- The pairs of a file: each a line with a code and a line with a value, up to the pair that ends the file.
use Rattle.std.specs.Prelude.{ℕ, ◌+◌, Bool, ◌&&◌, if◌then◌else◌, Option, Some, None, List, [], ◌∷◌, length, ℤ, pos, nat_le, ◌==◌, bytes_eq, codes, Result, Ok, Err}
use Rattle.std.specs.Ordering.{int_eq}
use Rattle.grid_num.specs.Judging.{and_then}
use Rattle.grid_num.specs.Whole.{minus, whole_of}
use Rattle.dxf_outline.specs.Texts.{texts_of}
use Rattle.dxf_outline.specs.declared.fault.DxfFault.{DxfFault}
use Rattle.dxf_outline.specs.declared.fault.DxfKind.TheVariants.{BadCode, Unended}

-- the pair with this number, from 1
pub record Pair : Type 0 where
  pub at : ℕ
  pub code : ℤ
  pub value : List ℕ

-- pairs in order, and how the file ends: by the pair that ends it, or with a fault
pub data Stream : Type 0 where
  Over : Stream
  Broken : DxfFault → Stream
  Next : Pair → Stream → Stream

-- what stands behind a minus
abbrev pub without_minus : List ℕ → List ℕ
without_minus [] = []
without_minus (byte ∷ rest) = if byte == minus then rest else byte ∷ rest

-- a code: an optional minus and one to four digits
abbrev pub code_of : List ℕ → Option ℤ
code_of text = if nat_le (length (without_minus text)) 4 then whole_of text else None

-- the pair has this code
abbrev pub has_code : ℕ → Pair → Bool
has_code code pair = int_eq pair.code (pos code)

-- the pair is this one
abbrev pub is_pair : ℕ → List ℕ → Pair → Bool
is_pair code value pair = has_code code pair && bytes_eq pair.value value

-- a pair before others; the pair 0 EOF ends the file
abbrev pub and_pairs : Pair → Stream → Stream
and_pairs pair rest = if is_pair 0 (codes "EOF") pair then Over else Next pair rest

-- a pair by its number, its code, if that is one, and its value, before others
abbrev pub with_pair : (at : ℕ) → Option ℤ → List ℕ → Stream → Stream
with_pair at None value rest = Broken (record { pair = at; kind = BadCode })
with_pair at (Some code) value rest = and_pairs (record { at = at; code = code; value = value }) rest

-- a last line that should be a code and has no value behind it
abbrev pub cut_off : (at : ℕ) → Option ℤ → Stream
cut_off at None = Broken (record { pair = at; kind = BadCode })
cut_off at (Some code) = Broken (record { pair = at; kind = Unended })

-- the pairs of the lines, numbered from `at`
abbrev pub pairs_from : (at : ℕ) → List (List ℕ) → Stream
pairs_from at [] = Broken (record { pair = at; kind = Unended })
pairs_from at (code ∷ []) = cut_off at (code_of code)
pairs_from at (code ∷ value ∷ lines) = with_pair at (code_of code) value (pairs_from (at + 1) lines)

-- the pairs of a file
abbrev pub pairs_of : List ℕ → Stream
pairs_of bytes = pairs_from 1 (texts_of bytes)

-- how many pairs there are
abbrev pub count_of : Stream → ℕ
count_of Over = 0
count_of (Broken fault) = 0
count_of (Next pair rest) = count_of rest + 1

-- The pairs of the entity that has begun, up to the next pair of code 0 or the end; the fault where the file breaks off before that.
unfoldable pub fields_of : Stream → Result (List Pair) DxfFault
fields_of Over = Ok []
fields_of (Broken fault) = Err fault
fields_of (Next pair rest) = if has_code 0 pair then Ok [] else and_then (fields_of rest) (λ fields. Ok (pair ∷ fields))
