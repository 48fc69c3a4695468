-- The values of an entity: what the value of a pair reads as, and which of an entity's pairs count.
use Rattle.std.specs.Prelude.{ℕ, ◌*◌, ◌/◌, ◌%◌, Bool, true, false, if◌then◌else◌, Option, Some, None, List, [], ◌∷◌, filter, find, is_none, map, option_map, ℤ, pos, nat_le, unsigned_abs, ◌==◌, ◌||◌, Result, Ok, Err}
use Rattle.std.specs.List.{last_or, list_any}
use Rattle.std.specs.Ordering.{int_eq}
use Rattle.grid_num.specs.Real.{real_times}
use Rattle.grid_num.specs.Whole.{digits_of}
use Rattle.grid_num.specs.declared.decimal.NumFault.{NumFault}
use Rattle.grid_num.specs.declared.decimal.NumFault.TheVariants as fault
use Rattle.dxf_outline.specs.Pairs.{Pair, has_code}
use Rattle.dxf_outline.specs.declared.values.Reading.{Reading}
use Rattle.dxf_outline.specs.declared.values.Reading.TheVariants.{Unreadable, TooLarge, Number}
use Rattle.dxf_outline.specs.declared.slots.Shape.{Shape}
use Rattle.dxf_outline.specs.declared.slots.Shape.TheVariants.{Line, Circle, Arc, Polyline, Vertex}
use Rattle.dxf_outline.specs.declared.slots.Slots.{Slots}

-- the reading of a number, or of the fault in its place
abbrev pub reading_of : Result ℤ NumFault → Reading
reading_of (Ok z) = Number z
reading_of (Err fault.OutOfRange) = TooLarge
reading_of (Err _) = Unreadable

-- code 70: one to nine digits
abbrev pub flags_reading : Option ℕ → Reading
flags_reading None = Unreadable
flags_reading (Some n) = Number (pos n)

-- how many parts the unit of a code's values has: bulges (42) 2^30, angles (50, 51) a million, lengths a thousand a grid unit
abbrev pub scale_of : (per_unit : ℕ) → ℤ → ℕ
scale_of per_unit code = if int_eq code (pos 42) then 1073741824 else if int_eq code (pos 50) || int_eq code (pos 51) then 1000000 else 1000 * per_unit

-- what a value reads as behind its code
abbrev pub reading : (per_unit : ℕ) → ℤ → List ℕ → Reading
reading per_unit code text = if int_eq code (pos 70) then flags_reading (digits_of text) else reading_of (real_times (scale_of per_unit code) text)

-- the codes that are looked at in each kind of entity
abbrev pub named_codes : Shape → List ℕ
named_codes Line = 10 ∷ 11 ∷ 20 ∷ 21 ∷ []
named_codes Circle = 10 ∷ 20 ∷ 40 ∷ []
named_codes Arc = 10 ∷ 20 ∷ 40 ∷ 50 ∷ 51 ∷ []
named_codes Polyline = 70 ∷ []
named_codes Vertex = 10 ∷ 20 ∷ 42 ∷ 70 ∷ []

-- the codes that each kind of entity needs, in ascending order
abbrev pub needed_codes : Shape → List ℕ
needed_codes Line = 10 ∷ 11 ∷ 20 ∷ 21 ∷ []
needed_codes Circle = 10 ∷ 20 ∷ 40 ∷ []
needed_codes Arc = 10 ∷ 20 ∷ 40 ∷ 50 ∷ 51 ∷ []
needed_codes Polyline = []
needed_codes Vertex = 10 ∷ 20 ∷ []

-- the code is looked at in this kind of entity
abbrev pub is_named : Shape → ℤ → Bool
is_named shape code = list_any (λ named. int_eq code (pos named)) (named_codes shape)

-- the value can't be read
abbrev pub is_unreadable : Reading → Bool
is_unreadable Unreadable = true
is_unreadable _ = false

-- the number of the first pair whose value can't be read
abbrev pub first_unreadable : (per_unit : ℕ) → List Pair → Option ℕ
first_unreadable per_unit fields = option_map (λ pair. pair.at) (find (λ pair. is_unreadable (reading per_unit pair.code pair.value)) fields)

-- the reading of the last pair that has the code
abbrev pub last_reading : (per_unit code : ℕ) → List Pair → Option Reading
last_reading per_unit code fields = last_or None (map (λ pair. reading per_unit pair.code pair.value) (filter (has_code code) fields))

-- what an entity's pairs of named codes say: the first that can't be read, also of code 70 alone, and the last reading of each code
unfoldable pub slots_with : (per_unit : ℕ) → List Pair → Slots
slots_with per_unit fields = record {
  unreadable = first_unreadable per_unit fields;
  unreadable_flags = first_unreadable per_unit (filter (has_code 70) fields);
  x = last_reading per_unit 10 fields;
  end_x = last_reading per_unit 11 fields;
  y = last_reading per_unit 20 fields;
  end_y = last_reading per_unit 21 fields;
  radius = last_reading per_unit 40 fields;
  bulge = last_reading per_unit 42 fields;
  from = last_reading per_unit 50 fields;
  to = last_reading per_unit 51 fields;
  flags = last_reading per_unit 70 fields;
}

-- what an entity's pairs say, of which only those of named codes count
abbrev pub slots_of : Shape → (per_unit : ℕ) → List Pair → Slots
slots_of shape per_unit fields = slots_with per_unit (filter (λ pair. is_named shape pair.code) fields)

-- the last reading of a code that some entity needs
abbrev pub slot_at : ℕ → Slots → Option Reading
slot_at code slots =
    if code == 10 then slots.x
    else if code == 11 then slots.end_x
    else if code == 20 then slots.y
    else if code == 21 then slots.end_y
    else if code == 40 then slots.radius
    else if code == 50 then slots.from
    else slots.to

-- the least code that an entity of this kind needs and lacks
abbrev pub least_missing : Shape → Slots → Option ℕ
least_missing shape slots = find (λ code. is_none (slot_at code slots)) (needed_codes shape)

-- the number of a reading that isn't above `most` in size, 0 where there is no reading
abbrev pub number_up_to : (most : ℕ) → Option Reading → Option ℤ
number_up_to most None = Some (pos 0)
number_up_to most (Some (Number z)) = if nat_le (unsigned_abs z) most then Some z else None
number_up_to most (Some _) = None

-- the flags of code 70, 0 where there is no number
abbrev pub flags_of : Slots → ℕ
flags_of slots = number_of slots.flags
  where
    number_of : Option Reading → ℕ
    number_of (Some (Number z)) = unsigned_abs z
    number_of _ = 0

-- a flag is set, given by its power of two
abbrev pub has_flag : (flag flags : ℕ) → Bool
has_flag flag flags = flags / flag % 2 == 1
