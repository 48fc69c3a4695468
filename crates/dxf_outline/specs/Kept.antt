-- What one more pair changes of what an entity's pairs say.
use Rattle.std.specs.Prelude.{ℕ, Bool, ◌&&◌, if◌then◌else◌, Option, Some, None}
use Rattle.std.specs.Option.{option_or}
use Rattle.dxf_outline.specs.Pairs.{Pair, has_code}
use Rattle.dxf_outline.specs.Values.{is_unreadable}
use Rattle.dxf_outline.specs.declared.slots.Slots.{Slots}
use Rattle.dxf_outline.specs.declared.values.Reading.{Reading}

-- the first stays where there is one
abbrev pub first_of : Option ℕ → Bool → ℕ → Option ℕ
first_of before counts at = option_or before (if counts then Some at else None)

-- the last one counts
abbrev pub last_of : Bool → Reading → Option Reading → Option Reading
last_of counts reading before = if counts then Some reading else before

-- with one more pair that has this reading
abbrev pub with_reading : Slots → Pair → Reading → Slots
with_reading slots pair reading = record {
  unreadable = first_of slots.unreadable (is_unreadable reading) pair.at;
  unreadable_flags = first_of slots.unreadable_flags (has_code 70 pair && is_unreadable reading) pair.at;
  x = last_of (has_code 10 pair) reading slots.x;
  end_x = last_of (has_code 11 pair) reading slots.end_x;
  y = last_of (has_code 20 pair) reading slots.y;
  end_y = last_of (has_code 21 pair) reading slots.end_y;
  radius = last_of (has_code 40 pair) reading slots.radius;
  bulge = last_of (has_code 42 pair) reading slots.bulge;
  from = last_of (has_code 50 pair) reading slots.from;
  to = last_of (has_code 51 pair) reading slots.to;
  flags = last_of (has_code 70 pair) reading slots.flags;
}
