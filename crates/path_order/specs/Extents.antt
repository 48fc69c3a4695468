-- Boxes of entries, some of them empty: which entries they hold, and which box is inside another.
use Rattle.std.specs.Prelude.{◌≤◌, ◌≤ℤ◌}
use Rattle.integer_algebra.specs.Ranges.{IsWithin}
use Rattle.path_order.specs.declared.entry.Entry.{Entry}
use Rattle.path_order.specs.declared.span.Span.{Span}
use Rattle.path_order.specs.declared.extent.Extent.{Extent}

-- the first range's bounds are inside the second's
pub record IsInsideSpan (a b : Span) : Type 0 where
  pub low : b.low ≤ℤ a.low
  pub high : a.high ≤ℤ b.high

-- the first box's bounds are inside the second's
pub record IsInside (a b : Extent) : Type 0 where
  pub least : b.least ≤ a.least
  pub across : IsInsideSpan a.across b.across
  pub up : IsInsideSpan a.up b.up

-- the entry is in the box
pub record Holds (b : Extent) (e : Entry) : Type 0 where
  pub across : IsWithin b.across.low b.across.high e.at.x
  pub up : IsWithin b.up.low b.up.high e.at.y
  pub number : b.least ≤ e.number
