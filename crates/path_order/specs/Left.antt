-- The chains that aren't cut yet.
use Rattle.std.specs.Prelude.{List, Option}
use Rattle.std.specs.List.{filter_map}
use Rattle.path_order.specs.Index.{IsIndex}
use Rattle.path_order.specs.declared.entry.Entry.{Entry}
use Rattle.path_order.specs.declared.left.Left.{Left}

-- the entries in slots
abbrev pub entries_in : List (Option Entry) → List Entry
entries_in slots = filter_map (λ slot. slot) slots

-- the entries of the chains that are left
abbrev pub entries_left : Left → List Entry
entries_left left = entries_in left.slots.items

-- its boxes stand for its slots
abbrev pub IsIndexed : Left → Type 0
IsIndexed left = IsIndex left.slots.items left.extents.items
