-- The nearest entry is taken out of its slot.
use Rattle.std.proofs.Common.{◌≡◌, List, [], ◌∷◌, length, set, Option, None, Some, arith, sym, subst}
use Rattle.std.specs.List.Sorted.{IsPermutation}
use Rattle.plane_exact.specs.Plane.{GridPoint}
use Rattle.plane_exact.specs.Product.{dot_of}
use Rattle.path_order.specs.Order.{IsBefore}
use Rattle.path_order.specs.Entries.{IsBeforeEntry, TakesNearest}
use Rattle.path_order.specs.Found.{IsNearestOf}
use Rattle.path_order.specs.Index.{IsBelow}
use Rattle.path_order.specs.Left.{entries_in}
use Rattle.path_order.specs.declared.entry.Entry.{Entry}
use Rattle.path_order.specs.declared.extent.Extent.{Extent}
use Rattle.path_order.specs.declared.found.Found.{Found}
use Rattle.path_order.proofs.Indexes.{root_above}
use Rattle.path_order.proofs.Slots.{all_slots, no_entries, slot_taken}

module _ (place : GridPoint) (slots : List (Option Entry)) (extents : List Extent) where
  pub nothing_left : IsNearestOf place slots (IsBelow (length slots) 1) None None → entries_in slots ≡ []
  nothing_left searched = no_entries slots (λ j e there is. searched.each j e (root_above slots extents j (omega arith)) there is)

  pub nearest_taken : (found : Found) (new : List (Option Entry)) → IsNearestOf place slots (IsBelow (length slots) 1) None (Some found) → new ≡ set slots found.slot None
      → TakesNearest place (entries_in slots) (entries_in new) found.number
  nearest_taken found new searched emptied =
      let known = searched.known in
      let entry = known.entry in
      record {
        entry = entry;
        is = sym known.number;
        taken = subst (λ xs. IsPermutation (entries_in slots) (entry ∷ entries_in xs)) (sym emptied) (slot_taken slots found.slot entry known.there known.is);
        nearest = all_slots (IsBeforeEntry place entry) slots (λ j e there is.
            subst (λ w. IsBefore w entry.number (dot_of place e.at e.at) e.number) known.way
            (subst (λ n. IsBefore found.way n (dot_of place e.at e.at) e.number) known.number
            (searched.each j e (root_above slots extents j (omega arith)) there is)));
      }
