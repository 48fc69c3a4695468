-- The entries in slots: of all chains, and when one is taken out.
use Rattle.std.proofs.Common.{◌≡◌, ℕ, zero, suc, ◌<◌, List, [], ◌∷◌, length, map, get_or, set, All, Option, None, Some, arith, refl, sym, ap, subst}
use Rattle.std.specs.List.{cons_option}
use Rattle.std.specs.List.Sorted.{IsPermutation}
use Rattle.std.proofs.lemmas.List.Elements.{All-cons, All-nil}
use Rattle.std.proofs.lemmas.List.Sorted.{IsPermutation-cons, IsPermutation-middle, IsPermutation-refl, IsPermutation-trans}
use Rattle.path_order.specs.Left.{entries_in}
use Rattle.path_order.specs.declared.entry.Entry.{Entry}

-- each slot with its entry
pub entries_of_full : (entries : List Entry) → entries_in (map (λ (e : Entry). Some e) entries) ≡ entries
entries_of_full [] = refl
entries_of_full (e ∷ entries) = ap (λ xs. e ∷ xs) (entries_of_full entries)

-- what each slot's entry is, each entry is
pub all_slots : (P : Entry → Type 0) (slots : List (Option Entry)) → ((j : ℕ) (e : Entry) → j < length slots → get_or slots j None ≡ Some e → P e) → All P (entries_in slots)
all_slots P [] each = All-nil P
all_slots P (None ∷ slots) each = all_slots P slots (λ j e there is. each (suc j) e (omega arith) is)
all_slots P (Some x ∷ slots) each = All-cons P x (entries_in slots) (each 0 x (omega arith) refl) (all_slots P slots (λ j e there is. each (suc j) e (omega arith) is))

-- where no slot has an entry there is none
pub no_entries : (slots : List (Option Entry)) → ((j : ℕ) (e : Entry) → j < length slots → get_or slots j None ≡ Some e → ⊥) → entries_in slots ≡ []
no_entries [] none = refl
no_entries (None ∷ slots) none = no_entries slots (λ j e there is. none (suc j) e (omega arith) is)
no_entries (Some x ∷ slots) none = absurd (none 0 x (omega arith) refl)

-- one is taken out
pub slot_taken : (slots : List (Option Entry)) (slot : ℕ) (e : Entry) → slot < length slots → get_or slots slot None ≡ Some e → IsPermutation (entries_in slots) (e ∷ entries_in (set slots slot None))
slot_taken [] slot e there is = absurd (omega arith)
slot_taken (x ∷ slots) zero e there is =
    subst (λ o. IsPermutation (cons_option o (entries_in slots)) (e ∷ entries_in slots)) (sym is) (IsPermutation-refl (e ∷ entries_in slots))
slot_taken (None ∷ slots) (suc slot) e there is = slot_taken slots slot e (omega arith) is
slot_taken (Some x ∷ slots) (suc slot) e there is =
    let left = entries_in (set slots slot None) in
    IsPermutation-trans (x ∷ entries_in slots) (x ∷ e ∷ left) (e ∷ x ∷ left) (IsPermutation-cons x (entries_in slots) (e ∷ left) (slot_taken slots slot e (omega arith) is))
    (IsPermutation-middle (x ∷ []) e left)
