-- The entries of all chains, as they are listed and in any order.
use Rattle.std.proofs.Common.{◌≡◌, ℕ, ◌+◌, ◌<◌, ◌≤◌, List, [], ◌∷◌, ◌++◌, length, map, All, Option, Some, arith, refl, sym, ap, ◌∙◌, subst}
use Rattle.std.specs.List.{range_with_len}
use Rattle.std.specs.List.Sorted.{IsPermutation}
use Rattle.std.proofs.lemmas.List.{length-map}
use Rattle.std.proofs.lemmas.List.FromFn.{get_or-map-range_with_len, length-map-range_with_len, map-range_with_len_more}
use Rattle.std.proofs.lemmas.List.Sorted.{All-permutation, IsPermutation-map, IsPermutation-refl, IsPermutation-trans, length_permutation}
use Rattle.plane_exact.specs.Nodes.{GridNode, first_place}
use Rattle.plane_exact.specs.Plane.{GridPoint}
use Rattle.path_order.specs.Order.{chain_at}
use Rattle.path_order.specs.Entries.{AreAllEntries, IsEntryOf, entry_of, numbers_of}
use Rattle.path_order.specs.declared.entry.Entry.{Entry}
use Rattle.plane_exact.specs.declared.node.TheConstants.{MOST_CHAINS}

-- all entries are the chains', each once
pub all_entries : (chains : List (List GridNode)) (entries : List Entry) → entries ≡ map (entry_of chains) (range_with_len 0 (length chains)) → AreAllEntries chains entries
all_entries chains entries are =
    let n = length chains in
    record {
      once = subst (IsPermutation (range_with_len 0 n)) (sym (ap numbers_of are ∙ unnamed (range_with_len 0 n))) (IsPermutation-refl (range_with_len 0 n));
      each = subst (All (IsEntryOf chains)) (sym are) (λ k d below.
          let within : k < n = omega (arith, length-map-range_with_len (entry_of chains) 0 n) in
          subst (IsEntryOf chains) (sym (get_or-map-range_with_len (entry_of chains) 0 n k k d within (omega arith))) (record { there = within; at = refl }));
    }
  where
    unnamed : (xs : List ℕ) → numbers_of (map (entry_of chains) xs) ≡ xs
    unnamed [] = refl
    unnamed (x ∷ xs) = ap (λ ys. x ∷ ys) (unnamed xs)

-- one chain's entry more
pub one_entry_more : (chains : List (List GridNode)) (i : ℕ) (at : GridPoint) (old new : List Entry) → old ≡ map (entry_of chains) (range_with_len 0 i) → at ≡ first_place (chain_at chains i)
    → new ≡ old ++ record { at = at; number = i } ∷ [] → new ≡ map (entry_of chains) (range_with_len 0 (i + 1))
one_entry_more chains i at old new are is pushed =
    pushed ∙ ap (λ xs. xs ++ record { at = at; number = i } ∷ []) are ∙ ap (λ (p : GridPoint). map (entry_of chains) (range_with_len 0 i) ++ record { at = p; number = i } ∷ []) is
    ∙ sym (map-range_with_len_more (entry_of chains) 0 i i (omega arith))

-- in another order they are all entries too
pub resorted : (chains : List (List GridNode)) (old new : List Entry) → IsPermutation old new → AreAllEntries chains old → AreAllEntries chains new
resorted chains old new moved all =
    record {
      once = IsPermutation-trans (range_with_len 0 (length chains)) (numbers_of old) (numbers_of new) all.once (IsPermutation-map (λ (e : Entry). e.number) old new moved);
      each = All-permutation (IsEntryOf chains) old new moved all.each;
    }

-- there are as many slots as chains
pub few_slots : (chains : List (List GridNode)) (entries sorted shown : List Entry) (slots seen : List (Option Entry)) → length chains ≤ MOST_CHAINS → entries ≡ map (entry_of chains) (range_with_len 0 (length chains))
    → IsPermutation entries sorted → shown ≡ sorted → slots ≡ map (λ (e : Entry). Some e) shown → seen ≡ slots → length seen ≤ MOST_CHAINS
few_slots chains entries sorted shown slots seen few are moved same full see =
    let listed : length entries ≡ length chains = ap length are ∙ length-map-range_with_len (entry_of chains) 0 (length chains) in
    let kept = length_permutation entries sorted moved in
    let counted : length seen ≡ length sorted = ap length (see ∙ full) ∙ length-map shown (λ (e : Entry). Some e) ∙ ap length same in
    omega arith
