-- The order as far as it goes: what is taken, what is left, and one chain more.
use Rattle.std.proofs.Common.{◌≡◌, ℕ, ◌<◌, List, [], ◌∷◌, ◌++◌, length, get_or, All, arith, sym, ap, ◌∙◌, subst, append_assoc, append-nil}
use Rattle.std.specs.List.{range_with_len}
use Rattle.std.specs.List.Sorted.{IsPermutation}
use Rattle.std.proofs.lemmas.List.Elements.{All-head, All-map, All-tail}
use Rattle.std.proofs.lemmas.List.Sorted.{All-permutation, IsPermutation-cons, IsPermutation-map, IsPermutation-pop_more, IsPermutation-refl, IsPermutation-trans, length_permutation}
use Rattle.plane_exact.specs.Nodes.{GridNode, first_place, last_place, origin}
use Rattle.plane_exact.specs.Plane.{GridPoint}
use Rattle.plane_exact.specs.Product.{dot_of}
use Rattle.path_order.specs.Order.{IsNearestNext, IsOrder, IsSooner, chain_at}
use Rattle.path_order.specs.Entries.{AreAllEntries, IsBeforeEntry, IsEntryOf, TakesNearest, numbers_of}
use Rattle.path_order.specs.declared.entry.Entry.{Entry}

module _ (chains : List (List GridNode)) where
  -- whatever way the chains that are left go on from the place, the order goes on so from the origin
  abbrev pub IsBegun : List ℕ → List ℕ → GridPoint → Type 0
  IsBegun order left place = (rest : List ℕ) → IsPermutation left rest → IsNearestNext chains place rest → IsNearestNext chains origin (order ++ rest)

  -- the order so far, with the entries that are left and the place of the bit
  pub record IsSoFar (order : List ℕ) (entries : List Entry) (place : GridPoint) : Type 0 where
    pub once : IsPermutation (range_with_len 0 (length chains)) (order ++ numbers_of entries)
    pub each : All (IsEntryOf chains) entries
    pub begun : IsBegun order (numbers_of entries) place

  sooner_entry : (place : GridPoint) (e f : Entry) → IsEntryOf chains e → IsEntryOf chains f → IsBeforeEntry place e f → IsSooner chains place e.number f.number
  sooner_entry place e f of_e of_f before =
      let at_e : dot_of place (first_place (chain_at chains e.number)) (first_place (chain_at chains e.number)) ≡ dot_of place e.at e.at = ap (λ p. dot_of place p p) (sym of_e.at) in
      let at_f : dot_of place (first_place (chain_at chains f.number)) (first_place (chain_at chains f.number)) ≡ dot_of place f.at f.at = ap (λ p. dot_of place p p) (sym of_f.at) in
      rw (at_e, at_f) before

  -- one chain more: the nearest
  pub taken_out : (order : List ℕ) (old new : List Entry) (place : GridPoint) (i : ℕ) → IsSoFar order old place → TakesNearest place old new i
      → IsSoFar (order ++ i ∷ []) new (last_place (chain_at chains i))
  taken_out order old new place i so_far takes =
      let entry = takes.entry in
      let moved : IsPermutation (numbers_of old) (i ∷ numbers_of new) =
      subst (λ n. IsPermutation (numbers_of old) (n ∷ numbers_of new)) takes.is (IsPermutation-map (λ (e : Entry). e.number) old (entry ∷ new) takes.taken) in
      let each : All (IsEntryOf chains) (entry ∷ new) = All-permutation (IsEntryOf chains) old (entry ∷ new) takes.taken so_far.each in
      let of_entry : IsEntryOf chains entry = All-head (IsEntryOf chains) entry new each in
      let sooner : All (IsSooner chains place i) (numbers_of old) =
      subst (λ n. All (IsSooner chains place n) (numbers_of old)) takes.is (All-map (IsSooner chains place entry.number) (λ (e : Entry). e.number) old
      (λ k d below. sooner_entry place entry (get_or old k d) of_entry (so_far.each k d below) (takes.nearest k d below))) in
      record {
        once = IsPermutation-pop_more (range_with_len 0 (length chains)) order (numbers_of old) (numbers_of new) i so_far.once moved;
        each = All-tail (IsEntryOf chains) entry new each;
        begun = λ rest same next.
            let whole : IsPermutation (numbers_of old) (i ∷ rest) = IsPermutation-trans (numbers_of old) (i ∷ numbers_of new) (i ∷ rest) moved (IsPermutation-cons i (numbers_of new) rest same) in
            let first = All-tail (IsSooner chains place i) i rest (All-permutation (IsSooner chains place i) (numbers_of old) (i ∷ rest) whole sooner) in
            subst (IsNearestNext chains origin) (sym (append_assoc order (i ∷ []) rest)) (so_far.begun (i ∷ rest) whole (first, next));
      }

  pub none_taken : (entries : List Entry) → AreAllEntries chains entries → IsSoFar [] entries origin
  none_taken entries all = record { once = all.once; each = all.each; begun = λ rest _ next. next }

  pub all_taken : (order : List ℕ) (entries : List Entry) (place : GridPoint) → entries ≡ [] → IsSoFar order entries place → IsOrder chains order
  all_taken order entries place none so_far =
      let left : numbers_of entries ≡ [] = ap numbers_of none in
      let whole : order ++ numbers_of entries ≡ order = ap (λ xs. order ++ xs) left ∙ append-nil order in
      record {
        once = subst (IsPermutation (range_with_len 0 (length chains))) whole so_far.once;
        next = subst (IsNearestNext chains origin) (append-nil order) (so_far.begun [] (subst (λ xs. IsPermutation xs []) (sym left) (IsPermutation-refl [])) tt);
      }

  -- a chain that is taken is one of them
  pub chain_taken : (order : List ℕ) (old new : List Entry) (place : GridPoint) (i : ℕ) → IsSoFar order old place → TakesNearest place old new i → i < length chains
  chain_taken order old new place i so_far takes =
      let entry = takes.entry in
      let each = All-permutation (IsEntryOf chains) old (entry ∷ new) takes.taken so_far.each in
      subst (λ n. n < length chains) takes.is (All-head (IsEntryOf chains) entry new each).there

pub one_fewer : (old new : List Entry) (place : GridPoint) (i : ℕ) → TakesNearest place old new i → length new < length old
one_fewer old new place i takes = omega (arith, length_permutation old (takes.entry ∷ new) takes.taken)
