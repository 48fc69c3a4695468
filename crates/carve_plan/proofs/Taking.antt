-- Chains taken out of their slots, in an order in which each number stands once.
use Rattle.std.proofs.Common.{rules, ◌≡◌, ◌≢◌, ◌+◌, ◌<◌, ◌≤◌, ◌==◌, ℕ, zero, suc, Bool, true, false, List, [], ◌∷◌, ◌++◌, Option, None, Some, cond, length, map, take, drop, get_or, set, All, inl, inr, sum_by, arith, refl, ap, sym, subst, ◌∙◌}
use Rattle.std.specs.List.{Contains, range_with_len}
use Rattle.std.specs.List.Sorted.{IsPermutation}
use Rattle.std.proofs.lemmas.Bool.{cases_eq, eq-eqb, ne_eqb}
use Rattle.std.proofs.lemmas.List.{drop_more, get_or-map, get_or_default, get_or-set_other, length-map, length-set, take_more}
use Rattle.std.proofs.lemmas.List.Elements.{All-cons, All-head, All-nil, All-tail, Contains-get_or}
use Rattle.std.proofs.lemmas.List.Sums.{sum_by-cons, sum_by-drop_more, sum_by-take-drop}
use Rattle.std.proofs.lemmas.List.Sorted.{All-permutation, sum_by-IsPermutation}
use Rattle.plane_exact.specs.Nodes.{GridNode}
use Rattle.path_order.specs.Order.{chain_at}

-- ---- each number stands in an order once

-- 1 where the second number is the first, and else 0
abbrev is_it : ℕ → ℕ → ℕ
is_it i j = cond (j == i) 1 0

it_is : (i j : ℕ) → j ≡ i → is_it i j ≡ 1
it_is i j same = ap (λ (t : Bool). cond t 1 0) (eq-eqb j i same)

it_is_not : (i j : ℕ) → j ≢ i → is_it i j ≡ 0
it_is_not i j differ = ap (λ (t : Bool). cond t 1 0) (ne_eqb j i differ)

absent_before : (i from count : ℕ) → i < from → sum_by (is_it i) (range_with_len from count) ≡ 0
absent_before i from zero below = refl
absent_before i from (suc count) below =
    sum_by-cons (is_it i) from (range_with_len (from + 1) count)
    ∙ omega (arith, it_is_not i from (λ same. absurd (omega arith)), absent_before i (from + 1) count (omega arith))

once_at_most : (i from count : ℕ) → sum_by (is_it i) (range_with_len from count) ≤ 1
once_at_most i from zero = omega arith
once_at_most i from (suc count) =
    elim (cases_eq from i) [
      | inl same ↦ omega (arith, sum_by-cons (is_it i) from (range_with_len (from + 1) count), it_is i from same, absent_before i (from + 1) count (omega arith))
      | inr differ ↦ omega (arith, sum_by-cons (is_it i) from (range_with_len (from + 1) count), it_is_not i from differ, once_at_most i (from + 1) count)
    ]

stands_there : (i : ℕ) (xs : List ℕ) → Contains xs i → 1 ≤ sum_by (is_it i) xs
stands_there i [] there = absurd (let below = there.1 in omega arith)
stands_there i (x ∷ xs) (zero, below, is) = omega (arith, sum_by-cons (is_it i) x xs, it_is i x is)
stands_there i (x ∷ xs) (suc k, below, is) = omega (arith, sum_by-cons (is_it i) x xs, stands_there i xs (k, omega arith, is))

stands_once : (n : ℕ) (order : List ℕ) (k : ℕ) (d : ℕ) → IsPermutation (range_with_len 0 n) order → k < length order → Contains (drop (k + 1) order) (get_or order k d) → ⊥
stands_once n order k d same there again =
    let i = get_or order k d in
    absurd (omega (
      arith,
      sum_by-IsPermutation (is_it i) (range_with_len 0 n) order same,
      once_at_most i 0 n,
      sum_by-take-drop (is_it i) order k,
      sum_by-drop_more (is_it i) order k d there,
      it_is i i refl,
      stands_there i (drop (k + 1) order) again,
    ))

below_end : (from count end : ℕ) → from + count ≤ end → All (λ i. i < end) (range_with_len from count)
below_end from zero end within = All-nil (λ i. i < end)
below_end from (suc count) end within = All-cons (λ i. i < end) from (range_with_len (from + 1) count) (omega arith) (below_end (from + 1) count end (omega arith))

-- ---- the slots

-- what is in a slot, or no nodes
abbrev held : Option (List GridNode) → List GridNode
held None = []
held (Some chain) = chain

abbrev is_full : Option (List GridNode) → Bool
is_full None = false
is_full (Some chain) = true

module _ (chains : List (List GridNode)) where
  -- the chain of the number is in its slot
  abbrev IsThere : List (Option (List GridNode)) → ℕ → Type 0
  IsThere slots i = get_or slots i None ≡ Some (chain_at chains i)

  -- what is taken out of its slot
  what_is_there : (slots : List (Option (List GridNode))) (i : ℕ) (d slot taken : Option (List GridNode)) → i < length slots → slot ≡ get_or slots i d → taken ≡ slot → IsThere slots i
      → taken ≡ Some (chain_at chains i)
  what_is_there slots i d slot taken below read took there = took ∙ read ∙ get_or_default slots i d None below ∙ there

  pub slot_full : (slots : List (Option (List GridNode))) (i : ℕ) (d slot taken : Option (List GridNode)) → i < length slots → slot ≡ get_or slots i d → taken ≡ slot → taken ≡ None
      → IsThere slots i → ⊥
  slot_full slots i d slot taken below read took none there =
      let never : false ≡ true = ap is_full (sym none ∙ what_is_there slots i d slot taken below read took there) in
      absurd (search rules)

  pub chain_there : (slots : List (Option (List GridNode))) (i : ℕ) (d slot taken : Option (List GridNode)) (chain : List GridNode) → i < length slots → slot ≡ get_or slots i d
      → taken ≡ slot → taken ≡ Some chain → IsThere slots i → chain ≡ chain_at chains i
  chain_there slots i d slot taken chain below read took some there = ap held (sym some ∙ what_is_there slots i d slot taken below read took there)

module _ (chains : List (List GridNode)) (order : List ℕ) where
  -- the first numbers' chains are taken, and the others are in their slots
  pub record AreTaken (k : ℕ) (slots : List (Option (List GridNode))) (plan : List (List GridNode)) : Type 0 where
    pub size : length slots ≡ length chains
    pub left : All (IsThere chains slots) (drop k order)
    pub taken : plan ≡ map (chain_at chains) (take k order)

  module _ (once : IsPermutation (range_with_len 0 (length chains)) order) where
    all_below : All (λ i. i < length chains) order
    all_below = All-permutation (λ i. i < length chains) (range_with_len 0 (length chains)) order once (below_end 0 (length chains) (length chains) (omega arith))

    pub number_below : (k d : ℕ) → k < length order → get_or order k d < length chains
    number_below k d there = all_below k d there

    pub none_taken : (slots : List (Option (List GridNode))) (plan : List (List GridNode)) → slots ≡ map (λ (chain : List GridNode). Some chain) chains → plan ≡ [] → AreTaken 0 slots plan
    none_taken slots plan all none = record {
      size = ap length all ∙ length-map chains (λ (chain : List GridNode). Some chain);
      left = λ k d there.
          let i = get_or order k d in
          ap (λ s. get_or s i None) all ∙ get_or-map (λ (chain : List GridNode). Some chain) chains i [] None (all_below k d there);
      taken = none;
    }

    pub is_there : (k d : ℕ) (slots : List (Option (List GridNode))) (plan : List (List GridNode)) → k < length order → AreTaken k slots plan → IsThere chains slots (get_or order k d)
    is_there k d slots plan there taken =
        All-head (IsThere chains slots) (get_or order k d) (drop (k + 1) order) (subst (All (IsThere chains slots)) (drop_more order k d there) taken.left)

    pub one_taken : (k d : ℕ) (slots left : List (Option (List GridNode))) (plan more : List (List GridNode)) (chain : List GridNode) → k < length order → AreTaken k slots plan
        → left ≡ set slots (get_or order k d) None → more ≡ plan ++ chain ∷ [] → chain ≡ chain_at chains (get_or order k d) → AreTaken (k + 1) left more
    one_taken k d slots left plan more chain there taken emptied pushed is =
        let i = get_or order k d in
        let others = All-tail (IsThere chains slots) i (drop (k + 1) order) (subst (All (IsThere chains slots)) (drop_more order k d there) taken.left) in
        record {
          size = ap length emptied ∙ length-set slots i None ∙ taken.size;
          left = λ j e below.
              let n = get_or (drop (k + 1) order) j e in
              let differ : n ≢ i =
              λ same. stands_once (length chains) order k d once there (subst (Contains (drop (k + 1) order)) same (Contains-get_or (drop (k + 1) order) j e below)) in
              ap (λ s. get_or s n None) emptied ∙ get_or-set_other slots i n None None differ ∙ others j e below;
          taken =
              pushed ∙ ap (λ cs. cs ++ chain ∷ []) taken.taken ∙ ap (λ c. map (chain_at chains) (take k order) ++ c ∷ []) is
              ∙ map_push (chain_at chains) (take k order) i ∙ ap (map (chain_at chains)) (sym (take_more order k d there));
        }
      where
        map_push : {X Y : Type 0} (f : X → Y) (xs : List X) (x : X) → map f xs ++ f x ∷ [] ≡ map f (xs ++ x ∷ [])
        map_push f [] x = refl
        map_push f (y ∷ xs) x = ap (λ ys. f y ∷ ys) (map_push f xs x)
