-- Hits: of boxes that are tested a chunk at a time, of the parts of a list, and in another order.
use Rattle.std.proofs.Common.{eqb, replicate, ◌≡◌, ℕ, zero, suc, ◌≤◌, List, [], ◌∷◌, ◌++◌, length, take, drop, map, Bool, true, false, refl, ap, subst, ◌∙◌, ◌<◌, arith, get_or, set, IsPermutation}
use lib.Pointwise.{pointwise}
use Rattle.std.proofs.lemmas.Bool.{and_parts}
use Rattle.std.specs.Prelude.{if◌then◌else◌, flat_map}
use Rattle.std.specs.List.{All, zip, swap}
use Rattle.std.proofs.lemmas.List.Edits.{swap_is}
use Rattle.std.proofs.lemmas.List.Elements.{All-head, All-tail}
use Rattle.std.proofs.lemmas.List.Sorted.{IsPermutation-refl, IsPermutation-cons, IsPermutation-trans, IsPermutation-swap, IsPermutation-keeps}
use Rattle.lane_kernels.specs.Boxes.{is_met, hit_of}
use Rattle.lane_kernels.specs.declared.boxes.Rect.{Rect}
use Rattle.segment_grid.specs.Near.{Entry, hits}
use Rattle.segment_grid.specs.Walk.{flagged}

flagged_one : (met : Bool) (n : ℕ) (ns flags rest all : List ℕ) → flagged ns flags ++ rest ≡ all
    → flagged (n ∷ ns) ((if met then 1 else 0) ∷ flags) ++ rest ≡ (if met then n ∷ all else all)
flagged_one true n ns flags rest all e = ap (λ l. n ∷ l) e
flagged_one false n ns flags rest all e = e

-- c boxes are tested and flagged, whatever flags come after theirs, and the hits of the rest follow
pub tested_hits : (q : Rect) (c : ℕ) (ns : List ℕ) (boxes : List Rect) (more : List ℕ) → c ≤ length ns → c ≤ length boxes
    → flagged (take c ns) (map (hit_of q) (take c boxes) ++ more) ++ hits q (zip (drop c ns) (drop c boxes)) ≡ hits q (zip ns boxes)
tested_hits q zero ns boxes more l m = refl
tested_hits q (suc c) [] boxes more l m = absurd (omega (arith, l))
tested_hits q (suc c) (n ∷ ns) [] more l m = absurd (omega (arith, m))
tested_hits q (suc c) (n ∷ ns) (b ∷ boxes) more l m =
    flagged_one (is_met q b) n (take c ns) (map (hit_of q) (take c boxes) ++ more) _ _ (tested_hits q c ns boxes more (omega (arith, l)) (omega (arith, m)))

-- flags that are all 0 flag no number
pub none_flagged : (n : ℕ) (ns flags : List ℕ) (at : ℕ) → pointwise eqb flags (replicate n 0) ≡ true → flagged ns (drop at flags) ≡ []
none_flagged n [] flags at same = refl
none_flagged n (m ∷ ns) [] zero same = refl
none_flagged n (m ∷ ns) [] (suc at) same = refl
none_flagged zero (m ∷ ns) (f ∷ flags) at same = cc
none_flagged (suc n) (m ∷ ns) (f ∷ flags) zero same =
    let parts = and_parts (eqb f 0) (pointwise eqb flags (replicate n 0)) same in
    rw parts.0 (none_flagged n ns flags 0 parts.1)
none_flagged (suc n) (m ∷ ns) (f ∷ flags) (suc at) same =
    none_flagged n (m ∷ ns) flags at (and_parts (eqb f 0) (pointwise eqb flags (replicate n 0)) same).1

append_one : (met : Bool) (n : ℕ) (front back all : List ℕ) → all ≡ front ++ back
    → (if met then n ∷ all else all) ≡ (if met then n ∷ front else front) ++ back
append_one true n front back all e = ap (λ l. n ∷ l) e
append_one false n front back all e = e

pub hits-append : (q : Rect) (xs ys : List Entry) → hits q (xs ++ ys) ≡ hits q xs ++ hits q ys
hits-append q [] ys = refl
hits-append q ((n, b) ∷ xs) ys = append_one (is_met q b) n (hits q xs) (hits q ys) _ (hits-append q xs ys)

-- the hits of the parts, one part after the other
pub hits_of_parts : {X : Type 0} (q : Rect) (f : X → List Entry) (xs : List X) → hits q (flat_map f xs) ≡ flat_map (λ x. hits q (f x)) xs
hits_of_parts q f [] = refl
hits_of_parts q f (x ∷ xs) = hits-append q (f x) (flat_map f xs) ∙ ap (λ l. hits q (f x) ++ l) (hits_of_parts q f xs)

cons_both : (met : Bool) (n : ℕ) (xs ys : List ℕ) → IsPermutation xs ys → IsPermutation (if met then n ∷ xs else xs) (if met then n ∷ ys else ys)
cons_both true n xs ys p = IsPermutation-cons n xs ys p
cons_both false n xs ys p = p

turn_both : (met met' : Bool) (n m : ℕ) (xs : List ℕ)
    → IsPermutation (if met then n ∷ (if met' then m ∷ xs else xs) else (if met' then m ∷ xs else xs)) (if met' then m ∷ (if met then n ∷ xs else xs) else (if met then n ∷ xs else xs))
turn_both true true n m xs = IsPermutation-swap _ _ 0 1 (omega arith) (omega arith) refl
turn_both true false n m xs = IsPermutation-refl _
turn_both false true n m xs = IsPermutation-refl _
turn_both false false n m xs = IsPermutation-refl _

module _ (q : Rect) where
  -- the two lists have the same hits
  abbrev AreAlike : List Entry → List Entry → Type 0
  AreAlike xs ys = IsPermutation (hits q xs) (hits q ys)

  skip : (e : Entry) (xs ys : List Entry) → AreAlike xs ys → AreAlike (e ∷ xs) (e ∷ ys)
  skip e xs ys p = cons_both (is_met q e.1) e.0 _ _ p

  turn : (e f : Entry) (xs : List Entry) → AreAlike (e ∷ f ∷ xs) (f ∷ e ∷ xs)
  turn e f xs = turn_both (is_met q e.1) (is_met q f.1) e.0 f.0 (hits q xs)

  to_head : (l : List Entry) (j : ℕ) (e d : Entry) → j < length l → AreAlike (e ∷ l) (get_or l j d ∷ set l j e)
  to_head [] j e d m = absurd (omega (arith, m))
  to_head (f ∷ l) zero e d m = turn e f l
  to_head (f ∷ l) (suc j) e d m =
      let inner = to_head l j e d (omega (arith, m)) in
      IsPermutation-trans _ _ _ (turn e f l) (IsPermutation-trans _ _ _ (skip f (e ∷ l) (get_or l j d ∷ set l j e) inner) (turn f (get_or l j d) (set l j e)))

  exchanged : (l : List Entry) (i j : ℕ) (d : Entry) → i < length l → j < length l → AreAlike l (set (set l i (get_or l j d)) j (get_or l i d))
  exchanged [] i j d m n = absurd (omega (arith, m))
  exchanged (e ∷ l) zero zero d m n = IsPermutation-refl _
  exchanged (e ∷ l) zero (suc j) d m n = to_head l j e d (omega (arith, n))
  exchanged (e ∷ l) (suc i) zero d m n = to_head l i e d (omega (arith, m))
  exchanged (e ∷ l) (suc i) (suc j) d m n = skip e l (set (set l i (get_or l j d)) j (get_or l i d)) (exchanged l i j d (omega (arith, m)) (omega (arith, n)))

  swapped : (l : List Entry) (i j : ℕ) → i < length l → j < length l → AreAlike l (swap l i j)
  swapped [] i j m n = absurd (omega (arith, m))
  swapped (e ∷ l) i j m n = subst (AreAlike (e ∷ l)) (swap_is (e ∷ l) i j e m n) (exchanged (e ∷ l) i j e m n)

  -- boxes in another order have the same hits, in another order
  pub hits_in_order : (xs ys : List Entry) → IsPermutation xs ys → AreAlike xs ys
  hits_in_order xs =
      IsPermutation-keeps xs (AreAlike xs) (IsPermutation-refl _) (λ l i j m n alike. IsPermutation-trans _ _ _ alike (swapped l i j m n))

  -- where none is met there is no hit
  pub no_hits : (xs : List Entry) → All (λ e. is_met q e.1 ≡ false) xs → hits q xs ≡ []
  no_hits [] h = refl
  no_hits (e ∷ xs) h = left_out (is_met q e.1) e.0 (All-head (λ e'. is_met q e'.1 ≡ false) e xs h) ∙ no_hits xs (All-tail (λ e'. is_met q e'.1 ≡ false) e xs h)
    where
      left_out : (met : Bool) (n : ℕ) → met ≡ false → (if met then n ∷ hits q xs else hits q xs) ≡ hits q xs
      left_out true n is = cc
      left_out false n is = refl
