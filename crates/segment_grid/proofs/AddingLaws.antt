-- Lemmas on adding an entry: to the element at a place of a list, at each depth of a grid.
use Rattle.std.proofs.Common.{◌≡◌, ℕ, zero, suc, ◌+◌, ◌<◌, List, [], ◌∷◌, ◌++◌, length, get_or, set, All, IsPermutation, refl, sym, ap, subst, ◌∙◌, arith, append_assoc}
use Rattle.std.specs.List.{flat_map}
use Rattle.std.proofs.lemmas.List.{append-nil}
use Rattle.std.proofs.lemmas.List.Concat.{flat_map-append}
use Rattle.std.proofs.lemmas.List.Elements.{All-nil, All-cons, All-push, All-head, All-tail}
use Rattle.std.proofs.lemmas.List.Sorted.{IsPermutation-append_left, IsPermutation-append_right, IsPermutation-middle, IsPermutation-sym, IsPermutation-trans}
use Rattle.segment_grid.specs.Grid.{AllFrom}
use Rattle.segment_grid.specs.Added.{IsExtended}

module _ {X : Type 0} (IsBare : X → Type 0) where
  -- one element more, without an edge
  pub extended_push : (xs ys : List X) (y : X) → IsExtended IsBare xs ys → IsBare y → IsExtended IsBare xs (ys ++ y ∷ [])
  extended_push xs ys y e bare = record {
    more = e.more ++ y ∷ [];
    is = ap (λ l. l ++ y ∷ []) e.is ∙ append_assoc xs e.more (y ∷ []);
    bare = All-push IsBare e.more y e.bare bare;
  }

  flat_bare : {A : Type 0} (f : X → List A) (none : (x : X) → IsBare x → f x ≡ []) (xs : List X) → All IsBare xs → flat_map f xs ≡ []
  flat_bare f none [] all = refl
  flat_bare f none (x ∷ xs) all = ap (λ l. l ++ flat_map f xs) (none x (All-head IsBare x xs all)) ∙ flat_bare f none xs (All-tail IsBare x xs all)

  -- elements without an edge add no entries
  flat_extended : {A : Type 0} (f : X → List A) (none : (x : X) → IsBare x → f x ≡ []) (xs ys : List X) → IsExtended IsBare xs ys → flat_map f ys ≡ flat_map f xs
  flat_extended f none xs ys e =
      ap (flat_map f) e.is ∙ flat_map-append f xs e.more ∙ ap (λ l. flat_map f xs ++ l) (flat_bare f none e.more e.bare)
      ∙ append-nil (flat_map f xs)

  -- a fact that elements without an edge have wherever they stand
  all_bare : (P : ℕ → X → Type 0) (fits : (n : ℕ) (x : X) → IsBare x → P n x) (n : ℕ) (xs : List X) → All IsBare xs → AllFrom P n xs
  all_bare P fits n [] all = tt
  all_bare P fits n (x ∷ xs) all = (fits n x (All-head IsBare x xs all), all_bare P fits (n + 1) xs (All-tail IsBare x xs all))

  all_append : (P : ℕ → X → Type 0) (fits : (n : ℕ) (x : X) → IsBare x → P n x) (n : ℕ) (xs ys : List X) → AllFrom P n xs → All IsBare ys → AllFrom P n (xs ++ ys)
  all_append P fits n [] ys all bare = all_bare P fits n ys bare
  all_append P fits n (x ∷ xs) ys all bare = (all.0, all_append P fits (n + 1) xs ys all.1 bare)

  all_extended : (P : ℕ → X → Type 0) (fits : (n : ℕ) (x : X) → IsBare x → P n x) (xs ys : List X) → IsExtended IsBare xs ys → AllFrom P 0 xs → AllFrom P 0 ys
  all_extended P fits xs ys e all = subst (AllFrom P 0) (sym e.is) (all_append P fits 0 xs e.more all e.bare)

-- an entry more in one element is an entry more in all
perm_set : {X A : Type 0} (f : X → List A) (a : A) (xs : List X) (i : ℕ) (d y : X) → i < length xs → IsPermutation (a ∷ f (get_or xs i d)) (f y) → IsPermutation (a ∷ flat_map f xs) (flat_map f (set xs i y))
perm_set f a [] i d y lt h = absurd (omega (arith, lt))
perm_set f a (x ∷ xs) zero d y lt h = IsPermutation-append_left (flat_map f xs) (a ∷ f x) (f y) h
perm_set f a (x ∷ xs) (suc i) d y lt h =
    IsPermutation-trans _ _ _ (IsPermutation-sym _ _ (IsPermutation-middle (f x) a (flat_map f xs)))
    (IsPermutation-append_right (f x) (a ∷ flat_map f xs) (flat_map f (set xs i y)) (perm_set f a xs i d y (omega (arith, lt)) h))

-- a fact of each element and its number, after an element was set
all_set : {X : Type 0} (P : ℕ → X → Type 0) (n : ℕ) (xs : List X) (i : ℕ) (y : X) (k : ℕ) → n + i ≡ k → P k y → AllFrom P n xs → AllFrom P n (set xs i y)
all_set P n [] i y k e h all = tt
all_set P n (x ∷ xs) zero y k e h all = (subst (λ m. P m y) (omega (arith, e)) h, all.1)
all_set P n (x ∷ xs) (suc i) y k e h all = (all.0, all_set P (n + 1) xs i y k (omega (arith, e)) h all.1)

-- and read at one of them
all_at : {X : Type 0} (P : ℕ → X → Type 0) (n : ℕ) (xs : List X) (i : ℕ) (d : X) (k : ℕ) → n + i ≡ k → i < length xs → AllFrom P n xs → P k (get_or xs i d)
all_at P n [] i d k e lt all = absurd (omega (arith, lt))
all_at P n (x ∷ xs) zero d k e lt all = subst (λ m. P m x) (omega (arith, e)) all.0
all_at P n (x ∷ xs) (suc i) d k e lt all = all_at P (n + 1) xs i d k (omega (arith, e)) (omega (arith, lt)) all.1

-- the list is extended, and the element at a place gets the entry
pub added_at : {X A : Type 0} (IsBare : X → Type 0) (f : X → List A) (P : ℕ → X → Type 0)
    (none : (x : X) → IsBare x → f x ≡ []) (fits : (n : ℕ) (x : X) → IsBare x → P n x)
    (a : A) (old mid : List X) (i : ℕ) (x y : X)
    → IsExtended IsBare old mid → i < length mid → x ≡ get_or mid i x → (P i x → IsPermutation (a ∷ f x) (f y) × P i y) → AllFrom P 0 old
    → IsPermutation (a ∷ flat_map f old) (flat_map f (set mid i y)) × AllFrom P 0 (set mid i y)
added_at IsBare f P none fits a old mid i x y e lt read more all =
    let all_mid = all_extended IsBare P fits old mid e all in
    let here = more (subst (P i) (sym read) (all_at P 0 mid i x i (omega arith) lt all_mid)) in (
      subst (λ l. IsPermutation (a ∷ l) (flat_map f (set mid i y))) (flat_extended IsBare f none old mid e)
          (perm_set f a mid i x y lt (subst (λ z. IsPermutation (a ∷ f z) (f y)) read here.0)),
      all_set P 0 mid i y i (omega arith) here.1 all_mid,
    )

-- a fact of each element, whatever its number, and back
pub counted : {X : Type 0} (P : X → Type 0) (n : ℕ) (xs : List X) → All P xs → AllFrom (λ _. P) n xs
counted P n [] all = tt
counted P n (x ∷ xs) all = (All-head P x xs all, counted P (n + 1) xs (All-tail P x xs all))

pub uncounted : {X : Type 0} (P : X → Type 0) (n : ℕ) (xs : List X) → AllFrom (λ _. P) n xs → All P xs
uncounted P n [] all = All-nil P
uncounted P n (x ∷ xs) all = All-cons P x xs all.0 (uncounted P (n + 1) xs all.1)
