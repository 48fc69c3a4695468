-- Some item of a list, of two lists, of the lists that items give, and of a list in another order.
use Rattle.std.specs.Prelude.{◌↔◌}
use Rattle.std.specs.List.{Any}
use Rattle.std.specs.List.Sorted.{IsPermutation}
use Rattle.std.proofs.Common.{◌⊎◌, zero, suc, List, [], ◌∷◌, ◌++◌, flat_map, inl, inr, refl, subst, sym, arith}
use Rattle.std.proofs.lemmas.List.Sorted.{Contains-permutation, IsPermutation-sym}

module _ {X : Type 0} (P : X → Type 0) where
  pub any_none : ¬ Any P []
  any_none (k, x, below, is, so) = absurd (omega arith)

  pub any_first : (x : X) (xs : List X) → P x → Any P (x ∷ xs)
  any_first x xs so = (0, x, omega arith, refl, so)

  pub any_later : (x : X) (xs : List X) → Any P xs → Any P (x ∷ xs)
  any_later x xs (k, y, below, is, so) = (suc k, y, omega arith, is, so)

  pub any_cases : (x : X) (xs : List X) → Any P (x ∷ xs) → P x ⊎ Any P xs
  any_cases x xs (zero, y, below, is, so) = inl (subst P (sym is) so)
  any_cases x xs (suc k, y, below, is, so) = inr (k, y, omega arith, is, so)

  pub any_left : (xs ys : List X) → Any P xs → Any P (xs ++ ys)
  any_left [] ys some = absurd (any_none some)
  any_left (x ∷ xs) ys some = elim (any_cases x xs some) [ inl here ↦ any_first x (xs ++ ys) here | inr later ↦ any_later x (xs ++ ys) (any_left xs ys later) ]

  pub any_right : (xs ys : List X) → Any P ys → Any P (xs ++ ys)
  any_right [] ys some = some
  any_right (x ∷ xs) ys some = any_later x (xs ++ ys) (any_right xs ys some)

  pub any_either : (xs ys : List X) → Any P (xs ++ ys) → Any P xs ⊎ Any P ys
  any_either [] ys some = inr some
  any_either (x ∷ xs) ys some = elim (any_cases x (xs ++ ys) some) [
    | inl here ↦ inl (any_first x xs here)
    | inr later ↦ elim (any_either xs ys later) [ inl left ↦ inl (any_later x xs left) | inr right ↦ inr right ]
  ]

  there : (xs ys : List X) → IsPermutation xs ys → Any P xs → Any P ys
  there xs ys same (k, x, below, is, so) = let at = Contains-permutation xs ys x same (k, below, is) in (at.0, x, at.1, at.2, so)

  -- in another order
  pub any_permutation : (xs ys : List X) → IsPermutation xs ys → Any P xs ↔ Any P ys
  any_permutation xs ys same = (there xs ys same, there ys xs (IsPermutation-sym xs ys same))

  -- of the lists that other items give
  pub any_joined : {Y : Type 0} (f : Y → List X) (ys : List Y) → Any (λ y. Any P (f y)) ys ↔ Any P (flat_map f ys)
  any_joined {Y} f ys = (to ys, from ys)
    where
      to : (ys : List Y) → Any (λ y. Any P (f y)) ys → Any P (flat_map f ys)
      to [] (k, y, below, is, so) = absurd (omega arith)
      to (y ∷ ys) (zero, z, below, is, so) = any_left (f y) (flat_map f ys) (subst (λ y. Any P (f y)) (sym is) so)
      to (y ∷ ys) (suc k, z, below, is, so) = any_right (f y) (flat_map f ys) (to ys (k, z, omega arith, is, so))

      from : (ys : List Y) → Any P (flat_map f ys) → Any (λ y. Any P (f y)) ys
      from [] some = absurd (any_none some)
      from (y ∷ ys) some = elim (any_either (f y) (flat_map f ys) some) [
        | inl here ↦ (0, y, omega arith, refl, here)
        | inr later ↦ (let rest = from ys later in (suc rest.0, rest.1, (let below = rest.2 in omega arith), rest.3, rest.4))
      ]
