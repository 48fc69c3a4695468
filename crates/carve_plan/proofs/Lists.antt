-- Lists that are joined, and lists related item by item.
use Rattle.std.specs.List.{AllZip}
use Rattle.std.proofs.Common.{◌≡◌, ◌+◌, ◌<◌, ℕ, List, [], ◌∷◌, ◌++◌, length, take, get_or, refl, ap, subst, sym}
use Rattle.std.proofs.lemmas.List.{take_more}

module _ {A B : Type 0} (R : A → B → Type 0) where
  pub zip_append : (xs us : List A) (ys vs : List B) → AllZip R xs ys → AllZip R us vs → AllZip R (xs ++ us) (ys ++ vs)
  zip_append [] us [] vs zip more = more
  zip_append [] us (y ∷ ys) vs zip more = absurd zip
  zip_append (x ∷ xs) us [] vs zip more = absurd zip
  zip_append (x ∷ xs) us (y ∷ ys) vs zip more = (zip.0, zip_append xs us ys vs zip.1 more)

  -- one item more
  pub zip_more : (xs : List A) (i : ℕ) (d : A) (ys : List B) (y : B) (all : List B) → i < length xs → AllZip R (take i xs) ys → R (get_or xs i d) y → all ≡ ys ++ y ∷ []
      → AllZip R (take (i + 1) xs) all
  zip_more xs i d ys y all there zip is pushed =
      subst (AllZip R (take (i + 1) xs)) (sym pushed)
      (subst (λ front. AllZip R front (ys ++ y ∷ [])) (sym (take_more xs i d there)) (zip_append (take i xs) (get_or xs i d ∷ []) ys (y ∷ []) zip (is, tt)))

  -- what stands for the first of the items, for one of them and for the others
  pub record AreZippedApart (xs : List A) (x : A) (us : List A) (all : List B) : Type 0 where
    pub front : List B
    pub here : B
    pub back : List B
    pub joined : all ≡ front ++ here ∷ back
    pub is_front : AllZip R xs front
    pub is_here : R x here

  pub zip_apart : (xs : List A) (x : A) (us : List A) (all : List B) → AllZip R (xs ++ x ∷ us) all → AreZippedApart xs x us all
  zip_apart [] x us [] zip = absurd zip
  zip_apart [] x us (y ∷ all) zip = record { front = []; here = y; back = all; joined = refl; is_front = tt; is_here = zip.0 }
  zip_apart (z ∷ xs) x us [] zip = absurd zip
  zip_apart (z ∷ xs) x us (y ∷ all) zip =
      let apart = zip_apart xs x us all zip.1 in
      record {
        front = y ∷ apart.front;
        here = apart.here;
        back = apart.back;
        joined = ap (λ ys. y ∷ ys) apart.joined;
        is_front = (zip.0, apart.is_front);
        is_here = apart.is_here;
      }

  -- where each item has one that stands for it, a list has one that does
  pub zip_single : ((x : A) (y z : B) → R x y → R x z → y ≡ z) → (xs : List A) (ys zs : List B) → AllZip R xs ys → AllZip R xs zs → ys ≡ zs
  zip_single single [] [] [] one other = refl
  zip_single single [] [] (z ∷ zs) one other = absurd other
  zip_single single [] (y ∷ ys) zs one other = absurd one
  zip_single single (x ∷ xs) [] zs one other = absurd one
  zip_single single (x ∷ xs) (y ∷ ys) [] one other = absurd other
  zip_single single (x ∷ xs) (y ∷ ys) (z ∷ zs) one other = cons_same (single x y z one.0 other.0) (zip_single single xs ys zs one.1 other.1)
    where
      cons_same : {a b : B} {xs us : List B} → a ≡ b → xs ≡ us → a ∷ xs ≡ b ∷ us
      cons_same p q = cc
