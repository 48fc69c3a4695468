-- Unused segments in their slots, and the first of them at a point.
use Rattle.std.proofs.Common.{◌≡◌, ℕ, zero, suc, ◌<◌, true, false, Option, None, Some, List, [], ◌∷◌, map, get_or, set, ap, ◌∙◌, refl, arith}
use Rattle.std.specs.List.{find}
use Rattle.std.specs.Option.{is_some}
use Rattle.plane_exact.specs.Plane.{GridPoint}
use Rattle.plane_exact.specs.declared.point.Seg.{Seg}
use Rattle.loop_join.specs.Ends.{has_end, without_first}
use Rattle.loop_join.specs.Index.{is_end_in, unused_in}

-- ---- slots
pub unused_in-all : (segs : List Seg) → unused_in (map Some segs) ≡ segs
unused_in-all [] = refl
unused_in-all (s ∷ segs) = ap (λ rest. s ∷ rest) (unused_in-all segs)

pub unused_in-none : (slots : List (Option Seg)) → ((j : ℕ) → get_or slots j None ≡ None) → unused_in slots ≡ []
unused_in-none [] none = refl
unused_in-none (None ∷ slots) none = unused_in-none slots (λ j. none (suc j))
unused_in-none (Some s ∷ slots) none = absurd (let first = none 0 in cc)

-- the first slot with a segment
pub unused_in-first : (slots : List (Option Seg)) (n : ℕ) (s : Seg) → get_or slots n None ≡ Some s → ((j : ℕ) → j < n → get_or slots j None ≡ None) → unused_in slots ≡ s ∷ unused_in (set slots n None)
unused_in-first [] n s here none = absurd (cc)
unused_in-first (None ∷ slots) zero s here none = absurd (cc)
unused_in-first (Some t ∷ slots) zero s here none = let same : t ≡ s = cc in ap (λ r. r ∷ unused_in slots) same
unused_in-first (None ∷ slots) (suc n) s here none = unused_in-first slots n s here (λ j less. none (suc j) (omega arith))
unused_in-first (Some t ∷ slots) (suc n) s here none = absurd (let first = none 0 (omega arith) in cc)

-- the first slot with a segment that ends at a point
pub find_none : (p : GridPoint) (slots : List (Option Seg)) → ((k : ℕ) → is_end_in p (get_or slots k None) ≡ false) → find (has_end p) (unused_in slots) ≡ None
find_none p [] none = refl
find_none p (None ∷ slots) none = find_none p slots (λ k. none (suc k))
find_none p (Some s ∷ slots) none = let past : has_end p s ≡ false = none 0 in rw past (find_none p slots (λ k. none (suc k)))

pub without_none : (p : GridPoint) (slots : List (Option Seg)) → ((k : ℕ) → is_end_in p (get_or slots k None) ≡ false) → without_first p (unused_in slots) ≡ unused_in slots
without_none p [] none = refl
without_none p (None ∷ slots) none = without_none p slots (λ k. none (suc k))
without_none p (Some s ∷ slots) none =
    let past : has_end p s ≡ false = none 0 in rw past (ap (λ rest. s ∷ rest) (without_none p slots (λ k. none (suc k))))

module _ (p : GridPoint) where
  -- slot n has the segment s, and is the first with one that ends at p
  pub record IsFirstAt (slots : List (Option Seg)) (n : ℕ) (s : Seg) : Type 0 where
    pub here : get_or slots n None ≡ Some s
    pub ends : has_end p s ≡ true
    pub none_before : (k : ℕ) → k < n → is_end_in p (get_or slots k None) ≡ false

  pub find_first : (slots : List (Option Seg)) (n : ℕ) (s : Seg) → IsFirstAt slots n s → find (has_end p) (unused_in slots) ≡ Some s
  find_first [] n s is = absurd (let here = is.here in cc)
  find_first (None ∷ slots) zero s is = absurd (let here = is.here in cc)
  find_first (Some t ∷ slots) zero s is = let here = is.here in let same : t ≡ s = cc in let ends = ap (has_end p) same ∙ is.ends in rw ends is.here
  find_first (None ∷ slots) (suc n) s is = find_first slots n s (record { here = is.here; ends = is.ends; none_before = λ k less. is.none_before (suc k) (omega arith) })
  find_first (Some t ∷ slots) (suc n) s is =
      let past : has_end p t ≡ false = is.none_before 0 (omega arith) in
      rw past (find_first slots n s (record { here = is.here; ends = is.ends; none_before = λ k less. is.none_before (suc k) (omega arith) }))

  pub without_first_at : (slots : List (Option Seg)) (n : ℕ) (s : Seg) → IsFirstAt slots n s → without_first p (unused_in slots) ≡ unused_in (set slots n None)
  without_first_at [] n s is = absurd (let here = is.here in cc)
  without_first_at (None ∷ slots) zero s is = absurd (let here = is.here in cc)
  without_first_at (Some t ∷ slots) zero s is = let here = is.here in let same : t ≡ s = cc in let ends = ap (has_end p) same ∙ is.ends in rw ends refl
  without_first_at (None ∷ slots) (suc n) s is = without_first_at slots n s (record { here = is.here; ends = is.ends; none_before = λ k less. is.none_before (suc k) (omega arith) })
  without_first_at (Some t ∷ slots) (suc n) s is =
      let past : has_end p t ≡ false = is.none_before 0 (omega arith) in
      rw past (ap (λ rest. t ∷ rest) (without_first_at slots n s (record { here = is.here; ends = is.ends; none_before = λ k less. is.none_before (suc k) (omega arith) })))

-- ---- an empty slot
pub is_none : {A : Type 0} (slot : Option A) → is_some slot ≡ false → slot ≡ None
is_none None empty = refl
is_none (Some s) empty = absurd (cc)
