-- Bands that are filled edge by edge.
use Rattle.std.proofs.Common.{◌≡◌, ℕ, ◌+◌, ◌<◌, ◌≤◌, Bool, true, false, ◌&&◌, cond, nat_le, nat_lt, min, max, ℤ, List, [], ◌∷◌, ◌++◌, length, map, take, set, get_or, filter, arith, ap, ap₂, sym, ◌∙◌, inl, inr}
use Rattle.std.proofs.lemmas.Bool.{cases_eq}
use Rattle.std.proofs.lemmas.Bool.Decides.{nat_tests}
use Rattle.std.proofs.lemmas.List.{append-nil, length-map, length-set, get_or-map, get_or-set_same, get_or-set_other, map-set}
use Rattle.std.proofs.lemmas.List.Elements.{filter_more}
use Rattle.plane_exact.specs.declared.point.Seg.{Seg}
use Rattle.evenodd_region.specs.Layouts.{IsAdded, banded}
use Rattle.evenodd_region.specs.Lookup.{AreBandsOf, band_number, is_among, lies_in}
use Rattle.evenodd_region.specs.declared.bands.Layout.{Layout}

-- ---- one edge, band by band

abbrev pub is_from : (first end k : ℕ) → Bool
is_from first end k = nat_le first k && nat_lt k end

-- what an edge adds to a band
abbrev part : Seg → Bool → List Seg
part e here = cond here (e ∷ []) []

module _ (e : Seg) (first band : ℕ) (old new : List (List Seg)) (before : first ≤ band) (within : band < length new) (added : IsAdded e (is_from first band) old new) where
  added_next : IsAdded e (is_from first (band + 1)) old (set new band (get_or new band [] ++ e ∷ []))
  added_next = record {
    count = length-set new band _ ∙ added.count;
    each = λ k. elim (cases_eq k band) [
      | inl here ↦ at_band k here
      | inr other ↦
          let same : is_from first band k ≡ is_from first (band + 1) k = grind (arith, nat_tests) in
          get_or-set_other new band k _ [] other ∙ added.each k ∙ ap (λ b. get_or old k [] ++ part e b) same
    ];
  }
    where
      at_band : (k : ℕ) → k ≡ band → get_or (set new band (get_or new band [] ++ e ∷ [])) k [] ≡ get_or old k [] ++ part e (is_from first (band + 1) k)
      at_band k here =
          let now : is_from first (band + 1) k ≡ true = grind (arith, nat_tests) in
          let not_yet : is_from first band band ≡ false = grind (arith, nat_tests) in
          let was : get_or new band [] ≡ get_or old band [] = added.each band ∙ ap (λ b. get_or old band [] ++ part e b) not_yet ∙ append-nil _ in
          rw (now, here) (get_or-set_same new band _ [] within ∙ ap (λ xs. xs ++ e ∷ []) was)

module _ {V : Type 0} (items : V → List Seg) where
  pub pushed_next : (e : Seg) (first band : ℕ) (old : List (List Seg)) (vs : List V) (v w : V) → first ≤ band → band < length vs
      → w ≡ get_or vs band w → items v ≡ items w ++ e ∷ []
      → IsAdded e (is_from first band) old (map items vs) → IsAdded e (is_from first (band + 1)) old (map items (set vs band v))
  pushed_next e first band old vs v w before within read pushed added =
      let is : map items (set vs band v) ≡ set (map items vs) band (get_or (map items vs) band [] ++ e ∷ []) =
      map-set items vs band v ∙ ap (set (map items vs) band) (pushed ∙ ap (λ xs. xs ++ e ∷ []) (ap items read ∙ sym (get_or-map items vs band w [] within))) in
      let within_too : band < length (map items vs) = simp length-map within in
      rw is (added_next e first band old (map items vs) before within_too added)

from_among : (a b k : ℕ) → is_from (min a b) (max a b + 1) k ≡ is_among a b k
from_among a b k = grind (arith, nat_tests)

-- ---- all edges

module _ (layout : Layout) where
  abbrev number : ℤ → ℕ
  number = band_number layout.low layout.height layout.count

  -- the edge lies in the band k
  abbrev lies : ℕ → Seg → Bool
  lies k e = is_among (number e.a.y) (number e.b.y) k

  lies_is : (lists : List (List Seg)) (k : ℕ) → length lists ≡ layout.count → lies_in (banded layout lists) k ≡ lies k
  lies_is lists k count = ap (λ n e. is_among (band_number layout.low layout.height n e.a.y) (band_number layout.low layout.height n e.b.y) k) count

  pub more_filled : (edges : List Seg) (lists more : List (List Seg)) (i : ℕ) (e : Seg) → i < length edges → e ≡ get_or edges i e → length lists ≡ layout.count
      → IsAdded e (is_from (min (number e.a.y) (number e.b.y)) (max (number e.a.y) (number e.b.y) + 1)) lists more
      → AreBandsOf (banded layout lists) (take i edges) → AreBandsOf (banded layout more) (take (i + 1) edges)
  more_filled edges lists more i e below read count added bands =
      let count_more : length more ≡ layout.count = added.count ∙ count in
      let some = layout.some_bands in
      record {
        some = omega arith;
        each = λ k within.
            let a = number e.a.y in
            let b = number e.b.y in
            let among : is_from (min a b) (max a b + 1) k ≡ lies k e = from_among a b k in
            added.each k
            ∙ ap₂ (λ xs here. xs ++ part e here) (bands.each k (omega arith) ∙ ap (λ t. filter t (take i edges)) (lies_is lists k count)) among
            ∙ ap (λ x. filter (lies k) (take i edges) ++ part x (lies k x)) read
            ∙ sym (ap (λ t. filter t (take (i + 1) edges)) (lies_is more k count_more) ∙ filter_more (lies k) edges i e below);
      }
