-- A point is inside by the edges of its row's band alone: each edge that is counted there, or on which it lies, is in the band.
use Rattle.std.specs.Prelude.{◌⊎◌, int_le, not, ◌&&◌, if◌then◌else◌, count_by, Any, All, ◌↔◌}
use Rattle.std.proofs.Common.{◌≡◌, ℕ, zero, suc, ◌+◌, ◌/◌, ◌%◌, ◌≤◌, Bool, true, false, List, [], ◌∷◌, length, filter, get_or, ℤ, pos, negsuc, neg_ℤ, ◌+ℤ◌, ◌-ℤ◌, ◌*ℤ◌, ◌≤ℤ◌, refl, arith, ap, sym, subst, ◌∙◌, inl, inr, zero-add}
use Rattle.std.proofs.Math.Nat.{le-div_iff_mul-le, div-mul-le_self, div-zero}
use Rattle.std.proofs.lemmas.Bool.{false≢true}
use Rattle.std.proofs.lemmas.Bool.Decides.{nat_tests}
use Rattle.std.specs.Int.{int_max, int_min}
use Rattle.std.proofs.lemmas.Int.{ints, by_lt_z, clamps}
use Rattle.std.proofs.lemmas.List.{get_or_default}
use Rattle.std.proofs.lemmas.List.Elements.{All-cons, All-head, All-tail, All-filter}
use Rattle.std.proofs.lemmas.List.Sums.{sum_by-cons}
use Rattle.integer_algebra.proofs.Order.{cancel_le, cancel_lt, times_le, times_neg}
use Rattle.plane_exact.specs.Plane.{GridPoint, RationalPoint, IsBetween, IsCoordinate, rational}
use Rattle.plane_exact.specs.declared.point.Seg.{Seg}
use Rattle.plane_exact.proofs.Stored.{narrow}
use Rattle.engrave_model.specs.Inside.{IsInside, is_at_or_below, is_counted}
use Rattle.evenodd_region.specs.Lookup.{Bands, IsOfRow, band_number, band_of, is_among, lies_in, or_zero}
use Rattle.evenodd_region.proofs.Bounds.{edge_beyond}

-- ---- what a test leaves out

module _ {X : Type 0} where
  count_step : (p : X → Bool) (x : X) (ys xs : List X) (kept : Bool) → (p x ≡ true → kept ≡ true) → count_by p ys ≡ count_by p xs
      → count_by p (if kept then x ∷ ys else ys) ≡ count_by p (x ∷ xs)
  count_step p x ys xs true keeps same =
      let one : X → ℕ = λ x. if p x then 1 else 0 in
      sum_by-cons one x ys ∙ ap (λ n. one x + n) same ∙ sym (sum_by-cons one x xs)
  count_step p x ys xs false keeps same =
      let one : X → ℕ = λ x. if p x then 1 else 0 in
      let none : p x ≡ false = grind arith in
      same ∙ sym (sum_by-cons one x xs ∙ ap (λ (b : Bool). (if b then 1 else 0) + count_by p xs) none ∙ zero-add _)

  pub count_filtered : (p test : X → Bool) (xs : List X) → ((x : X) → p x ≡ true → test x ≡ true) → count_by p (filter test xs) ≡ count_by p xs
  count_filtered p test [] kept = refl
  count_filtered p test (x ∷ xs) kept = count_step p x (filter test xs) xs (test x) (kept x) (count_filtered p test xs kept)

  pub all_off : (P : X → Type 0) (xs : List X) → ¬ Any P xs → All (λ x. ¬ P x) xs
  all_off P xs none k d below holds = none (k, get_or xs k d, below, get_or_default xs k (get_or xs k d) d below, holds)

  pub off_all : (P : X → Type 0) (xs : List X) → All (λ x. ¬ P x) xs → ¬ Any P xs
  off_all P xs all some = all some.0 some.1 some.2 (subst P (sym some.3) some.4)

  off_step : (P : X → Type 0) (x : X) (ys xs : List X) (kept : Bool) → (P x → kept ≡ true) → (All (λ x. ¬ P x) ys → All (λ x. ¬ P x) xs)
      → All (λ x. ¬ P x) (if kept then x ∷ ys else ys) → All (λ x. ¬ P x) (x ∷ xs)
  off_step P x ys xs true keeps rest all = All-cons (λ x. ¬ P x) x xs (All-head (λ x. ¬ P x) x ys all) (rest (All-tail (λ x. ¬ P x) x ys all))
  off_step P x ys xs false keeps rest all = All-cons (λ x. ¬ P x) x xs (λ holds. false≢true (keeps holds)) (rest all)

  pub off_filtered : (P : X → Type 0) (test : X → Bool) (xs : List X) → ((x : X) → P x → test x ≡ true) → All (λ x. ¬ P x) (filter test xs) → All (λ x. ¬ P x) xs
  off_filtered P test [] kept all = all
  off_filtered P test (x ∷ xs) kept all = off_step P x (filter test xs) xs (test x) (kept x) (off_filtered P test xs kept) all

-- ---- the band of a row

mono_div : (m n k : ℕ) → m ≤ n → m / k ≤ n / k
mono_div m n zero le = omega (arith, div-zero m)
mono_div m n (suc k) le = let h = div-mul-le_self m (suc k) in (le-div_iff_mul-le (omega arith)).1 (omega arith)

mono_none : (y z : ℤ) → y ≤ℤ z → or_zero y ≤ or_zero z
mono_none (pos m) (pos n) le = omega (arith, ints)
mono_none (pos m) (negsuc n) le = absurd (omega (arith, ints))
mono_none (negsuc m) z le = omega arith

module _ (low : ℤ) (height count : ℕ) where
  mono_number : (y z : ℤ) → y ≤ℤ z → band_number low height count y ≤ band_number low height count z
  mono_number y z le =
      let above = mono_none (y -ℤ low) (z -ℤ low) (omega (arith, ints)) in
      let part = mono_div _ _ height above in
      omega arith

-- the row is among those from the one end to the other
abbrev Spans : ℤ → ℤ → ℤ → Type 0
Spans row a b = ((a ≤ℤ row) × (row ≤ℤ b)) ⊎ ((b ≤ℤ row) × (row ≤ℤ a))

among_up : (a b k : ℕ) → a ≤ k → k ≤ b → is_among a b k ≡ true
among_up a b k first last = grind (arith, nat_tests)

among_down : (a b k : ℕ) → b ≤ k → k ≤ a → is_among a b k ≡ true
among_down a b k first last = grind (arith, nat_tests)

spanned : (bands : Bands) (row : ℤ) (e : Seg) → Spans row e.a.y e.b.y → lies_in bands (band_of bands row) e ≡ true
spanned bands row e spans =
    elim spans [
      | inl up ↦
          let first = mono_number bands.low bands.height (length bands.edges) e.a.y row up.0 in
          let last = mono_number bands.low bands.height (length bands.edges) row e.b.y up.1 in
          among_up _ _ _ first last
      | inr down ↦
          let first = mono_number bands.low bands.height (length bands.edges) e.b.y row down.0 in
          let last = mono_number bands.low bands.height (length bands.edges) row e.a.y down.1 in
          among_down _ _ _ first last
    ]

module _ (row : ℤ) (w : RationalPoint) (of : IsOfRow row w) where
  row_reaches : (c : ℤ) → (w.over *ℤ c) ≤ℤ w.y → c ≤ℤ row
  row_reaches c below = let some = w.positive in let high = of.high in
      let less = cancel_lt w.over c (row +ℤ pos 1) (omega (arith, ints)) (omega (arith, ints)) in omega (arith, ints)

  row_below : (c : ℤ) → w.y ≤ℤ (w.over *ℤ c) → row ≤ℤ c
  row_below c above = let some = w.positive in let low = of.low in cancel_le w.over row c (omega (arith, ints)) (omega (arith, ints))

  -- a corner's row is compared with the row in place of the point's height
  pub same_side : (c : GridPoint) → int_le c.y row ≡ is_at_or_below c w
  same_side c =
      by_lt_z row c.y
      (λ above. let none : ¬ ((w.over *ℤ c.y) ≤ℤ w.y) = (λ below. let no = row_reaches c.y below in omega (arith, ints)) in grind (arith, ints))
      (λ below. let some = w.positive in let low = of.low in let least = times_le w.over c.y row (omega (arith, ints)) below in grind (arith, ints))

  counted_spans : (e : Seg) → is_counted w e ≡ true → Spans row e.a.y e.b.y
  counted_spans e counted = by_rows (is_at_or_below e.a w) (is_at_or_below e.b w) _ refl refl counted
    where
      by_rows : (starts ends right : Bool) → is_at_or_below e.a w ≡ starts → is_at_or_below e.b w ≡ ends
          → (if starts then not ends else ends) && right ≡ true → Spans row e.a.y e.b.y
      by_rows true true right a b passes = grind arith
      by_rows true false right a b passes = inl (row_reaches e.a.y (omega (arith, ints)), row_below e.b.y (omega (arith, ints)))
      by_rows false true right a b passes = inr (row_reaches e.b.y (omega (arith, ints)), row_below e.a.y (omega (arith, ints)))
      by_rows false false right a b passes = grind arith

  -- the row is within bounds of both ends' rows
  on_within : (a b : GridPoint) (low high : ℤ) → low ≤ℤ a.y → low ≤ℤ b.y → a.y ≤ℤ high → b.y ≤ℤ high → IsBetween a b w → (low ≤ℤ row) × (row ≤ℤ high)
  on_within a b low high a_low b_low a_high b_high on =
      let above = edge_beyond (pos 0) (pos 1) low a b w (omega (arith, ints)) (omega (arith, ints)) on in
      let below = edge_beyond (pos 0) (neg_ℤ (pos 1)) (neg_ℤ high) a b w (omega (arith, ints)) (omega (arith, ints)) on in
      let turned = times_neg w.over high in
      (row_reaches low (omega (arith, ints)), row_below high (omega (arith, ints)))

  pub on_reaches : (a b : GridPoint) → IsBetween a b w → (int_min a.y b.y ≤ℤ row) × (row ≤ℤ int_max a.y b.y)
  on_reaches a b on = on_within a b _ _ (omega (arith, ints, clamps)) (omega (arith, ints, clamps)) (omega (arith, ints, clamps)) (omega (arith, ints, clamps)) on

  on_spans : (e : Seg) → IsBetween e.a e.b w → Spans row e.a.y e.b.y
  on_spans e on =
      by_lt_z e.a.y e.b.y
      (λ up. inl (on_within e.a e.b e.a.y e.b.y (omega (arith, ints)) (omega (arith, ints)) (omega (arith, ints)) (omega (arith, ints)) on))
      (λ down. inr (on_within e.a e.b e.b.y e.a.y (omega (arith, ints)) (omega (arith, ints)) (omega (arith, ints)) (omega (arith, ints)) on))

  pub inside_by_band : (bands : Bands) (edges : List Seg) → IsInside (filter (lies_in bands (band_of bands row)) edges) w ↔ IsInside edges w
  inside_by_band bands edges =
      let test = lies_in bands (band_of bands row) in
      let On : Seg → Type 0 = λ e. IsBetween e.a e.b w in
      let same = count_filtered (is_counted w) test edges (λ e counted. spanned bands row e (counted_spans e counted)) in (
        (λ inside. record {
          off_outline = off_all On edges (off_filtered On test edges (λ e on. spanned bands row e (on_spans e on)) (all_off On (filter test edges) inside.off_outline));
          odd = ap (λ n. n % 2) (sym same) ∙ inside.odd;
        }),
        (λ inside. record {
          off_outline = off_all On (filter test edges) (All-filter test (λ e. ¬ On e) edges (all_off On edges inside.off_outline));
          odd = ap (λ n. n % 2) same ∙ inside.odd;
        }),
      )

  pub answered_by_band : (Yes : Type 0) (bands : Bands) (edges band : List Seg) → band ≡ filter (lies_in bands (band_of bands row)) edges
      → Yes ↔ IsInside band w → Yes ↔ IsInside edges w
  answered_by_band Yes bands edges band is told =
      let by = inside_by_band bands edges in (
        (λ yes. by.0 (subst (λ es. IsInside es w) is (told.0 yes))),
        (λ inside. told.1 (subst (λ es. IsInside es w) (sym is) (by.1 inside))),
      )

-- the row of a grid point, as the code reads it
pub row_of_grid : (r : ℤ) (p : GridPoint) → r ≡ p.y → IsCoordinate p.y → IsOfRow (narrow r) (rational p)
row_of_grid r p is range =
    let low = range.low in
    let high = range.high in
    record { low = omega (arith, ints); high = omega (arith, ints) }
