-- Rows of points marked edge by edge.
use Rattle.std.specs.Prelude.{◌↔◌, ◌&&◌, int_le, int_lt, All, count_by, if◌then◌else◌}
use Rattle.std.specs.Int.{bit_at}
use Rattle.std.proofs.Common.{◌≡◌, ℕ, ◌+◌, ◌*◌, ◌/◌, ◌%◌, ◌<◌, Bool, true, false, not, nat_lt, List, [], ◌∷◌, length, filter, take, replicate, get_or, ℤ, pos, refl, arith, ap, ap₂, sym, subst, ◌∙◌, inl, inr, zero-add}
use Rattle.std.proofs.lemmas.Bool.{false≢true, cases_lt}
use Rattle.std.proofs.lemmas.Bool.Decides.{nat_tests}
use Rattle.std.proofs.lemmas.Int.{ints}
use Rattle.std.proofs.lemmas.List.{get_or-replicate, get_or-take, get_or_past, length-replicate, length-take, take-take}
use Rattle.std.proofs.lemmas.List.Elements.{All-more, All-take, All-weaker}
use Rattle.std.proofs.lemmas.List.Sums.{sum_by-cons}
use Rattle.std.proofs.lemmas.Nat.Bits.{bit_at-zero}
use Rattle.plane_exact.specs.Plane.{GridPoint, IsBetween}
use Rattle.plane_exact.specs.declared.point.Seg.{Seg}
use Rattle.engrave_model.specs.Inside.{IsInside, is_counted}
use Rattle.evenodd_region.specs.Lookup.{Bands, band_of, lies_in}
use Rattle.evenodd_region.specs.Meetings.{AreMarked, AreOffOutline, IsMeeting, LiesOn, is_marked_by, point_of}
use Rattle.evenodd_region.specs.RowBits.{IsCleared, IsRowOf, IsSetIn, bit_in, is_between}
use Rattle.evenodd_region.specs.declared.meeting.Meeting.{Meeting}
use Rattle.evenodd_region.specs.declared.meeting.Row.{Row}
use Rattle.evenodd_region.proofs.InBand.{all_off, inside_by_band, off_all}
use Rattle.evenodd_region.proofs.RowMeets.{is_le, not_less, told_not_less}

-- ---- the points at which an odd number of edges is counted

zero_word : (n k : ℕ) → let words : List ℕ = replicate n 0 in get_or words k 0 ≡ 0
zero_word n k = elim (cases_lt k n) [
  | inl inside ↦ get_or-replicate n k 0 0 inside
  | inr past ↦ get_or_past (replicate n 0) k 0 (simp length-replicate past)
]

pub none_marked : (row : Row) (words : List ℕ) (n : ℕ) → words ≡ replicate n 0 → AreMarked row [] words
none_marked row words n clear =
    record { bits = λ i. ap (λ ws. bit_in ws i) clear ∙ ap (λ w. bit_at w (i % 64)) (zero_word n (i / 64)) ∙ bit_at-zero (i % 64) }

-- ---- the points that lie on an edge

covered : (c l r : Bool) → not (c && l) && (c && r) ≡ true → (c ≡ true) × ((l ≡ false) × (r ≡ true))
covered true true r h = grind arith
covered true false true h = (refl, (refl, refl))
covered true false false h = grind arith
covered false l r h = grind arith

between_is : (from end i : ℕ) → is_between from end i ≡ not (nat_lt i from) && nat_lt i end
between_is from end i = grind (arith, nat_tests)

true_lt : (m n : ℕ) → nat_lt m n ≡ true → m < n
true_lt m n is = grind (arith, nat_tests)

lt_true : (m n : ℕ) → m < n → nat_lt m n ≡ true
lt_true m n less = grind (arith, nat_tests)

module _ (row : Row) (edges : List Seg) (k : ℕ) (e : Seg) (below : k < length edges) (read : e ≡ get_or edges k e) (m : Meeting) (meets : IsMeeting row e m) where
  module _ (from end : ℕ)
      (before : (i : ℕ) → nat_lt i from ≡ (nat_lt i row.count && int_lt (pos (i * m.step)) m.from))
      (through : (i : ℕ) → nat_lt i end ≡ (nat_lt i row.count && int_le (pos (i * m.step)) m.to)) where
    here_is : (i : ℕ) → is_between from end i ≡ not (nat_lt i row.count && int_lt (pos (i * m.step)) m.from) && (nat_lt i row.count && int_le (pos (i * m.step)) m.to)
    here_is i = between_is from end i ∙ ap₂ (λ f e. not f && e) (before i) (through i)

    lies_here : (i : ℕ) → LiesOn row i e → is_between from end i ≡ true
    lies_here i lies =
        let within = (meets.on i).0 lies.1 in
        let left = not_less (pos (i * m.step)) m.from within.low in
        let right = is_le (pos (i * m.step)) m.to within.high in
        here_is i ∙ rw (lt_true i row.count lies.0, left, right) refl

    here_lies : (i : ℕ) → is_between from end i ≡ true → LiesOn row i e
    here_lies i here =
        let told = covered (nat_lt i row.count) (int_lt (pos (i * m.step)) m.from) (int_le (pos (i * m.step)) m.to) (sym (here_is i) ∙ here) in (
          true_lt i row.count told.0,
          (meets.on i).1 (record { low = told_not_less (pos (i * m.step)) m.from (sym told.1.0); high = let is = told.1.1 in omega (arith, ints) }),
        )

    pub off_more : (old words new : List ℕ) → AreOffOutline row (take k edges) old words → IsCleared (is_between from end) words new
        → AreOffOutline row (take (k + 1) edges) old new
    off_more old words new off cleared = record { bits = λ i. by_place i (is_between from end i) refl }
      where
        by_place : (i : ℕ) (here : Bool) → is_between from end i ≡ here → IsSetIn new i ↔ (IsSetIn old i × All (λ e. ¬ LiesOn row i e) (take (k + 1) edges))
        by_place i true here =
            let none : bit_in new i ≡ 0 = cleared.bits i ∙ ap (λ b. if b then 0 else bit_in words i) here in (
              (λ set. absurd (omega arith)),
              (λ both. absurd (subst (λ e. ¬ LiesOn row i e) (get_or-take (k + 1) edges k e (omega arith) ∙ sym read)
                  (both.1 k e (simp length-take (omega arith))) (here_lies i here))),
            )
        by_place i false here =
            let P : Seg → Type 0 = λ e. ¬ LiesOn row i e in
            let same : bit_in new i ≡ bit_in words i = cleared.bits i ∙ ap (λ b. if b then 0 else bit_in words i) here in (
              (λ set.
                  let was = (off.bits i).0 (sym same ∙ set) in
                  (was.0, All-more P edges k e below was.1 (subst P read (λ lies. false≢true (sym here ∙ lies_here i lies))))),
              (λ both. same ∙ (off.bits i).1 (both.0, subst (All P) (take-take k (k + 1) edges (omega arith)) (All-take P k (take (k + 1) edges) both.1))),
            )

-- ---- both together

count_false : (xs : List Seg) → count_by (λ e. false) xs ≡ 0
count_false [] = refl
count_false (x ∷ xs) = sum_by-cons (λ e. 0) x xs ∙ zero-add _ ∙ count_false xs

count_asked : (b : Bool) (p : Seg → Bool) (xs : List Seg) → count_by (λ e. b && p e) xs % 2 ≡ 1 → (b ≡ true) × (count_by p xs % 2 ≡ 1)
count_asked true p xs odd = (refl, odd)
count_asked false p xs odd = let none = count_false xs in absurd (omega arith)

pub row_is : (row : Row) (edges : List Seg) (marked words : List ℕ) → AreMarked row edges marked → AreOffOutline row edges marked words
    → (i : ℕ) → IsSetIn words i ↔ ((i < row.count) × IsInside edges (point_of row i))
row_is row edges marked words are off i =
    let On : Seg → Type 0 = λ e. IsBetween e.a e.b (point_of row i) in (
      (λ set.
          let was = (off.bits i).0 set in
          let told = count_asked (nat_lt i row.count) (is_counted (point_of row i)) edges (sym (are.bits i) ∙ was.0) in
          let within = true_lt i row.count told.0 in
          (within, record { off_outline = off_all On edges (All-weaker (λ e. ¬ LiesOn row i e) (λ e. ¬ On e) (λ e free on. free (within, on)) edges was.1); odd = told.1 })),
      (λ both.
          let asked : count_by (is_marked_by row i) edges ≡ count_by (is_counted (point_of row i)) edges =
          ap (λ b. count_by (λ e. b && is_counted (point_of row i) e) edges) (lt_true i row.count both.0) in
          (off.bits i).1 (
            are.bits i ∙ ap (λ n. n % 2) asked ∙ both.1.odd,
            All-weaker (λ e. ¬ On e) (λ e. ¬ LiesOn row i e) (λ e free lies. free lies.1) edges (all_off On edges both.1.off_outline),
          )),
    )

pub answered_row : (row : Row) (bands : Bands) (edges band : List Seg) (marked words : List ℕ) (y x0 r : ℤ) → row.start ≡ record { x = x0; y = y } → r ≡ y
    → band ≡ filter (lies_in bands (band_of bands r)) edges → AreMarked row band marked → AreOffOutline row band marked words
    → IsRowOf edges y x0 row.pitch row.count words
answered_row row bands edges band marked words y x0 r start_is r_is band_is are off =
    subst (λ (p : GridPoint). IsRowOf edges p.y p.x row.pitch row.count words) start_is (record {
      inside = λ i.
          let told = row_is row band marked words are off i in
          let at_row : r ≡ row.start.y = r_is ∙ sym (ap (λ (p : GridPoint). p.y) start_is) in
          let same = band_is ∙ ap (λ z. filter (lies_in bands (band_of bands z)) edges) at_row in
          let by = inside_by_band row.start.y (point_of row i) (record { low = omega (arith, ints); high = omega (arith, ints) }) bands edges in (
            (λ set. let yes = told.0 set in (yes.0, by.0 (subst (λ es. IsInside es (point_of row i)) same yes.1))),
            (λ both. told.1 (both.0, subst (λ es. IsInside es (point_of row i)) (sym same) (by.1 both.1))),
          );
    })
