-- Which points of a lattice moves remove: row by row, move by move, and as the words of each row.
use Rattle.std.specs.Prelude.{◌↔◌, ◌⊎◌, Any, ℤ, pos, ◌+ℤ◌}
use Rattle.std.proofs.Common.{◌≡◌, ◌≢◌, ℕ, ◌+◌, ◌-◌, ◌*◌, ◌/◌, ◌<◌, ◌≤◌, List, [], length, get_or, drop, min, take, replicate, arith, ap, refl, subst, sym, ◌∙◌, inl, inr, mul-le-mul_right}
use Rattle.std.proofs.lemmas.Bool.{cases_eq, cases_lt}
use Rattle.std.proofs.lemmas.Int.{ints}
use Rattle.std.proofs.lemmas.List.{get_or-take, get_or_default, length-drop, length-take}
use Rattle.plane_exact.specs.Cone.{Cone}
use Rattle.plane_exact.specs.Plane.{GridPoint, rational}
use Rattle.plane_exact.specs.declared.moves.LineMove.{LineMove}
use Rattle.plane_exact.specs.declared.moves.Move.{Move}
use Rattle.engrave_model.specs.Removal.{Removes}
use Rattle.evenodd_region.specs.RowBits.{IsSetIn, bit_in, point_of_row}
use Rattle.coverage_report.specs.Cuts.{AreAdded, AreBelow, AreCutsOf, AreKeptBehind, AreRowCuts, AreWithout, IsCut, IsCutAt, IsRowCutBy, row_words}
use Rattle.coverage_report.specs.Lattices.{PointLattice, row_at}
use Rattle.swept_move.specs.Row.{IsBand}
use Rattle.coverage_report.specs.Rows.{PointRow}
use Rattle.coverage_report.specs.Taken.{AreSpared}
use Rattle.coverage_report.proofs.CutBits.{none_past, none_set, row_bit}

-- a point of the lattice
abbrev pub point_at : PointLattice → (k i : ℕ) → GridPoint
point_at lattice k i = point_of_row (row_at lattice k).y lattice.x lattice.pitch i

-- the same of the rows from `from` to below `end` only
pub record AreAddedIn (IsSo : GridPoint → Type 0) (lattice : PointLattice) (width from end : ℕ) (old new : List ℕ) : Type 0 where
  pub behind : AreKeptBehind lattice width old new
  pub bits : (k i : ℕ) → k < lattice.rows → i < lattice.columns
      → IsCutAt width k i new ↔ (IsCutAt width k i old ⊎ ((from ≤ k) × (k < end) × IsSo (point_at lattice k i)))

-- ---- the rows that a move can reach

module _ (cone : Cone) (mv : Move) (lattice : PointLattice) (width : ℕ) (wide : width ≡ (lattice.columns + 63) / 64) where
  abbrev IsGone : GridPoint → Type 0
  IsGone p = Removes cone mv (rational p)

  -- no row yet
  pub none_in : (from : ℕ) (words : List ℕ) → AreAddedIn IsGone lattice width from from words words
  none_in from words = record {
    behind = λ k i below past short. refl;
    bits = λ k i below within. (
      (λ set. inl set),
      (λ either. elim either [ inl set ↦ set | inr more ↦ let low = more.0 in let high = more.1 in absurd (omega arith) ]),
    );
  }

  -- the bits of another row are not among those of the row k
  beside_row : (j k i : ℕ) → i < 64 * width → j ≢ k
      → (64 * (j * width) + i < 64 * (k * width)) ⊎ ((64 * (k * width) + lattice.columns) ≤ 64 * (j * width) + i)
  beside_row j k i within other = elim (cases_lt j k) [
    | inl low ↦ let up : (j + 1) * width ≤ k * width = mul-le-mul_right width (omega arith) in inl (omega arith)
    | inr high ↦ let up : (k + 1) * width ≤ j * width = mul-le-mul_right width (omega arith) in inr (omega arith)
  ]

  module _ (from k : ℕ) (old words new : List ℕ) (row : PointRow) (is : row ≡ row_at lattice k) (cut : IsRowCutBy cone mv row (k * width) words new) where
    cut_here : IsRowCutBy cone mv (row_at lattice k) (k * width) words new
    cut_here = subst (λ row. IsRowCutBy cone mv row (k * width) words new) is cut

    -- one row more
    pub row_more : from ≤ k → AreAddedIn IsGone lattice width from k old words → AreAddedIn IsGone lattice width from (k + 1) old new
    row_more low added = record {
      behind = λ j i below past short. elim (cases_eq j k) [
        | inl same ↦
            subst (λ j. bit_in new (64 * (j * width) + i) ≡ bit_in old (64 * (j * width) + i)) (sym same)
            (cut_here.others (64 * (k * width) + i) (inr (omega arith)) ∙ subst (λ j. bit_in words (64 * (j * width) + i) ≡ bit_in old (64 * (j * width) + i)) same (added.behind j i below past short))
        | inr other ↦ cut_here.others (64 * (j * width) + i) (beside_row j k i short other) ∙ added.behind j i below past short
      ];
      bits = λ j i below within. elim (cases_eq j k) [
        | inl same ↦ subst (λ j. IsCutAt width j i new ↔ (IsCutAt width j i old ⊎ ((from ≤ j) × (j < k + 1) × IsGone (point_at lattice j i)))) (sym same)
            (let here = cut_here.here i within in
            let was = added.bits k i (omega arith) within in (
              (λ set. elim (here.0 set) [
                | inl before ↦ elim (was.0 before) [ inl first ↦ inl first | inr more ↦ inr (more.0, omega arith, more.2) ]
                | inr gone ↦ inr (low, omega arith, gone)
              ]),
              (λ either. elim either [ inl first ↦ here.1 (inl (was.1 (inl first))) | inr more ↦ here.1 (inr more.2) ]),
            ))
        | inr other ↦
            let kept : bit_in new (64 * (j * width) + i) ≡ bit_in words (64 * (j * width) + i) = cut_here.others (64 * (j * width) + i) (beside_row j k i (omega arith) other) in
            let was = added.bits j i below within in (
              (λ set. elim (was.0 (sym kept ∙ set)) [ inl first ↦ inl first | inr more ↦ inr (more.0, (let less = more.1 in omega arith), more.2) ]),
              (λ either. elim either [
                | inl first ↦ kept ∙ was.1 (inl first)
                | inr more ↦ kept ∙ was.1 (inr (more.0, (let less = more.1 in omega arith), more.2))
              ]),
            )
      ];
    }

  -- these rows are all that it removes points of
  pub rows_cut : (low high : ℤ) (from end k : ℕ) (old new : List ℕ) → IsBand cone mv low high → AreBelow lattice.y lattice.pitch lattice.rows low from
      → AreBelow lattice.y lattice.pitch lattice.rows (high +ℤ pos 1) end → end ≤ k → AreAddedIn IsGone lattice width from k old new → AreAdded IsGone lattice width old new
  rows_cut low high from end k old new band below through last added = record {
    behind = added.behind;
    bits = λ j i within column.
        let was = added.bits j i within column in (
          (λ set. elim (was.0 set) [ inl first ↦ inl first | inr more ↦ inr more.2 ]),
          (λ either. elim either [
            | inl first ↦ was.1 (inl first)
            | inr gone ↦
                let held = band (point_at lattice j i) gone in
                let above = held.0 in
                let under = held.1 in
                let before : j < end = (through.are j within).1 (omega (arith, ints)) in
                was.1 (inr ((elim (cases_lt j from) [ inl early ↦ (let less = (below.are j within).0 early in absurd (omega (arith, ints))) | inr behind ↦ behind ]), omega arith, gone))
          ]),
        );
  }

  -- it removes no point
  pub none_gone : (words : List ℕ) → ((p : GridPoint) → ¬ IsGone p) → AreAdded IsGone lattice width words words
  none_gone words none = record {
    behind = λ k i below past short. refl;
    bits = λ k i below within. ((λ set. inl set), (λ either. elim either [ inl set ↦ set | inr gone ↦ absurd (none (point_at lattice k i) gone) ]));
  }

-- ---- the words of a row

pub words_long : (width k : ℕ) (words : List ℕ) → (k + 1) * width ≤ length words → length (row_words width k words) ≡ width
words_long width k words room =
    let more : (k + 1) * width ≡ k * width + width = omega arith in
    length-take ((k + 1) * width - k * width) (drop (k * width) words) ∙ ap (min ((k + 1) * width - k * width)) (length-drop (k * width) words) ∙ omega arith

-- ---- all moves

module _ {X : Type 0} (P : X → Type 0) (xs : List X) (n : ℕ) (within : n < length xs) where
  shorter : length (take n xs) ≡ n
  shorter = length-take n xs ∙ omega arith

  longer : length (take (n + 1) xs) ≡ n + 1
  longer = length-take (n + 1) xs ∙ omega arith

  -- one of the first n has it, so one of the first n + 1
  any_before : Any P (take n xs) → Any P (take (n + 1) xs)
  any_before (k, x, below, is, so) =
      let short = shorter in
      let long = longer in
      (k, x, omega arith, get_or-take (n + 1) xs k x (omega arith) ∙ sym (get_or-take n xs k x (omega arith)) ∙ is, so)

  any_last : (x : X) → x ≡ get_or xs n x → P x → Any P (take (n + 1) xs)
  any_last x is so = let long = longer in (n, x, omega arith, get_or-take (n + 1) xs n x (omega arith) ∙ sym is, so)

  -- the other way
  any_earlier : (x : X) → x ≡ get_or xs n x → Any P (take (n + 1) xs) → Any P (take n xs) ⊎ P x
  any_earlier x is (k, y, below, at, so) =
      let short = shorter in
      let long = longer in
      let read : get_or xs k y ≡ y = sym (get_or-take (n + 1) xs k y (omega arith)) ∙ at in
      elim (cases_eq k n) [
        | inl same ↦ inr (subst P (sym read ∙ get_or_default xs k y x (omega arith) ∙ ap (λ k. get_or xs k x) same ∙ sym is) so)
        | inr other ↦ inl (k, y, omega arith, get_or-take n xs k y (omega arith) ∙ read, so)
      ]

module _ (cone : Cone) (lattice : PointLattice) (width : ℕ) (moves : List LineMove) where
  -- no move yet
  pub none_by : (words : List ℕ) → AreAdded (IsCut cone []) lattice width words words
  none_by words = record {
    behind = λ k i below past short. refl;
    bits = λ k i below within. ((λ set. inl set), (λ either. elim either [ inl set ↦ set | inr (j, move, low, is, gone) ↦ absurd (omega arith) ]));
  }

  -- one more
  pub move_more : (n : ℕ) (move : LineMove) (old words new : List ℕ) → n < length moves → move ≡ get_or moves n move → AreAdded (IsCut cone (take n moves)) lattice width old words
      → AreAdded (λ p. Removes cone move.mv (rational p)) lattice width words new → AreAdded (IsCut cone (take (n + 1) moves)) lattice width old new
  move_more n move old words new within read added more = record {
    behind = λ k i below past short. more.behind k i below past short ∙ added.behind k i below past short;
    bits = λ k i below column.
        let p = point_at lattice k i in
        let P : LineMove → Type 0 = λ move. Removes cone move.mv (rational p) in
        let was = added.bits k i below column in
        let now = more.bits k i below column in (
          (λ set. elim (now.0 set) [
            | inl before ↦ elim (was.0 before) [ inl first ↦ inl first | inr gone ↦ inr (any_before P moves n within gone) ]
            | inr gone ↦ inr (any_last P moves n within move read gone)
          ]),
          (λ either. elim either [
            | inl first ↦ now.1 (inl (was.1 (inl first)))
            | inr gone ↦ elim (any_earlier P moves n within move read gone) [ inl before ↦ now.1 (inl (was.1 (inr before))) | inr here ↦ now.1 (inr here) ]
          ]),
        );
  }

  -- all of them, and no bit was set before: then the bits behind those of a row's points are 0
  pub cuts_are : (n : ℕ) (old new : List ℕ) → width ≡ (lattice.columns + 63) / 64 → old ≡ replicate n 0 → length new ≡ lattice.rows * width
      → AreAdded (IsCut cone moves) lattice width old new → AreCutsOf cone moves lattice width new
  cuts_are n old new wide clear all added = record {
    wide = wide;
    all = all;
    rows = λ k below. record {
      bits = λ i.
          let none : bit_in old (64 * (k * width) + i) ≡ 0 = ap (λ ws. bit_in ws (64 * (k * width) + i)) clear ∙ none_set n (64 * (k * width) + i) in
          elim (cases_lt i lattice.columns) [
            | inl within ↦
                let same = row_bit width k i new (omega arith) in
                let told = added.bits k i below within in (
                  (λ set. elim (told.0 (sym same ∙ set)) [ inl before ↦ absurd (omega arith) | inr gone ↦ (within, gone) ]),
                  (λ both. same ∙ told.1 (inr both.1)),
                )
            | inr past ↦ (
              (λ set. elim (cases_lt i (64 * width)) [
                | inl short ↦
                    let same = row_bit width k i new (omega arith) in
                    let kept = added.behind k i below (omega arith) short in
                    absurd (omega arith)
                | inr beyond ↦
                    let up : (k + 1) * width ≤ lattice.rows * width = mul-le-mul_right width (omega arith) in
                    let long = words_long width k new (omega arith) in
                    let unset = none_past (row_words width k new) i (omega arith) in
                    absurd (omega arith)
              ]),
              (λ both. let within = both.0 in absurd (omega arith)),
            )
          ];
    };
  }

-- ---- a row of the grid

module _ (cone : Cone) (moves : List LineMove) where
  -- of points that are marked, those that aren't cut stay marked
  pub spared_of : (row : PointRow) (cut old new : List ℕ) → ((i : ℕ) → IsSetIn old i → i < row.count) → AreRowCuts cone moves row cut → AreWithout cut old new
      → AreSpared cone moves row old new
  spared_of row cut old new behind cuts without = record {
    bits = λ i. let now = without.bits i in (
      (λ set. let was = now.0 set in (was.0, λ gone. was.1 ((cuts.bits i).1 (behind i was.0, gone)))),
      (λ both. now.1 (both.0, λ there. both.1 ((cuts.bits i).0 there).1)),
    );
  }

  module _ (lattice : PointLattice) (width : ℕ) (words : List ℕ) (are : AreCutsOf cone moves lattice width words) (k : ℕ) (below : k < lattice.rows) where
    pub row_room : (k + 1) * width ≤ length words
    row_room = let all = are.all in let up : (k + 1) * width ≤ lattice.rows * width = mul-le-mul_right width (omega arith) in omega arith

    pub row_long : (cut : List ℕ) → cut ≡ row_words width k words → length cut ≡ (lattice.columns + 63) / 64
    row_long cut is = ap length is ∙ words_long width k words row_room ∙ are.wide

    pub row_of : (row : PointRow) (cut : List ℕ) → row ≡ row_at lattice k → cut ≡ row_words width k words → AreRowCuts cone moves row cut
    row_of row cut row_is cut_is =
        subst (λ row. AreRowCuts cone moves row cut) (sym row_is) (subst (AreRowCuts cone moves (row_at lattice k)) (sym cut_is) (are.rows k below))
