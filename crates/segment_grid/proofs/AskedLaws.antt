-- The asked parts of rows have every box that meets the asked one.
use Rattle.std.proofs.Common.{◌≡◌, ℕ, zero, suc, ◌+◌, ◌<◌, ◌≤◌, List, [], ◌∷◌, ◌++◌, take, drop, map, false, refl, sym, ap, ap₂, ◌∙◌, arith, ◌-ℤ◌, ℤ}
use Rattle.std.specs.Prelude.{flat_map}
use Rattle.std.specs.List.{All}
use Rattle.std.proofs.lemmas.List.{append-nil, take-append-drop}
use Rattle.std.proofs.lemmas.Bool.{and_left, and_right}
use Rattle.std.proofs.lemmas.List.Concat.{flat_map-append}
use Rattle.std.proofs.lemmas.List.Folds.{flat_map-map}
use Rattle.std.proofs.lemmas.List.Elements.{All-head, All-tail, All-take, All-weaker}
use Rattle.plane_exact.specs.Plane.{GridPoint}
use Rattle.engrave_model.specs.Drawing.{edges_of}
use Rattle.lane_kernels.specs.Boxes.{is_met, overlap}
use Rattle.lane_kernels.specs.declared.boxes.Rect.{Rect}
use Rattle.segment_grid.specs.declared.grid.Grid.{Grid}
use Rattle.segment_grid.specs.declared.level.Row.{Row}
use Rattle.segment_grid.specs.declared.level.Level.{Level}
use Rattle.segment_grid.specs.Cells.{cut, first_from, end_from}
use Rattle.segment_grid.specs.Grid.{AllFrom, IsAmong, IsPlaced, IsRowOf, IsGridOf, IsSorted, entries_in_row, entries_in_level, entries_in_all, start_of}
use Rattle.segment_grid.specs.Near.{AreNear, Entry, hits}
use Rattle.segment_grid.specs.Walk.{run_of, runs_of}
use Rattle.segment_grid.proofs.CellLaws.{before_cells, after_cells}
use Rattle.segment_grid.proofs.HitLaws.{hits-append, hits_in_order, hits_of_parts, no_hits}

take_twice : {X : Type 0} (n m : ℕ) (xs : List X) → take n (take m xs) ≡ take m (take n xs)
take_twice zero zero xs = refl
take_twice zero (suc m) [] = refl
take_twice zero (suc m) (x ∷ xs) = refl
take_twice (suc n) zero [] = refl
take_twice (suc n) zero (x ∷ xs) = refl
take_twice (suc n) (suc m) [] = refl
take_twice (suc n) (suc m) (x ∷ xs) = ap (λ l. x ∷ l) (take_twice n m xs)

hits_split : (q : Rect) (n : ℕ) (entries : List Entry) → hits q entries ≡ hits q (take n entries) ++ hits q (drop n entries)
hits_split q n entries = ap (hits q) (sym (take-append-drop n entries)) ∙ hits-append q (take n entries) (drop n entries)

-- entries that are left out by a cut and aren't met
cut_hits : (q : Rect) (first end : ℕ) (entries : List Entry) → hits q (take end (take first entries)) ≡ [] → hits q (drop end entries) ≡ []
    → hits q (cut first end entries) ≡ hits q entries
cut_hits q first end entries before behind =
    ap (λ l. l ++ hits q (cut first end entries)) (sym (ap (hits q) (take_twice first end entries) ∙ before))
    ∙ sym (hits_split q first (take end entries)) ∙ sym (append-nil (hits q (take end entries)))
    ∙ ap (λ l. hits q (take end entries) ++ l) (sym behind) ∙ sym (hits_split q end entries)

-- what is left out by a cut gives nothing
module _ {X : Type 0} (g : X → List ℕ) (P : ℕ → X → Type 0) where
  none_from : (end i : ℕ) (xs : List X) → end ≤ i → ((j : ℕ) (x : X) → end ≤ j → P j x → g x ≡ []) → AllFrom P i xs → flat_map g xs ≡ []
  none_from end i [] l none all = refl
  none_from end i (x ∷ xs) l none all = ap₂ ◌++◌ (none i x l all.0) (none_from end (i + 1) xs (omega (arith, l)) none all.1)

  taken : (n i end : ℕ) (xs : List X) → i + n ≡ end → ((j : ℕ) (x : X) → end ≤ j → P j x → g x ≡ []) → AllFrom P i xs → flat_map g (take n xs) ≡ flat_map g xs
  taken zero i end xs e none all = sym (none_from end i xs (omega (arith, e)) none all)
  taken (suc n) i end [] e none all = refl
  taken (suc n) i end (x ∷ xs) e none all = ap (λ l. g x ++ l) (taken n (i + 1) end xs (omega (arith, e)) none all.1)

  dropped : (n i first : ℕ) (xs : List X) → i + n ≡ first → ((j : ℕ) (x : X) → j < first → P j x → g x ≡ []) → AllFrom P i xs → flat_map g (drop n xs) ≡ flat_map g xs
  dropped zero i first xs e none all = refl
  dropped (suc n) i first [] e none all = refl
  dropped (suc n) i first (x ∷ xs) e none all =
      dropped n (i + 1) first xs (omega (arith, e)) none all.1 ∙ sym (ap (λ l. l ++ flat_map g xs) (none i x (omega (arith, e)) all.0))

  all_taken : (n i : ℕ) (xs : List X) → AllFrom P i xs → AllFrom P i (take n xs)
  all_taken zero i xs all = tt
  all_taken (suc n) i [] all = tt
  all_taken (suc n) i (x ∷ xs) all = (all.0, all_taken n (i + 1) xs all.1)

  cut_all : (first end : ℕ) (xs : List X) → ((i : ℕ) (x : X) → i < first → P i x → g x ≡ []) → ((i : ℕ) (x : X) → end ≤ i → P i x → g x ≡ []) → AllFrom P 0 xs
      → flat_map g (cut first end xs) ≡ flat_map g xs
  cut_all first end xs before after all =
      dropped first 0 first (take end xs) (omega arith) before (all_taken end 0 xs all) ∙ taken end 0 end xs (omega arith) after all

  -- parts that are alike one by one
  same_parts : (h : X → List ℕ) (i : ℕ) (xs : List X) → ((j : ℕ) (x : X) → P j x → g x ≡ h x) → AllFrom P i xs → flat_map g xs ≡ flat_map h xs
  same_parts h i [] same all = refl
  same_parts h i (x ∷ xs) same all = ap₂ ◌++◌ (same i x all.0) (same_parts h (i + 1) xs same all.1)

module _ (q : Rect) (x0 y0 : ℤ) (width height : ℕ) (wide : 1 ≤ width) (high : 1 ≤ height) where
  not_across : (b : Rect) → overlap q.x0 q.x1 b.x0 b.x1 ≡ false → is_met q b ≡ false
  not_across b e = and_left (overlap q.x0 q.x1 b.x0 b.x1) (overlap q.y0 q.y1 b.y0 b.y1) e

  not_up : (b : Rect) → overlap q.y0 q.y1 b.y0 b.y1 ≡ false → is_met q b ≡ false
  not_up b e = and_right (overlap q.x0 q.x1 b.x0 b.x1) (overlap q.y0 q.y1 b.y0 b.y1) e

  -- entries in columns none of whose boxes is met
  missed : (P : ℕ → Type 0) (r : ℕ) (entries : List Entry) → ((column : ℕ) (b : Rect) → P column → IsPlaced x0 y0 width height r column b → is_met q b ≡ false)
      → All (λ entry. IsAmong P x0 y0 width height r entry.1) entries → hits q entries ≡ []
  missed P r entries none all =
      no_hits q entries (All-weaker (λ (entry : Entry). IsAmong P x0 y0 width height r entry.1) (λ entry. is_met q entry.1 ≡ false) (λ entry among. none among.0 entry.1 among.1 among.2) entries all)

  abbrev first : ℕ
  first = first_from (q.x0 -ℤ x0) width

  abbrev end : ℕ
  end = end_from (q.x1 -ℤ x0) width

  row_asked : (r : ℕ) (row : Row) → IsRowOf x0 y0 width height r row → hits q (run_of first end row) ≡ hits q (entries_in_row row)
  row_asked r row of =
      let before = missed (λ column. column < first) r (take (start_of row end) (take (start_of row first) (entries_in_row row)))
      (λ c b l placed. not_across b (before_cells x0 width c b.x0 b.x1 wide placed.across q.x0 q.x1 l))
      (All-take (λ entry. IsAmong (λ column. column < first) x0 y0 width height r entry.1) (start_of row end) (take (start_of row first) (entries_in_row row)) (of.before first)) in
      let behind = missed (λ column. end ≤ column) r (drop (start_of row end) (entries_in_row row))
      (λ c b l placed. not_across b (after_cells x0 width c b.x0 b.x1 wide placed.across q.x0 q.x1 l)) (of.behind end) in
      cut_hits q (start_of row first) (start_of row end) (entries_in_row row) before behind

  -- a row that isn't asked
  row_missed : (r : ℕ) (row : Row) → ((column : ℕ) (b : Rect) → IsPlaced x0 y0 width height r column b → is_met q b ≡ false) → IsRowOf x0 y0 width height r row
      → hits q (run_of first end row) ≡ []
  row_missed r row none of =
      row_asked r row of
      ∙ hits_split q (start_of row 0) (entries_in_row row)
      ∙ ap₂ ◌++◌ (missed (λ column. column < 0) r (take (start_of row 0) (entries_in_row row)) (λ c b _ placed. none c b placed) (of.before 0))
      (missed (λ column. 0 ≤ column) r (drop (start_of row 0) (entries_in_row row)) (λ c b _ placed. none c b placed) (of.behind 0))

  rows_asked : (rows : List Row) → AllFrom (IsRowOf x0 y0 width height) 0 rows
      → flat_map (hits q) (map (run_of first end) (cut (first_from (q.y0 -ℤ y0) height) (end_from (q.y1 -ℤ y0) height) rows)) ≡ hits q (flat_map entries_in_row rows)
  rows_asked rows all =
      flat_map-map (hits q) (run_of first end) (cut (first_from (q.y0 -ℤ y0) height) (end_from (q.y1 -ℤ y0) height) rows)
      ∙ cut_all (λ row. hits q (run_of first end row)) (IsRowOf x0 y0 width height) _ _ rows
      (λ r row l of. row_missed r row (λ c b placed. not_up b (before_cells y0 height r b.y0 b.y1 high placed.up q.y0 q.y1 l)) of)
      (λ r row l of. row_missed r row (λ c b placed. not_up b (after_cells y0 height r b.y0 b.y1 high placed.up q.y0 q.y1 l)) of)
      all
      ∙ same_parts (λ row. hits q (run_of first end row)) (IsRowOf x0 y0 width height) (λ row. hits q (entries_in_row row)) 0 rows row_asked all
      ∙ sym (hits_of_parts q entries_in_row rows)

level_asked : (q : Rect) (level : Level) → IsSorted level → flat_map (hits q) (runs_of q level) ≡ hits q (entries_in_level level)
level_asked q level sorted = rows_asked q level.x0 level.y0 level.width level.height level.wide level.high level.rows.items sorted

all_asked : (q : Rect) (levels : List Level) → All IsSorted levels → flat_map (hits q) (flat_map (runs_of q) levels) ≡ hits q (entries_in_all levels)
all_asked q [] all = refl
all_asked q (level ∷ levels) all =
    flat_map-append (hits q) (runs_of q level) (flat_map (runs_of q) levels)
    ∙ ap₂ ◌++◌ (level_asked q level (All-head IsSorted level levels all)) (all_asked q levels (All-tail IsSorted level levels all))
    ∙ sym (hits-append q (entries_in_level level) (entries_in_all levels))

-- the numbers that the asked parts of rows give are those of the edges that are near
pub asked_near : (q : Rect) (grid : Grid) (loops : List (List GridPoint)) → IsGridOf grid loops
    → AreNear (edges_of loops) q (flat_map (hits q) (flat_map (runs_of q) grid.levels.items))
asked_near q grid loops is =
    rw (all_asked q grid.levels.items is.placed) (hits_in_order q _ _ is.each_once)
