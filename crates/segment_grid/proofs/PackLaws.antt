-- Packing keeps the entries, and sorts those of a row by their columns.
use Rattle.std.proofs.Common.{◌≡◌, ℕ, zero, suc, ◌+◌, ◌<◌, ◌≤◌, List, [], ◌∷◌, ◌++◌, length, get_or, take, drop, flat_map, All, ℤ, refl, sym, ap, ap₂, subst, ◌∙◌, arith, append_assoc}
use Rattle.std.specs.List.{AllZip, zip}
use Rattle.std.proofs.lemmas.List.{append-nil, drop_all, drop_at, length-append, take_at, take_more}
use Rattle.std.proofs.lemmas.List.Concat.{flat_map-append}
use Rattle.std.proofs.lemmas.List.Elements.{All-append, All-cons, All-head, All-nil, All-tail, All-take, All-weaker}
use Rattle.segment_grid.specs.Cells.{cut}
use Rattle.segment_grid.specs.Grid.{AllFrom, IsAmong, IsPlaced, IsRowOf, IsSorted, entries_in_row, entries_in_level, entries_in_all}
use Rattle.segment_grid.specs.Near.{Entry}
use Rattle.segment_grid.specs.Open.{IsBucketOf, IsOpenSorted, entries_in, entries_in_buckets, entries_in_rows, entries_in_open}
use Rattle.segment_grid.specs.Packed.{IsCellMore, IsLevelFrom, IsRowFrom, starts_from}
use Rattle.segment_grid.specs.declared.level.Row.{Row}
use Rattle.segment_grid.specs.declared.level.Level.{Level}
use Rattle.segment_grid.specs.declared.open.Bucket.{Bucket}
use Rattle.segment_grid.specs.declared.open.OpenLevel.{OpenLevel}

zip_pushed : {A B : Type 0} (R : A → B → Type 0) (xs : List A) (ys : List B) (x : A) (y : B) → AllZip R xs ys → R x y → AllZip R (xs ++ x ∷ []) (ys ++ y ∷ [])
zip_pushed R [] [] x y all r = (r, tt)
zip_pushed R [] (b ∷ ys) x y all r = absurd all
zip_pushed R (a ∷ xs) [] x y all r = absurd all
zip_pushed R (a ∷ xs) (b ∷ ys) x y all r = (all.0, zip_pushed R xs ys x y all.1 r)

-- one element more is packed
pub zip_more : {A B : Type 0} (R : A → B → Type 0) (xs : List A) (ys more : List B) (x : A) (y : B) → AllZip R xs ys → R x y → more ≡ ys ++ y ∷ [] → AllZip R (xs ++ x ∷ []) more
zip_more R xs ys more x y all r pushed = subst (AllZip R (xs ++ x ∷ [])) (sym pushed) (zip_pushed R xs ys x y all r)

flat_push : {X A : Type 0} (f : X → List A) (xs : List X) (x : X) → flat_map f (xs ++ x ∷ []) ≡ flat_map f xs ++ f x
flat_push f xs x = flat_map-append f xs (x ∷ []) ∙ ap (λ l. flat_map f xs ++ l) (append-nil (f x))

starts_push : (n : ℕ) (buckets : List Bucket) (bucket : Bucket) (k : ℕ) → n + length (flat_map (λ b. b.numbers.items) buckets) ≡ k
    → starts_from n (buckets ++ bucket ∷ []) ≡ starts_from n buckets ++ k ∷ []
starts_push n [] bucket k e = ap (λ m. m ∷ []) (omega (arith, e))
starts_push n (b ∷ buckets) bucket k e =
    ap (λ l. n ∷ l) (starts_push (n + length b.numbers.items) buckets bucket k (omega (arith, e, length-append b.numbers.items (flat_map (λ c. c.numbers.items) buckets))))

-- the row has one cell more
pub cell_more : (buckets : List Bucket) (i : ℕ) (bucket : Bucket) (old new : Row) → i < length buckets → bucket ≡ get_or buckets i bucket
    → IsRowFrom (take i buckets) old → IsCellMore old new bucket → IsRowFrom (take (i + 1) buckets) new
cell_more buckets i bucket old new lt read from more =
    let next : take (i + 1) buckets ≡ take i buckets ++ bucket ∷ [] = take_more buckets i bucket lt ∙ ap (λ z. take i buckets ++ z ∷ []) (sym read) in
    subst (λ l. IsRowFrom l new) (sym next) (record {
      numbers = more.numbers ∙ ap (λ l. l ++ bucket.numbers.items) from.numbers ∙ sym (flat_push (λ b. b.numbers.items) (take i buckets) bucket);
      boxes = more.boxes ∙ ap (λ l. l ++ bucket.boxes.items) from.boxes ∙ sym (flat_push (λ b. b.boxes.items) (take i buckets) bucket);
      starts = more.starts ∙ ap (λ l. l ++ length old.numbers.items ∷ []) from.starts
          ∙ sym (starts_push 0 (take i buckets) bucket (length old.numbers.items) (omega (arith, ap length from.numbers)));
    })

zip_append : {A B : Type 0} (xs xs' : List A) (ys ys' : List B) → length xs ≡ length ys → zip (xs ++ xs') (ys ++ ys') ≡ zip xs ys ++ zip xs' ys'
zip_append [] xs' [] ys' e = refl
zip_append [] xs' (y ∷ ys) ys' e = absurd (omega (arith, e))
zip_append (x ∷ xs) xs' [] ys' e = absurd (omega (arith, e))
zip_append (x ∷ xs) xs' (y ∷ ys) ys' e = ap (λ l. (x, y) ∷ l) (zip_append xs xs' ys ys' (omega (arith, e)))

zip_length : {A B : Type 0} (xs : List A) (ys : List B) → length xs ≡ length ys → length (zip xs ys) ≡ length xs
zip_length [] ys e = refl
zip_length (x ∷ xs) [] e = absurd (omega (arith, e))
zip_length (x ∷ xs) (y ∷ ys) e = omega (arith, zip_length xs ys (omega (arith, e)))

zip_none : {A B : Type 0} (xs : List A) (none : List B) → none ≡ [] → zip xs none ≡ []
zip_none [] none e = refl
zip_none (x ∷ xs) [] e = refl
zip_none (x ∷ xs) (y ∷ ys) e = absurd (omega (arith, ap length e))

zip_take : {A B : Type 0} (n : ℕ) (xs : List A) (ys : List B) → zip (take n xs) (take n ys) ≡ take n (zip xs ys)
zip_take zero xs ys = refl
zip_take (suc n) [] ys = refl
zip_take (suc n) (x ∷ xs) [] = refl
zip_take (suc n) (x ∷ xs) (y ∷ ys) = ap (λ l. (x, y) ∷ l) (zip_take n xs ys)

zip_drop : {A B : Type 0} (n : ℕ) (xs : List A) (ys : List B) → zip (drop n xs) (drop n ys) ≡ drop n (zip xs ys)
zip_drop zero xs ys = refl
zip_drop (suc n) [] ys = refl
zip_drop (suc n) (x ∷ xs) [] = zip_none (drop n xs) [] refl
zip_drop (suc n) (x ∷ xs) (y ∷ ys) = zip_drop n xs ys

-- the same part of two lists, paired
pub zip_cut : {A B : Type 0} (first end : ℕ) (xs : List A) (ys : List B) → zip (cut first end xs) (cut first end ys) ≡ cut first end (zip xs ys)
zip_cut first end xs ys = zip_drop first (take end xs) (take end ys) ∙ ap (drop first) (zip_take end xs ys)

module _ (x0 y0 : ℤ) (width height r : ℕ) where
  abbrev Among : (ℕ → Type 0) → Entry → Type 0
  Among P entry = IsAmong P x0 y0 width height r entry.1

  abbrev AreBuckets : ℕ → List Bucket → Type 0
  AreBuckets k buckets = AllFrom (IsBucketOf x0 y0 width height r) k buckets

  same_entries : (k : ℕ) (buckets : List Bucket) → AreBuckets k buckets
      → zip (flat_map (λ b. b.numbers.items) buckets) (flat_map (λ b. b.boxes.items) buckets) ≡ flat_map entries_in buckets
  same_entries k [] all = refl
  same_entries k (b ∷ buckets) all =
      zip_append b.numbers.items (flat_map (λ c. c.numbers.items) buckets) b.boxes.items (flat_map (λ c. c.boxes.items) buckets) all.0.even
      ∙ ap (λ l. entries_in b ++ l) (same_entries (k + 1) buckets all.1)

  same_count : (k : ℕ) (buckets : List Bucket) → AreBuckets k buckets → length (flat_map (λ b. b.numbers.items) buckets) ≡ length (flat_map entries_in buckets)
  same_count k [] all = refl
  same_count k (b ∷ buckets) all =
      length-append b.numbers.items (flat_map (λ c. c.numbers.items) buckets)
      ∙ ap₂ ◌+◌ (sym (zip_length b.numbers.items b.boxes.items all.0.even)) (same_count (k + 1) buckets all.1)
      ∙ sym (length-append (entries_in b) (flat_map entries_in buckets))

  -- the entries of a bucket, where P holds of its column
  of_bucket : (P : ℕ → Type 0) (k : ℕ) (b : Bucket) → P k → IsBucketOf x0 y0 width height r k b → All (Among P) (entries_in b)
  of_bucket P k b h of =
      All-weaker (λ (entry : Entry). IsPlaced x0 y0 width height r k entry.1) (Among P) (λ entry placed. (k, h, placed)) (entries_in b) of.placed

  of_buckets : (c k : ℕ) (buckets : List Bucket) → c ≤ k → AreBuckets k buckets → All (Among (λ column. c ≤ column)) (flat_map entries_in buckets)
  of_buckets c k [] l all = All-nil (Among (λ column. c ≤ column))
  of_buckets c k (b ∷ buckets) l all =
      All-append (Among (λ column. c ≤ column)) (entries_in b) (flat_map entries_in buckets) (of_bucket (λ column. c ≤ column) k b l all.0)
      (of_buckets c (k + 1) buckets (omega (arith, l)) all.1)

  further : (c d : ℕ) (entries : List Entry) → c ≤ d → All (Among (λ column. column < c)) entries → All (Among (λ column. column < d)) entries
  further c d entries l =
      All-weaker (Among (λ column. column < c)) (Among (λ column. column < d)) (λ entry among. (among.0, omega (arith, l, among.1), among.2)) entries

  -- the entries before the start are of columns before this one, the others of it or of those behind it
  abbrev Splits : ℕ → ℕ → List Entry → Type 0
  Splits column start entries =
      All (Among (λ c. c < column)) (take start entries) × All (Among (λ c. column ≤ c)) (drop start entries)

  -- the starts of buckets from the column k on, behind the n entries of those before them
  starts_split : (k c m n total : ℕ) (before entries : List Entry) (buckets : List Bucket) → k + c ≡ m → length before ≡ n → total ≡ length entries
      → entries ≡ before ++ flat_map entries_in buckets → All (Among (λ column. column < k)) before → AreBuckets k buckets
      → Splits m (get_or (starts_from n buckets) c total) entries
  starts_split k c m n total before entries [] at count whole is earlier all = (
    All-take (Among (λ column. column < m)) total entries
        (subst (All (Among (λ column. column < m))) (sym (is ∙ append-nil before)) (further k m before (omega (arith, at)) earlier)),
    subst (All (Among (λ column. m ≤ column))) (sym (drop_all total entries (omega (arith, whole)))) (All-nil (Among (λ column. m ≤ column))),
  )
  starts_split k zero m n total before entries (b ∷ buckets) at count whole is earlier all = (
    subst (All (Among (λ column. column < m))) (sym (ap (take n) is ∙ take_at before (flat_map entries_in (b ∷ buckets)) n count))
        (further k m before (omega (arith, at)) earlier),
    subst (All (Among (λ column. m ≤ column))) (sym (ap (drop n) is ∙ drop_at before (flat_map entries_in (b ∷ buckets)) n count))
        (of_buckets m k (b ∷ buckets) (omega (arith, at)) all),
  )
  starts_split k (suc c) m n total before entries (b ∷ buckets) at count whole is earlier all =
      starts_split (k + 1) c m (n + length b.numbers.items) total (before ++ entries_in b) entries buckets (omega (arith, at))
      (omega (arith, count, length-append before (entries_in b), zip_length b.numbers.items b.boxes.items all.0.even)) whole
      (is ∙ sym (append_assoc before (entries_in b) (flat_map entries_in buckets)))
      (All-append (Among (λ column. column < k + 1)) before (entries_in b) (further k (k + 1) before (omega arith) earlier)
      (of_bucket (λ column. column < k + 1) k b (omega arith) all.0))
      all.1

  row_packed : (buckets : List Bucket) (row : Row) → IsRowFrom buckets row → AreBuckets 0 buckets
      → (entries_in_row row ≡ entries_in_buckets buckets) × IsRowOf x0 y0 width height r row
  row_packed buckets row from all =
      let same : entries_in_row row ≡ entries_in_buckets buckets = ap₂ zip from.numbers from.boxes ∙ same_entries 0 buckets all in
      let splits = λ (c : ℕ). subst (λ l. Splits c (get_or l c (length row.numbers.items)) (entries_in_row row)) (sym from.starts)
      (starts_split 0 c c 0 (length row.numbers.items) [] (entries_in_row row) buckets (omega arith) refl
      (ap length from.numbers ∙ same_count 0 buckets all ∙ sym (ap length same)) same (All-nil (Among (λ column. column < 0))) all) in
      (same, record { before = λ c. (splits c).0; behind = λ c. (splits c).1 })

module _ {R : Type 0} (items : R → List Bucket) (x0 y0 : ℤ) (width height : ℕ) where
  rows_packed : (i : ℕ) (source : List R) (rows : List Row) → AllZip (λ row packed. IsRowFrom (items row) packed) source rows
      → AllFrom (λ r row. AllFrom (IsBucketOf x0 y0 width height r) 0 (items row)) i source
      → (flat_map entries_in_row rows ≡ flat_map (λ row. entries_in_buckets (items row)) source) × AllFrom (IsRowOf x0 y0 width height) i rows
  rows_packed i [] [] zipped all = (refl, tt)
  rows_packed i [] (row ∷ rows) zipped all = absurd zipped
  rows_packed i (s ∷ source) [] zipped all = absurd zipped
  rows_packed i (s ∷ source) (row ∷ rows) zipped all =
      let here = row_packed x0 y0 width height i (items s) row zipped.0 all.0 in
      let rest = rows_packed (i + 1) source rows zipped.1 all.1 in
      (ap₂ ◌++◌ here.0 rest.0, (here.1, rest.1))

level_packed : (source : OpenLevel) (level : Level) → IsLevelFrom source level → IsOpenSorted source → (entries_in_level level ≡ entries_in_rows source) × IsSorted level
level_packed source level from sorted =
    let rows = rows_packed (λ row. row.items) source.x0 source.y0 source.width source.height 0 source.rows.items level.rows.items from.rows sorted in
    (rows.0, rw (from.x0, from.y0, from.width, from.height) rows.1)

-- the levels have the same entries as those that they are made of, and are sorted as they are
pub levels_packed : (source : List OpenLevel) (levels : List Level) → AllZip IsLevelFrom source levels → All IsOpenSorted source
    → (entries_in_all levels ≡ entries_in_open source) × All IsSorted levels
levels_packed [] [] zipped all = (refl, All-nil IsSorted)
levels_packed [] (level ∷ levels) zipped all = absurd zipped
levels_packed (s ∷ source) [] zipped all = absurd zipped
levels_packed (s ∷ source) (level ∷ levels) zipped all =
    let here = level_packed s level zipped.0 (All-head IsOpenSorted s source all) in
    let rest = levels_packed source levels zipped.1 (All-tail IsOpenSorted s source all) in
    (ap₂ ◌++◌ here.0 rest.0, All-cons IsSorted level levels here.1 rest.1)
