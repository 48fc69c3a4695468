-- Lemmas on adding an entry to a bucket, a row, a level and the levels of a grid.
use Rattle.std.proofs.Common.{◌≡◌, ℕ, ◌+◌, ◌<◌, List, [], ◌∷◌, ◌++◌, length, get_or, set, take, map, All, IsPermutation, ℤ, refl, sym, ap, subst, ◌∙◌, arith}
use Rattle.std.specs.List.{enumerate_from, flat_map, zip}
use Rattle.std.proofs.lemmas.List.{length_push, length-map, length-take-le, map_push, take_more}
use Rattle.std.proofs.lemmas.List.Elements.{All-push, All-nil}
use Rattle.std.proofs.lemmas.List.Sorted.{IsPermutation-push_more, IsPermutation-sym, IsPermutation-to_front}
use Rattle.plane_exact.specs.declared.point.Seg.{Seg}
use Rattle.lane_kernels.specs.declared.boxes.Rect.{Rect}
use Rattle.segment_grid.specs.Near.{Entry, box_of, entries_of}
use Rattle.segment_grid.specs.Grid.{AllFrom, IsPlaced}
use Rattle.segment_grid.specs.Open.{IsBucketOf, IsOpenSorted, entries_in, entries_in_buckets, entries_in_rows, entries_in_open}
use Rattle.segment_grid.specs.Added.{IsExtended, IsBareBucket, IsBareLevel, IsPushed, AddsToRow, AddsToLevel, AddsToLevels}
use Rattle.segment_grid.specs.declared.open.Bucket.{Bucket}
use Rattle.segment_grid.specs.declared.open.OpenLevel.{OpenLevel}
use Rattle.segment_grid.proofs.AddingLaws.{added_at, counted, uncounted}

zip_push : {A B : Type 0} (xs : List A) (ys : List B) (x : A) (y : B) → length xs ≡ length ys → zip (xs ++ x ∷ []) (ys ++ y ∷ []) ≡ zip xs ys ++ (x, y) ∷ []
zip_push [] [] x y e = refl
zip_push [] (b ∷ ys) x y e = absurd (omega (arith, e))
zip_push (a ∷ xs) [] x y e = absurd (omega (arith, e))
zip_push (a ∷ xs) (b ∷ ys) x y e = ap (λ l. (a, b) ∷ l) (zip_push xs ys x y (omega (arith, e)))

bare_entries : (bucket : Bucket) → IsBareBucket bucket → entries_in bucket ≡ []
bare_entries bucket bare = ap (λ l. zip l bucket.boxes.items) bare.numbers

module _ (x0 y0 : ℤ) (width height row : ℕ) where
  bare_bucket : (column : ℕ) (bucket : Bucket) → IsBareBucket bucket → IsBucketOf x0 y0 width height row column bucket
  bare_bucket column bucket bare = record {
    even = ap length bare.numbers ∙ sym (ap length bare.boxes);
    placed = subst (All (λ entry. IsPlaced x0 y0 width height row column entry.1)) (sym (bare_entries bucket bare)) (All-nil _);
  }

  bucket_pushed : (column : ℕ) (old new : Bucket) (entry : Entry) → IsPushed old new entry → IsPlaced x0 y0 width height row column entry.1
      → IsBucketOf x0 y0 width height row column old
      → IsPermutation (entry ∷ entries_in old) (entries_in new) × IsBucketOf x0 y0 width height row column new
  bucket_pushed column old new entry pushed placed of =
      let P = λ (e : Entry). IsPlaced x0 y0 width height row column e.1 in
      let is : entries_in new ≡ entries_in old ++ entry ∷ [] =
      ap (λ l. zip l new.boxes.items) pushed.numbers ∙ ap (zip (old.numbers.items ++ entry.0 ∷ [])) pushed.boxes
      ∙ zip_push old.numbers.items old.boxes.items entry.0 entry.1 of.even in (
        subst (IsPermutation (entry ∷ entries_in old)) (sym is) (IsPermutation-sym _ _ (IsPermutation-to_front (entries_in old) entry)),
        record {
          even = ap length pushed.numbers ∙ length_push old.numbers.items entry.0 ∙ ap (λ n. n + 1) of.even
              ∙ sym (length_push old.boxes.items entry.1) ∙ sym (ap length pushed.boxes);
          placed = subst (All P) (sym is) (All-push P (entries_in old) entry of.placed placed);
        },
      )

-- the bucket of a column gets the entry, and so the row
pub row_added : (old mid : List Bucket) (column : ℕ) (x y : Bucket) (entry : Entry)
    → IsExtended IsBareBucket old mid → column < length mid → x ≡ get_or mid column x → IsPushed x y entry → AddsToRow column old (set mid column y) entry
row_added old mid column x y entry extended lt read pushed x0 y0 width height row placed all =
    let is = added_at IsBareBucket entries_in (IsBucketOf x0 y0 width height row) bare_entries (bare_bucket x0 y0 width height row)
    entry old mid column x y extended lt read (bucket_pushed x0 y0 width height row column x y entry pushed placed) all in
    record { once = is.0; placed = is.1 }

-- a row gets the entry, and so the level's rows, which are of a type R with their buckets
pub rows_added : {R : Type 0} (items : R → List Bucket) (x0 y0 : ℤ) (width height : ℕ) (old mid : List R) (r column : ℕ) (x y : R) (entry : Entry)
    → IsExtended (λ row. items row ≡ []) old mid → r < length mid → x ≡ get_or mid r x → AddsToRow column (items x) (items y) entry
    → IsPlaced x0 y0 width height r column entry.1 → AllFrom (λ k row. AllFrom (IsBucketOf x0 y0 width height k) 0 (items row)) 0 old
    → IsPermutation (entry ∷ flat_map (λ row. entries_in_buckets (items row)) old) (flat_map (λ row. entries_in_buckets (items row)) (set mid r y))
    × AllFrom (λ k row. AllFrom (IsBucketOf x0 y0 width height k) 0 (items row)) 0 (set mid r y)
rows_added items x0 y0 width height old mid r column x y entry extended lt read adds placed all =
    added_at (λ row. items row ≡ []) (λ row. entries_in_buckets (items row)) (λ k row. AllFrom (IsBucketOf x0 y0 width height k) 0 (items row))
    (λ row bare. ap entries_in_buckets bare) (λ k row bare. subst (AllFrom (IsBucketOf x0 y0 width height k) 0) (sym bare) tt)
    entry old mid r x y extended lt read
    (λ of. let is = adds x0 y0 width height r placed of in (is.once, is.placed)) all

bare_sorted : (level : OpenLevel) → IsBareLevel level → IsOpenSorted level
bare_sorted level bare =
    subst (AllFrom (λ r row. AllFrom (IsBucketOf level.x0 level.y0 level.width level.height r) 0 row.items) 0) (sym bare) tt

-- a level gets the entry, and so the levels
pub levels_added : (old mid : List OpenLevel) (i : ℕ) (x y : OpenLevel) (entry : Entry)
    → IsExtended IsBareLevel old mid → i < length mid → x ≡ get_or mid i x → AddsToLevel x y entry → AddsToLevels old (set mid i y) entry
levels_added old mid i x y entry extended lt read adds all =
    let is = added_at IsBareLevel entries_in_rows (λ _. IsOpenSorted)
    (λ level bare. ap (flat_map (λ row. entries_in_buckets row.items)) bare) (λ _ level bare. bare_sorted level bare)
    entry old mid i x y extended lt read
    (λ sorted. let is = adds sorted in (is.once, is.placed)) (counted IsOpenSorted 0 old all) in
    record { once = is.0; placed = uncounted IsOpenSorted 0 (set mid i y) is.1 }

enumerate_push : {X : Type 0} (n : ℕ) (xs : List X) (x : X) (k : ℕ) → n + length xs ≡ k → enumerate_from n (xs ++ x ∷ []) ≡ enumerate_from n xs ++ (k, x) ∷ []
enumerate_push n [] x k e = ap (λ m. (m, x) ∷ []) (omega (arith, e))
enumerate_push n (y ∷ xs) x k e = ap (λ l. (n, y) ∷ l) (enumerate_push (n + 1) xs x k (omega (arith, e)))

-- one edge more
pub one_more : (edges : List Seg) (i : ℕ) (e : Seg) (b : Rect) (before after : List OpenLevel) → i < length edges → e ≡ get_or edges i e → b ≡ box_of e
    → AddsToLevels before after (i, b) → IsPermutation (entries_of (take i edges)) (entries_in_open before) × All IsOpenSorted before
    → IsPermutation (entries_of (take (i + 1) edges)) (entries_in_open after) × All IsOpenSorted after
one_more edges i e b before after lt read box adds kept =
    let is = adds kept.1 in
    let next : entries_of (take (i + 1) edges) ≡ entries_of (take i edges) ++ (i, b) ∷ [] =
    ap entries_of (take_more edges i e lt ∙ ap (λ x. take i edges ++ x ∷ []) (sym read))
    ∙ ap (enumerate_from 0) (map_push box_of (take i edges) e ∙ ap (λ x. map box_of (take i edges) ++ x ∷ []) (sym box))
    ∙ enumerate_push 0 (map box_of (take i edges)) b i (omega (arith, length-map (take i edges) box_of, length-take-le i edges (omega (arith, lt)))) in (
      subst (λ l. IsPermutation l (entries_in_open after)) (sym next)
          (IsPermutation-push_more (entries_of (take i edges)) (entries_in_open before) (entries_in_open after) (i, b) kept.0 is.once),
      is.placed,
    )
