-- What adding an edge does to buckets, rows and levels.
use Rattle.std.specs.Prelude.{◌≡◌, ℕ, List, [], ◌∷◌, ◌++◌, All, IsPermutation, ℤ}
use Rattle.segment_grid.specs.Near.{Entry}
use Rattle.segment_grid.specs.Grid.{AllFrom, IsPlaced}
use Rattle.segment_grid.specs.Open.{IsBucketOf, IsOpenSorted, entries_in_buckets, entries_in_rows, entries_in_open}
use Rattle.segment_grid.specs.declared.open.Bucket.{Bucket}
use Rattle.segment_grid.specs.declared.open.OpenLevel.{OpenLevel}

-- new is old, and behind it elements without an edge
pub record IsExtended {X : Type 0} (IsBare : X → Type 0) (old new : List X) : Type 0 where
  pub more : List X
  pub is : new ≡ old ++ more
  pub bare : All IsBare more

-- the bucket has no edge
pub record IsBareBucket (bucket : Bucket) : Type 0 where
  pub numbers : bucket.numbers.items ≡ []
  pub boxes : bucket.boxes.items ≡ []

-- the level has no row
abbrev pub IsBareLevel : OpenLevel → Type 0
IsBareLevel level = level.rows.items ≡ []

-- new is the bucket with the entry at its end
pub record IsPushed (old new : Bucket) (entry : Entry) : Type 0 where
  pub numbers : new.numbers.items ≡ old.numbers.items ++ entry.0 ∷ []
  pub boxes : new.boxes.items ≡ old.boxes.items ++ entry.1 ∷ []

-- the row has the entry more, and each of its buckets is that of its cell
pub record IsRowWith (x0 y0 : ℤ) (width height row : ℕ) (old new : List Bucket) (entry : Entry) : Type 0 where
  pub once : IsPermutation (entry ∷ entries_in_buckets old) (entries_in_buckets new)
  pub placed : AllFrom (IsBucketOf x0 y0 width height row) 0 new

-- wherever the row lies: if the entry belongs to its cell in the column, and its buckets to theirs, it has the entry more
abbrev pub AddsToRow : ℕ → List Bucket → List Bucket → Entry → Type 0
AddsToRow column old new entry = (x0 y0 : ℤ) (width height row : ℕ) → IsPlaced x0 y0 width height row column entry.1 → AllFrom (IsBucketOf x0 y0 width height row) 0 old
    → IsRowWith x0 y0 width height row old new entry

-- the level has the entry more, and each of its buckets is that of its cell
pub record IsLevelWith (old new : OpenLevel) (entry : Entry) : Type 0 where
  pub once : IsPermutation (entry ∷ entries_in_rows old) (entries_in_rows new)
  pub placed : IsOpenSorted new

-- if its buckets belong to their cells, it has the entry more
abbrev pub AddsToLevel : OpenLevel → OpenLevel → Entry → Type 0
AddsToLevel old new entry = IsOpenSorted old → IsLevelWith old new entry

-- the levels have the entry more, and each of their buckets is that of its cell
pub record AreLevelsWith (old new : List OpenLevel) (entry : Entry) : Type 0 where
  pub once : IsPermutation (entry ∷ entries_in_open old) (entries_in_open new)
  pub placed : All IsOpenSorted new

-- if their buckets belong to their cells, they have the entry more
abbrev pub AddsToLevels : List OpenLevel → List OpenLevel → Entry → Type 0
AddsToLevels old new entry = All IsOpenSorted old → AreLevelsWith old new entry
