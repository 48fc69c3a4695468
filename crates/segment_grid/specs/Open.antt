-- The edges of levels while edges are added.
use Rattle.std.specs.Prelude.{◌≡◌, ℕ, List, length, flat_map, All, ℤ}
use Rattle.std.specs.List.{zip}
use Rattle.segment_grid.specs.Grid.{AllFrom, IsPlaced}
use Rattle.segment_grid.specs.Near.{Entry}
use Rattle.segment_grid.specs.declared.open.Bucket.{Bucket}
use Rattle.segment_grid.specs.declared.open.OpenLevel.{OpenLevel}

-- the numbered boxes of a bucket
abbrev pub entries_in : Bucket → List Entry
entries_in bucket = zip bucket.numbers.items bucket.boxes.items

-- of a row of buckets
abbrev pub entries_in_buckets : List Bucket → List Entry
entries_in_buckets buckets = flat_map entries_in buckets

-- of a level
abbrev pub entries_in_rows : OpenLevel → List Entry
entries_in_rows level = flat_map (λ row. entries_in_buckets row.items) level.rows.items

-- of all levels
abbrev pub entries_in_open : List OpenLevel → List Entry
entries_in_open levels = flat_map entries_in_rows levels

-- the bucket has as many numbers as boxes, and its boxes begin in its cell
pub record IsBucketOf (x0 y0 : ℤ) (width height row column : ℕ) (bucket : Bucket) : Type 0 where
  pub even : length bucket.numbers.items ≡ length bucket.boxes.items
  pub placed : All (λ entry. IsPlaced x0 y0 width height row column entry.1) (entries_in bucket)

-- each bucket of the level is that of its cell
abbrev pub IsOpenSorted : OpenLevel → Type 0
IsOpenSorted level =
    AllFrom (λ r row. AllFrom (IsBucketOf level.x0 level.y0 level.width level.height r) 0 row.items) 0 level.rows.items
