-- What packing makes of the levels to which all edges are added.
use Rattle.std.specs.Prelude.{◌≡◌, ℕ, ◌+◌, List, [], ◌∷◌, ◌++◌, length, flat_map}
use Rattle.std.specs.List.{AllZip}
use Rattle.segment_grid.specs.declared.open.Bucket.{Bucket}
use Rattle.segment_grid.specs.declared.open.OpenLevel.{OpenLevel}
use Rattle.segment_grid.specs.declared.level.Row.{Row}
use Rattle.segment_grid.specs.declared.level.Level.{Level}

-- where the edges of each bucket begin, if there are n before them
abbrev pub starts_from : ℕ → List Bucket → List ℕ
starts_from n [] = []
starts_from n (bucket ∷ buckets) = n ∷ starts_from (n + length bucket.numbers.items) buckets

-- the row has the edges of the bucket more, in a cell of their own
pub record IsCellMore (old new : Row) (bucket : Bucket) : Type 0 where
  pub numbers : new.numbers.items ≡ old.numbers.items ++ bucket.numbers.items
  pub boxes : new.boxes.items ≡ old.boxes.items ++ bucket.boxes.items
  pub starts : new.starts.items ≡ old.starts.items ++ length old.numbers.items ∷ []

-- the row has the edges of the buckets, one bucket after the other
pub record IsRowFrom (buckets : List Bucket) (row : Row) : Type 0 where
  pub numbers : row.numbers.items ≡ flat_map (λ bucket. bucket.numbers.items) buckets
  pub boxes : row.boxes.items ≡ flat_map (λ bucket. bucket.boxes.items) buckets
  pub starts : row.starts.items ≡ starts_from 0 buckets

-- the level has the same cells, packed
pub record IsLevelFrom (source : OpenLevel) (level : Level) : Type 0 where
  pub x0 : level.x0 ≡ source.x0
  pub y0 : level.y0 ≡ source.y0
  pub width : level.width ≡ source.width
  pub height : level.height ≡ source.height
  pub rows : AllZip (λ buckets row. IsRowFrom buckets.items row) source.rows.items level.rows.items
