-- The edges that are asked, and the numbers that are still to come of them.
use Rattle.std.specs.Prelude.{ℕ, List, [], ◌∷◌, ◌++◌, nat_eq, if◌then◌else◌, map, flat_map, drop, ◌-ℤ◌}
use Rattle.std.specs.List.{zip}
use Rattle.lane_kernels.specs.declared.boxes.Rect.{Rect}
use Rattle.segment_grid.specs.Cells.{cut, first_from, end_from}
use Rattle.segment_grid.specs.Grid.{entries_in_row, start_of}
use Rattle.segment_grid.specs.Near.{Entry, hits}
use Rattle.segment_grid.specs.declared.level.Row.{Row}
use Rattle.segment_grid.specs.declared.level.Level.{Level}
use Rattle.segment_grid.specs.declared.hits.Chunk.{Chunk}
use Rattle.segment_grid.specs.declared.hits.Hits.{Hits}
use Rattle.segment_grid.specs.declared.hits.Untested.{Untested}
use Rattle.segment_grid.specs.declared.walk.Runs.{Runs}

-- the numbers whose flag is not 0, as far as both lists go
abbrev pub flagged : List ℕ → List ℕ → List ℕ
flagged [] flags = []
flagged (n ∷ numbers) [] = []
flagged (n ∷ numbers) (flag ∷ flags) = if nat_eq flag 0 then flagged numbers flags else n ∷ flagged numbers flags

-- of a chunk of tested boxes, those numbers that are still to come
abbrev pub flags_left : Chunk → List ℕ
flags_left s = flagged s.numbers.now (drop s.at s.flags)

-- the numbered boxes that are still to be tested
abbrev pub entries_ahead : Untested → List Entry
entries_ahead s = zip s.numbers.now s.boxes.now

-- the numbers of those of them that meet q
abbrev pub hits_ahead : Rect → Untested → List ℕ
hits_ahead q s = hits q (entries_ahead s)

-- of boxes that are being tested, the numbers that are still to come
abbrev pub hits_left : Rect → Hits → List ℕ
hits_left q s = flags_left s.chunk ++ hits_ahead q s.rest

-- the numbered boxes of a row in the columns from first to the one before end
abbrev pub run_of : (first end : ℕ) → Row → List Entry
run_of first end row = cut (start_of row first) (start_of row end) (entries_in_row row)

-- of each row of a level that may have a box that meets q, the part that may
abbrev pub runs_of : Rect → Level → List (List Entry)
runs_of q level =
    map
    (run_of (first_from (q.x0 -ℤ level.x0) level.width) (end_from (q.x1 -ℤ level.x0) level.width))
    (cut (first_from (q.y0 -ℤ level.y0) level.height) (end_from (q.y1 -ℤ level.y0) level.height) level.rows.items)

-- the parts of rows that are still to come
abbrev pub runs_left : Runs → List (List Entry)
runs_left s = map (run_of s.columns.first s.columns.end) s.rows.now ++ flat_map (runs_of s.q) s.levels.now

-- the numbers that are still to come, from the boxes that are being tested and from the parts of rows after them
abbrev pub numbers_left : Rect → Hits → Runs → List ℕ
numbers_left q tested runs = hits_left q tested ++ flat_map (hits q) (runs_left runs)
