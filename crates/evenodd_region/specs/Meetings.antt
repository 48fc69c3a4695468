-- How an edge meets a row of grid points, and the points of a row that are marked.
use Rattle.std.specs.Prelude.{◌≡◌, ◌↔◌, ℕ, ◌<◌, ◌*◌, ◌%◌, Bool, ◌&&◌, nat_lt, List, pos, int_lt, All, count_by}
use Rattle.integer_algebra.specs.Ranges.{IsWithin}
use Rattle.plane_exact.specs.Plane.{RationalPoint, IsBetween, rational}
use Rattle.plane_exact.specs.declared.point.Seg.{Seg}
use Rattle.engrave_model.specs.Inside.{is_counted}
use Rattle.evenodd_region.specs.RowBits.{IsSetIn, bit_in, point_of_row}
use Rattle.evenodd_region.specs.declared.meeting.Meeting.{Meeting}
use Rattle.evenodd_region.specs.declared.meeting.Row.{Row}

-- the point i of the row
abbrev pub point_of : Row → ℕ → RationalPoint
point_of row i = rational (point_of_row row.start.y row.start.x row.pitch i)

-- the meeting tells of each point of the row whether it lies on the edge, and whether the edge is counted there
pub record IsMeeting (row : Row) (e : Seg) (m : Meeting) : Type 0 where
  pub on : (i : ℕ) → IsBetween e.a e.b (point_of row i) ↔ IsWithin m.from m.to (pos (i * m.step))
  pub counted : (i : ℕ) → is_counted (point_of row i) e ≡ (m.passes && int_lt (pos (i * m.step)) m.from)

-- the point i is one of the row, and the edge is counted there
abbrev pub is_marked_by : Row → ℕ → Seg → Bool
is_marked_by row i e = nat_lt i row.count && is_counted (point_of row i) e

-- the bits that are 1 are those of the points of the row at which an odd number of edges is counted
pub record AreMarked (row : Row) (edges : List Seg) (words : List ℕ) : Type 0 where
  pub bits : (i : ℕ) → bit_in words i ≡ count_by (is_marked_by row i) edges % 2

-- the point i is one of the row, and lies on the edge
abbrev pub LiesOn : Row → ℕ → Seg → Type 0
LiesOn row i e = (i < row.count) × IsBetween e.a e.b (point_of row i)

-- of the bits that were 1 those are left whose points lie on none of the edges
pub record AreOffOutline (row : Row) (edges : List Seg) (old new : List ℕ) : Type 0 where
  pub bits : (i : ℕ) → IsSetIn new i ↔ (IsSetIn old i × All (λ e. ¬ LiesOn row i e) edges)
