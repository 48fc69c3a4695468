-- When two boxes along the axes meet.
use Rattle.std.specs.Prelude.{ℕ, ℤ, Bool, ◌&&◌, if◌then◌else◌, int_le}
use Rattle.lane_kernels.specs.declared.boxes.Rect.{Rect}

-- the ranges from a to b and from c to d have a number in common
unfoldable pub overlap : (a b c d : ℤ) → Bool
overlap a b c d = int_le c b && int_le a d

-- the boxes have a point in common, sides and corners among their points
abbrev pub is_met : Rect → Rect → Bool
is_met q b = overlap q.x0 q.x1 b.x0 b.x1 && overlap q.y0 q.y1 b.y0 b.y1

-- 1 where the boxes meet, else 0
abbrev pub hit_of : Rect → Rect → ℕ
hit_of q b = if is_met q b then 1 else 0
