-- Lines, circles and arcs: their points, and the segments between the points' grid points, judged in order.
use Rattle.std.specs.Prelude.{ℕ, ◌+◌, if◌then◌else◌, Option, Some, None, List, [], ◌++◌, length, option_map, option_and_then, ℤ, pos, int_le, nat_lt, Result, Ok, Err}
use Rattle.grid_num.specs.Whole.{both}
use Rattle.plane_exact.specs.declared.point.Seg.{Seg}
use Rattle.arc_flatten.specs.Arcs.{arc_points}
use Rattle.arc_flatten.specs.Points.{FinePoint}
use Rattle.arc_flatten.specs.Segments.{onto, segments_of}
use Rattle.arc_flatten.specs.Turns.{span_between, turn_of}
use Rattle.arc_flatten.specs.declared.circle.TheConstants.{MOST_CENTRE, MOST_RADIUS}
use Rattle.arc_flatten.specs.declared.angle.TheConstants.{MOST_ANGLE}
use Rattle.arc_flatten.specs.declared.halving.TheConstants.{MOST_END}
use Rattle.dxf_outline.specs.Values.{least_missing, number_up_to}
use Rattle.dxf_outline.specs.declared.fault.DxfFault.{DxfFault}
use Rattle.dxf_outline.specs.declared.fault.DxfKind.TheVariants.{Missing, Number, OutOfRange, TooMany}
use Rattle.dxf_outline.specs.declared.values.Reading.{Reading}
use Rattle.dxf_outline.specs.declared.slots.Shape.{Shape}
use Rattle.dxf_outline.specs.declared.slots.Shape.TheVariants.{Line, Circle, Arc}
use Rattle.dxf_outline.specs.declared.slots.Slots.{Slots}
use Rattle.dxf_outline.specs.declared.shapes.TheConstants.{MOST_SEGMENTS}

-- the segments so far, and how many entities were skipped
pub record Drawn : Type 0 where
  pub segs : List Seg
  pub skipped : ℕ

-- a fault at the pair where there is one, else what comes next
abbrev pub unless : {A B : Type 0} → Option A → (A → DxfFault) → Result B DxfFault → Result B DxfFault
unless None fault next = next
unless (Some x) fault next = Err (fault x)

-- what there is, or a fault that says it is out of range
abbrev pub in_range : {A : Type 0} → (at : ℕ) → Option A → Result A DxfFault
in_range at (Some x) = Ok x
in_range at None = Err (record { pair = at; kind = OutOfRange })

-- a point whose numbers aren't above `most` in size
abbrev pub point_up_to : (most : ℕ) → (x y : Option Reading) → Option FinePoint
point_up_to most x y = option_map (λ pair. record { x = pair.0; y = pair.1 }) (both (number_up_to most x) (number_up_to most y))

-- a radius, which isn't negative
abbrev pub radius_of : Option Reading → Option ℤ
radius_of radius = option_and_then (λ r. if int_le (pos 0) r then Some r else None) (number_up_to MOST_RADIUS radius)

-- the two ends of a LINE
unfoldable pub line_points : Slots → Option (List FinePoint)
line_points slots = onto (point_up_to MOST_END slots.x slots.y) (onto (point_up_to MOST_END slots.end_x slots.end_y) (Some []))

-- the points of the arc about the centre with the radius
abbrev pub points_about : Slots → (from span chord : ℕ) → Option (List FinePoint)
points_about slots from span chord =
    option_map (λ pair. arc_points pair.0 pair.1 from span chord) (both (point_up_to MOST_CENTRE slots.x slots.y) (radius_of slots.radius))

-- the points of an ARC
unfoldable pub arc_points_of : (chord : ℕ) → Slots → Option (List FinePoint)
arc_points_of chord slots =
    option_and_then (λ pair. points_about slots (turn_of pair.0) (span_between (turn_of pair.0) (turn_of pair.1)) chord)
    (both (number_up_to MOST_ANGLE slots.from) (number_up_to MOST_ANGLE slots.to))

-- the segments of an entity that begins at this pair: first what can't be read, then what is missing, then what is out of range
abbrev pub judged : (at : ℕ) → Shape → Slots → (points : Option (List FinePoint)) → Result (List Seg) DxfFault
judged at shape slots points =
    unless slots.unreadable (λ pair. record { pair = pair; kind = Number })
    (unless (least_missing shape slots) (λ code. record { pair = at; kind = Missing code })
    (in_range at (option_and_then segments_of points)))

-- the points of an entity that is drawn by itself
unfoldable pub shape_points : Shape → (chord : ℕ) → Slots → Option (List FinePoint)
shape_points Line chord slots = line_points slots
shape_points Circle chord slots = points_about slots 0 4194304 chord
shape_points Arc chord slots = arc_points_of chord slots
shape_points _ chord slots = None

-- the segments of such an entity that begins at this pair
unfoldable pub shape_segs : Shape → (chord at : ℕ) → Slots → Result (List Seg) DxfFault
shape_segs shape chord at slots = judged at shape slots (shape_points shape chord slots)

-- with more segments
abbrev pub with_segs : Drawn → List Seg → Drawn
with_segs drawn segs = record drawn { segs = drawn.segs ++ segs }

-- the drawing with the segments of an entity that begins at this pair, where they aren't too many
unfoldable pub and_segs : (at : ℕ) → Drawn → List Seg → Result Drawn DxfFault
and_segs at drawn segs =
    if nat_lt MOST_SEGMENTS (length drawn.segs + length segs)
    then Err (record { pair = at; kind = TooMany })
    else Ok (with_segs drawn segs)
