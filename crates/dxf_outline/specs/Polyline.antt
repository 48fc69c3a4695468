-- A POLYLINE with its VERTEX entities: its corners, and the segments along it.
use Rattle.std.specs.Prelude.{ℕ, ◌+◌, Bool, true, ◌||◌, if◌then◌else◌, Option, Some, None, List, [], ◌∷◌, ◌++◌, filter_map, option_map, ℤ, Result, Ok}
use Rattle.grid_num.specs.Judging.{and_then}
use Rattle.grid_num.specs.Whole.{both}
use Rattle.plane_exact.specs.declared.point.Seg.{Seg}
use Rattle.arc_flatten.specs.Bulges.{bulge_points}
use Rattle.arc_flatten.specs.Points.{FinePoint}
use Rattle.arc_flatten.specs.Segments.{segments_of}
use Rattle.arc_flatten.specs.declared.halving.TheConstants.{MOST_BULGE, MOST_END}
use Rattle.dxf_outline.specs.Corners.{CornerPoint}
use Rattle.dxf_outline.specs.Shapes.{Drawn, and_segs, in_range, point_up_to, unless}
use Rattle.dxf_outline.specs.Values.{flags_of, has_flag, least_missing, number_up_to}
use Rattle.dxf_outline.specs.declared.fault.DxfFault.{DxfFault}
use Rattle.dxf_outline.specs.declared.fault.DxfKind.TheVariants.{Missing, Number, OutOfRange}
use Rattle.dxf_outline.specs.declared.slots.Shape.TheVariants as shape
use Rattle.dxf_outline.specs.declared.slots.Slots.{Slots}
use Rattle.dxf_outline.specs.declared.corners.Vertex.{Vertex}
use Rattle.dxf_outline.specs.declared.corners.Vertex.TheVariants.{Passed, Unreadable, Lacking, TooLarge, Corner}

-- a POLYLINE that has begun: its first pair, the first of its own that can't be read, its flags, and its vertices so far
pub record Trail : Type 0 where
  pub at : ℕ
  pub unreadable : Option ℕ
  pub flags : ℕ
  pub vertices : List Vertex

-- a POLYLINE without a vertex, by its first pair and what its pairs say
abbrev pub trail_of : (at : ℕ) → Slots → Trail
trail_of at slots = record { at = at; unreadable = slots.unreadable; flags = flags_of slots; vertices = [] }

-- with one more vertex
abbrev pub with_vertex : Trail → Vertex → Trail
with_vertex trail vertex = record trail { vertices = trail.vertices ++ vertex ∷ [] }

-- a vertex of the frame that a curve was fitted to, by bit 16 of its flags, is passed over
abbrev pub passed : Option ℕ → Vertex
passed None = Passed
passed (Some pair) = Unreadable pair

-- the place and the bulge of a vertex, where they are in range
abbrev pub corner_of : Slots → Vertex
corner_of slots = cornered (both (point_up_to MOST_END slots.x slots.y) (number_up_to MOST_BULGE slots.bulge))
  where
    cornered : Option (FinePoint × ℤ) → Vertex
    cornered None = TooLarge
    cornered (Some (place, bulge)) = Corner (record { place = place; bulge = bulge })

-- a vertex with a place: first what can't be read, then what is missing, then what is out of range
abbrev pub placed : (at : ℕ) → Slots → Option ℕ → Option ℕ → Vertex
placed at slots (Some pair) missing = Unreadable pair
placed at slots None (Some code) = Lacking at code
placed at slots None None = corner_of slots

-- the VERTEX that begins at this pair
unfoldable pub vertex_of : (at : ℕ) → Slots → Vertex
vertex_of at slots = if has_flag 16 (flags_of slots) then passed slots.unreadable_flags else placed at slots slots.unreadable (least_missing shape.Vertex slots)

-- a number of the vertex that can't be read, as a fault
abbrev pub unreadable_of : Vertex → Option DxfFault
unreadable_of (Unreadable pair) = Some (record { pair = pair; kind = Number })
unreadable_of _ = None

-- a code that it lacks
abbrev pub lacking_of : Vertex → Option DxfFault
lacking_of (Lacking pair code) = Some (record { pair = pair; kind = Missing code })
lacking_of _ = None

-- a number out of its range, at the POLYLINE's first pair
abbrev pub too_large_of : (at : ℕ) → Vertex → Option DxfFault
too_large_of at TooLarge = Some (record { pair = at; kind = OutOfRange })
too_large_of at _ = None

-- the first fault that the vertices have by one of these
abbrev pub first_fault : (Vertex → Option DxfFault) → List Vertex → Option DxfFault
first_fault fault_of [] = None
first_fault fault_of (vertex ∷ vertices) = or_later (fault_of vertex) (first_fault fault_of vertices)
  where
    or_later : Option DxfFault → Option DxfFault → Option DxfFault
    or_later (Some fault) later = Some fault
    or_later None later = later

-- the corner at a vertex
abbrev pub corner_at : Vertex → Option CornerPoint
corner_at (Corner corner) = Some corner
corner_at _ = None

-- the corners in order, and where the POLYLINE is closed and has two or more, the first again
abbrev pub closed_round : (closed : Bool) → List CornerPoint → List CornerPoint
closed_round true (c ∷ d ∷ corners) = (c ∷ d ∷ corners) ++ c ∷ []
closed_round _ corners = corners

-- the segments from one corner to the next, by the bulge of the first
abbrev pub span_segs : (chord : ℕ) → CornerPoint → CornerPoint → Option (List Seg)
span_segs chord c d = segments_of (bulge_points c.place d.place c.bulge chord)

-- the segments along the corners, where no point leaves the grid
unfoldable pub segs_through : (chord : ℕ) → List CornerPoint → Option (List Seg)
segs_through chord [] = Some []
segs_through chord (c ∷ []) = Some []
segs_through chord (c ∷ d ∷ corners) = option_map (λ pair. pair.0 ++ pair.1) (both (span_segs chord c d) (segs_through chord (d ∷ corners)))

-- the segments of a POLYLINE, by bit 1 of its flags closed: the faults of its vertices first
unfoldable pub trail_segs : (chord : ℕ) → Trail → Result (List Seg) DxfFault
trail_segs chord trail =
    unless (first_fault unreadable_of trail.vertices) (λ fault. fault)
    (unless (first_fault lacking_of trail.vertices) (λ fault. fault)
    (unless (first_fault (too_large_of trail.at) trail.vertices) (λ fault. fault)
    (in_range trail.at (segs_through chord (closed_round (has_flag 1 trail.flags) (filter_map corner_at trail.vertices))))))

-- one more entity skipped
abbrev pub one_skipped : Drawn → Drawn
one_skipped drawn = record drawn { skipped = drawn.skipped + 1 }

-- A POLYLINE at its SEQEND: its own flags must be readable; a mesh, by bit 16 or 64, is skipped whole, and its vertices aren't
-- looked at.
unfoldable pub trail_drawn : (chord : ℕ) → Trail → Drawn → Result Drawn DxfFault
trail_drawn chord trail drawn =
    unless trail.unreadable (λ pair. record { pair = pair; kind = Number })
    (if has_flag 16 trail.flags || has_flag 64 trail.flags
    then Ok (one_skipped drawn)
    else and_then (trail_segs chord trail) (and_segs trail.at drawn))
