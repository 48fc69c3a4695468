-- Where the drawing of a text stands, as the definitions see it.
use Rattle.std.specs.Prelude.{◌++◌, if◌then◌else◌, List, Result, Err}
use Rattle.grid_num.specs.Judging.{and_then}
use Rattle.plane_exact.specs.declared.point.Seg.{Seg}
use Rattle.arc_flatten.specs.Points.{FinePoint}
use Rattle.cxf_font.specs.Lay.{all_segments, few}
use Rattle.cxf_font.specs.declared.drawing.Drawing.{Drawing}
use Rattle.cxf_font.specs.declared.lay_fault.LayFault.{LayFault}
use Rattle.cxf_font.specs.declared.lay_fault.LayFault.TheVariants.{TooMany}

-- what is drawn, with later segments behind it
abbrev pub drawn_with : Drawing → List Seg → Result (List Seg) LayFault
drawn_with drawing later = if drawing.is_over then Err TooMany else few (drawing.segs.items ++ later)

-- the same with later strokes
abbrev pub drawn_on : Drawing → List (List FinePoint) → Result (List Seg) LayFault
drawn_on drawing strokes = and_then (all_segments strokes) (drawn_with drawing)
