-- Drawings of the code, as definitions see them.
use Rattle.engrave_core.specs.Drawing.{ReadDrawing, ReadSegments}
use Rattle.engrave_core.specs.declared.drawing.Loaded.{Loaded}
use Rattle.engrave_core.specs.declared.drawing.Read.{Read}
use Rattle.engrave_core.specs.declared.drawing.Segments.{Segments}

-- the drawing that was loaded
abbrev pub drawing_in : Loaded → ReadDrawing
drawing_in loaded = record { loops = loaded.scene; skipped = loaded.skipped }

-- the segments that were read
abbrev pub segments_read : Segments → ReadSegments
segments_read read = record { segments = read.segs.items; skipped = read.skipped }

-- the drawing that was read
abbrev pub drawing_read : Read → ReadDrawing
drawing_read read = record { loops = read.drawing; skipped = read.skipped }
