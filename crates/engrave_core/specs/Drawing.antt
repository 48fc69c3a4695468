-- The drawing that a command's words name: what its file gives by its form, where no two of its edges cross.
use Rattle.std.specs.Prelude.{◌≡◌, ℕ, Bool, true, false, Option, Some, None, List, [], Result, Ok, Err, MatchResult, unwrap_or}
use Rattle.cxf_font.specs.Grammar.{font_of}
use Rattle.cxf_font.specs.Lay.{lay_of}
use Rattle.cxf_font.specs.declared.layout.Justify.{Justify}
use Rattle.cxf_font.specs.declared.layout.Justify.TheVariants as justify
use Rattle.cxf_font.specs.declared.layout.Layout.{Layout}
use Rattle.dxf_outline.specs.Outline.{dxf_of}
use Rattle.engrave_model.specs.Crossing.{IsFirstCrossing, IsFirstCrossPair}
use Rattle.engrave_model.specs.Drawing.{edges_of}
use Rattle.grid_num.specs.Judging.{and_then}
use Rattle.grid_num.specs.Units.{per_unit_of}
use Rattle.job_words.specs.declared.request.CrossWord.{CrossWord}
use Rattle.job_words.specs.declared.request.CrossWord.TheVariants as cross
use Rattle.job_words.specs.declared.request.DrawingWords.{DrawingWords}
use Rattle.job_words.specs.declared.request.FormWord.{FormWord}
use Rattle.job_words.specs.declared.request.FormWord.TheVariants as form
use Rattle.job_words.specs.declared.request.JustifyWord.{JustifyWord}
use Rattle.job_words.specs.declared.request.JustifyWord.TheVariants as word
use Rattle.job_words.specs.declared.request.YesNo.{YesNo}
use Rattle.job_words.specs.declared.request.YesNo.TheVariants as yes
use Rattle.loop_join.specs.Join.{join_of}
use Rattle.loop_join.specs.Snap.{snap_of}
use Rattle.loops_text.specs.Grammar.{loops_of}
use Rattle.loops_text.specs.declared.reader.TheConstants.{MOST_DRAWING_BYTES}
use Rattle.pbm_edges.specs.Boundary.{edges_of_pixels}
use Rattle.pbm_edges.specs.Pbm.{pbm_of}
use Rattle.plane_exact.specs.Plane.{GridPoint}
use Rattle.plane_exact.specs.declared.point.Seg.{Seg}
use Rattle.engrave_core.specs.Given.{IsGivenBy}
use Rattle.engrave_core.specs.Outcome.{IfAnswered, outcome_of}
use Rattle.engrave_core.specs.Refusals.{flat_refusal, join_refusal, lay_refusal, pbm_refusal}
use Rattle.engrave_core.specs.Stored.{Files, bytes_of, or_refused}
use Rattle.engrave_core.specs.declared.outcome.InputFault.TheVariants.{Loops, Cxf, Dxf, Cross}
use Rattle.engrave_core.specs.declared.outcome.Outcome.{Outcome}
use Rattle.engrave_core.specs.declared.outcome.Which.TheVariants.{Drawing}
use Rattle.engrave_core.specs.declared.refusal.Refusal.{Refusal}
use Rattle.engrave_core.specs.declared.refusal.Refusal.TheVariants.{Input, Usage}

-- the loops of a drawing, and how many entities of its file were skipped, where its form skips any
pub record ReadDrawing : Type 0 where
  pub loops : List (List GridPoint)
  pub skipped : Option ℕ

-- what stands at x = 0
abbrev pub justify_of : JustifyWord → Justify
justify_of word.Left = justify.Left
justify_of word.Center = justify.Center
justify_of word.Right = justify.Right

-- yes, as a truth
abbrev pub is_yes : YesNo → Bool
is_yes yes.Yes = true
is_yes yes.No = false

-- the loose segments of a drawing, and how many entities of its file were skipped, where its form skips any
pub record ReadSegments : Type 0 where
  pub segments : List Seg
  pub skipped : Option ℕ

-- the loops that loose segments are joined into, or the refusal
abbrev pub joined : Option ℕ → List Seg → Result ReadDrawing Refusal
joined skipped segs = and_then (or_refused join_refusal (join_of segs)) (λ loops. Ok (record { loops = loops; skipped = skipped }))

-- the drawing of a text in loops form
abbrev pub loops_read : List ℕ → Result ReadDrawing Refusal
loops_read text = and_then (or_refused (λ fault. Input (Loops fault)) (loops_of text)) (λ loops. Ok (record { loops = loops; skipped = None }))

-- the segments of a DXF file: points that are close become one
abbrev pub dxf_segments : DrawingWords → List ℕ → Result ReadSegments Refusal
dxf_segments shape text =
    and_then (or_refused (λ fault. Input (Dxf fault)) (dxf_of (per_unit_of shape.units) shape.chord text))
    (λ drawn. Ok (record { segments = snap_of shape.snap drawn.segs; skipped = Some drawn.skipped }))

-- its drawing: the segments are joined
abbrev pub dxf_read : DrawingWords → List ℕ → Result ReadDrawing Refusal
dxf_read shape text = and_then (dxf_segments shape text) (λ read. joined read.skipped read.segments)

-- how the words lay out their text
abbrev pub layout_of : DrawingWords → Layout
layout_of shape = record {
  height = shape.height;
  width = shape.width;
  charspace = shape.charspace;
  wordspace = shape.wordspace;
  linespace = shape.linespace;
  justify = justify_of shape.justify;
  mirror = is_yes shape.mirror;
  flip = is_yes shape.flip;
}

-- the segments of a font's letters: they are laid out, and points that are close become one
abbrev pub cxf_segments : DrawingWords → List ℕ → Result ReadSegments Refusal
cxf_segments shape text =
    and_then (or_refused (λ fault. Input (Cxf fault)) (font_of text))
    (λ font. and_then (or_refused lay_refusal (lay_of font (unwrap_or shape.text []) (layout_of shape) shape.chord))
    (λ segs. Ok (record { segments = snap_of shape.snap segs; skipped = None })))

-- their drawing: the segments are joined
abbrev pub cxf_read : DrawingWords → List ℕ → Result ReadDrawing Refusal
cxf_read shape text = and_then (cxf_segments shape text) (λ read. joined read.skipped read.segments)

-- that of a bitmap: the boundary of its black pixels, which is on the grid and isn't snapped
abbrev pub pbm_read : DrawingWords → List ℕ → Result ReadDrawing Refusal
pbm_read shape text =
    and_then (or_refused pbm_refusal (pbm_of text))
    (λ map. and_then (or_refused flat_refusal (edges_of_pixels map shape.pixel)) (joined None))

-- that of a file of this form
abbrev pub read_as : FormWord → DrawingWords → List ℕ → Result ReadDrawing Refusal
read_as form.Loops shape text = loops_read text
read_as form.Dxf shape text = dxf_read shape text
read_as form.Cxf shape text = cxf_read shape text
read_as form.Pbm shape text = pbm_read shape text

-- that of a file of the form that the words say, or the refusal
unfoldable pub drawing_of : DrawingWords → List ℕ → Result ReadDrawing Refusal
drawing_of shape text = read_as shape.form shape text

-- what the stored file gives that the words name
unfoldable pub stored_drawing : Files → DrawingWords → Result ReadDrawing Refusal
stored_drawing files shape = and_then (bytes_of Drawing MOST_DRAWING_BYTES (files shape.drawing)) (drawing_of shape)

-- the segments of a file of the form that the words say, which is one that may have open lines
abbrev pub segments_as : FormWord → DrawingWords → List ℕ → Result ReadSegments Refusal
segments_as form.Dxf shape text = dxf_segments shape text
segments_as form.Cxf shape text = cxf_segments shape text
segments_as other shape text = Err Usage

-- the same, or the refusal
unfoldable pub segments_of : DrawingWords → List ℕ → Result ReadSegments Refusal
segments_of shape text = segments_as shape.form shape text

-- the strokes that the stored file gives that the words name
unfoldable pub stored_strokes : Files → DrawingWords → Result (List Seg) Refusal
stored_strokes files shape =
    and_then (bytes_of Drawing MOST_DRAWING_BYTES (files shape.drawing)) (λ text. and_then (segments_of shape text) (λ read. Ok read.segments))

-- the refusal names the first two edges that cross
pub record IsCrossed (drawing : ReadDrawing) (refusal : Refusal) : Type 0 where
  pub i : ℕ
  pub j : ℕ
  pub first : IsFirstCrossPair (edges_of drawing.loops) i j
  pub is : refusal ≡ Input (Cross i j)

-- no two edges of the drawing cross
pub record IsUncrossed (drawing answer : ReadDrawing) : Type 0 where
  pub same : answer ≡ drawing
  pub none : IsFirstCrossing (edges_of drawing.loops) None

-- the first two edges that cross, where that is refused
abbrev pub IsRefusedCrossing : CrossWord → List Seg → Option (ℕ × ℕ) → Type 0
IsRefusedCrossing cross.Refuse edges pair = IsFirstCrossing edges pair
IsRefusedCrossing cross.Evenodd edges pair = pair ≡ None

-- what is answered where a drawing is read whose edges may cross: it is refused where they do, or taken as it is
abbrev pub IsGuarded : CrossWord → ReadDrawing → Result ReadDrawing Refusal → Type 0
IsGuarded cross.Refuse drawing (Ok answer) = IsUncrossed drawing answer
IsGuarded cross.Refuse drawing (Err refusal) = IsCrossed drawing refusal
IsGuarded cross.Evenodd drawing answer = answer ≡ Ok drawing

-- the drawing, or the refusal of it
abbrev pub IsGuardedResult : CrossWord → Result ReadDrawing Refusal → Result ReadDrawing Refusal → Type 0
IsGuardedResult word (Ok drawing) answer = IsGuarded word drawing answer
IsGuardedResult word (Err refusal) answer = answer ≡ Err refusal

-- the drawing that the words name, or the refusal of it
unfoldable pub IsDrawingOf : Files → DrawingWords → Result ReadDrawing Refusal → Type 0
IsDrawingOf files shape answer = IsGuardedResult shape.cross (stored_drawing files shape) answer

-- what the drawing gives that the words name, or else the refusal of it
pub record IsGivenByDrawing (Gives : ReadDrawing → Outcome → List ℕ → Type 0) (files : Files) (shape : DrawingWords) (outcome : Outcome) (text : List ℕ) : Type 0 where
  pub answer : Result ReadDrawing Refusal
  pub is : IsDrawingOf files shape answer
  pub given : IsGivenBy Gives answer outcome text

-- a result of reading the drawing is as this says: its value, or the refusal, where it was answered
abbrev pub IsReadWhere : {A : Type 0} → (A → ReadDrawing) → (Result ReadDrawing Refusal → Type 0) → Result A Refusal → Type 0
IsReadWhere value Is result = MatchResult result (λ x. Is (Ok (value x))) (λ refusal. IfAnswered (outcome_of refusal) (Is (Err refusal)))
