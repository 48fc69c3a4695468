-- `strokes`: the G-code program that follows open lines at one depth.
use Rattle.std.specs.Prelude.{◌≡◌, ℕ, ◌*◌, ◌≤◌, ◌&&◌, Bool, true, false, if◌then◌else◌, Option, Some, None, List, ◌∷◌, codes, nat_le}
use Rattle.plane_exact.specs.Cone.{IsCone, IsFromOneTo}
use Rattle.job_words.specs.Options.{OptionRow}
use Rattle.job_words.specs.Command.{Command, needed, optional}
use Rattle.job_words.specs.Shape.{shape_of, shape_options}
use Rattle.job_words.specs.Values.{bit_of, depth_of, feed_of, form_of, pitch_of, rmax_of, safe_of}
use Rattle.job_words.specs.declared.request.DrawingWords.{DrawingWords}
use Rattle.job_words.specs.declared.request.FormWord.{FormWord}
use Rattle.job_words.specs.declared.request.FormWord.TheVariants as form
use Rattle.job_words.specs.declared.request.Request.{Request}
use Rattle.job_words.specs.declared.request.Request.TheVariants as request

-- a drawing of this form may have open lines
abbrev pub has_strokes : FormWord → Bool
has_strokes form.Dxf = true
has_strokes form.Cxf = true
has_strokes other = false

-- at the depth the bit is no wider than its greatest radius
abbrev pub is_narrow : ℕ × ℕ → (rmax depth : ℕ) → Bool
is_narrow (sn, sd) rmax depth = nat_le (sn * depth) (sd * rmax)

-- the request, where each of its values is there, the form is one that may have open lines, and the bit is narrow at the depth
abbrev pub strokes_by : Option (ℕ × ℕ) → (rmax depth safe feed pitch : Option ℕ) → Option DrawingWords → Option Request
strokes_by (Some bit) (Some rmax) (Some depth) (Some safe) (Some feed) (Some pitch) (Some shape) =
    if has_strokes shape.form && is_narrow bit rmax depth then Some (request.Strokes shape bit rmax depth safe feed pitch) else None
strokes_by _ _ _ _ _ _ _ = None

-- the request of the values of its options
unfoldable pub strokes_request : (List ℕ → Option (List ℕ)) → Option Request
strokes_request value =
    strokes_by (bit_of (value (codes "bit"))) (rmax_of (value (codes "rmax"))) (depth_of (value (codes "depth")))
    (safe_of (value (codes "safe"))) (feed_of (value (codes "feed"))) (pitch_of (value (codes "pitch"))) (shape_of value)

-- its options
unfoldable pub strokes_options : List OptionRow
strokes_options =
    needed (codes "bit") ∷ needed (codes "rmax") ∷ needed (codes "depth") ∷ optional (codes "safe") ∷ optional (codes "feed")
    ∷ optional (codes "pitch") ∷ shape_options

-- the form is one that may have open lines
abbrev pub has_strokes_given : Option FormWord → Bool
has_strokes_given (Some form) = has_strokes form
has_strokes_given None = false

-- the bit is narrow at the depth
abbrev pub is_narrow_given : Option (ℕ × ℕ) → (rmax depth : Option ℕ) → Bool
is_narrow_given (Some bit) (Some rmax) (Some depth) = is_narrow bit rmax depth
is_narrow_given _ _ _ = false

-- both are so
abbrev pub strokes_fits : (List ℕ → Option (List ℕ)) → Bool
strokes_fits value =
    has_strokes_given (form_of (value (codes "form")))
    && is_narrow_given (bit_of (value (codes "bit"))) (rmax_of (value (codes "rmax"))) (depth_of (value (codes "depth")))

-- the command
abbrev pub strokes : Command
strokes = record {
  name = codes "strokes";
  options = strokes_options;
  request = strokes_request;
  fits = strokes_fits;
}

-- the ranges of its numbers, that the bit is narrow at the depth, and that the form may have open lines
pub record IsStrokesInRange (shape : DrawingWords) (bit : ℕ × ℕ) (rmax depth safe feed pitch : ℕ) : Type 0 where
  pub form_is : has_strokes shape.form ≡ true
  pub bit_and_rmax : IsCone bit.0 bit.1 rmax
  pub depth_is : IsFromOneTo 32767 depth
  pub narrow : bit.0 * depth ≤ bit.1 * rmax
  pub safe_is : IsFromOneTo 32767 safe
  pub feed_is : IsFromOneTo 10000 feed
  pub pitch_is : IsFromOneTo 32767 pitch
