-- `flat`: the G-code program by which a flat bit mills the floor.
use Rattle.std.specs.Prelude.{◌≡◌, ℕ, Bool, true, false, if◌then◌else◌, Option, Some, None, List, ◌∷◌, codes}
use Rattle.plane_exact.specs.Cone.{IsCone, IsFromOneTo}
use Rattle.job_words.specs.Options.{OptionRow}
use Rattle.job_words.specs.Command.{Command, needed, optional}
use Rattle.job_words.specs.Shape.{shape_of, shape_options}
use Rattle.job_words.specs.Values.{bit_of, feed_of, lines_of, limit_of, over_of, pitch_of, radius_of, rmax_of, safe_of}
use Rattle.job_words.specs.declared.request.DrawingWords.{DrawingWords}
use Rattle.job_words.specs.declared.request.PocketWord.{PocketWord}
use Rattle.job_words.specs.declared.request.PocketWord.TheVariants as pocket
use Rattle.job_words.specs.declared.request.Request.{Request}
use Rattle.job_words.specs.declared.request.Request.TheVariants as request

-- the word asks for rows or columns
abbrev pub has_lines : PocketWord → Bool
has_lines pocket.NoPocket = false
has_lines other = true

-- the request, where each of its values is there, and rows or columns are asked for
abbrev pub flat_by : Option (ℕ × ℕ) → (rmax radius limit over safe feed pitch : Option ℕ) → Option PocketWord → Option DrawingWords → Option Request
flat_by (Some bit) (Some rmax) (Some radius) (Some limit) (Some over) (Some safe) (Some feed) (Some pitch) (Some lines) (Some shape) =
    if has_lines lines then Some (request.Flat shape bit rmax radius limit over safe feed pitch lines) else None
flat_by _ _ _ _ _ _ _ _ _ _ = None

-- the request of the values of its options
unfoldable pub flat_request : (List ℕ → Option (List ℕ)) → Option Request
flat_request value =
    flat_by (bit_of (value (codes "bit"))) (rmax_of (value (codes "rmax"))) (radius_of (value (codes "radius")))
    (limit_of (value (codes "limit"))) (over_of (value (codes "over"))) (safe_of (value (codes "safe")))
    (feed_of (value (codes "feed"))) (pitch_of (value (codes "pitch"))) (lines_of (value (codes "pocket"))) (shape_of value)

-- its options
unfoldable pub flat_options : List OptionRow
flat_options =
    needed (codes "bit") ∷ needed (codes "rmax") ∷ needed (codes "radius") ∷ optional (codes "limit") ∷ optional (codes "over") ∷ optional (codes "safe")
    ∷ optional (codes "feed") ∷ optional (codes "pitch") ∷ optional (codes "pocket") ∷ shape_options

-- the word asks for rows or columns
abbrev pub has_lines_given : Option PocketWord → Bool
has_lines_given (Some lines) = has_lines lines
has_lines_given None = false

-- the word that is given does so
abbrev pub flat_fits : (List ℕ → Option (List ℕ)) → Bool
flat_fits value = has_lines_given (lines_of (value (codes "pocket")))

-- the command
abbrev pub flat : Command
flat = record {
  name = codes "flat";
  options = flat_options;
  request = flat_request;
  fits = flat_fits;
}

-- the ranges of its numbers, and that rows or columns are asked for
pub record IsFlatInRange (bit : ℕ × ℕ) (rmax radius limit over safe feed pitch : ℕ) (lines : PocketWord) : Type 0 where
  pub bit_and_rmax : IsCone bit.0 bit.1 rmax
  pub radius_is : IsFromOneTo 8191 radius
  pub limit_is : IsFromOneTo 32767 limit
  pub over_is : IsFromOneTo 8191 over
  pub safe_is : IsFromOneTo 32767 safe
  pub feed_is : IsFromOneTo 10000 feed
  pub pitch_is : IsFromOneTo 32767 pitch
  pub lines_are : has_lines lines ≡ true
