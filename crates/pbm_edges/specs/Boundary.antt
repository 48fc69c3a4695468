-- The boundary between black and white, as segments of the grid.
use Rattle.std.specs.Prelude.{ℕ, ◌+◌, ◌-◌, ◌*◌, ◌≤◌, Bool, true, false, not, ◌||◌, if◌then◌else◌, List, [], ◌∷◌, ◌++◌, map, length, nat_lt, pos, Result, Ok, Err}
use Rattle.std.specs.List.{flat_map, range_with_len}
use Rattle.plane_exact.specs.Plane.{GridPoint}
use Rattle.plane_exact.specs.declared.point.Seg.{Seg}
use Rattle.pbm_edges.specs.Pixels.{Pixels, is_black_in}
use Rattle.pbm_edges.specs.declared.fault.FlatFault.{FlatFault}
use Rattle.pbm_edges.specs.declared.fault.FlatFault.TheVariants.{OutOfRange, TooMany}
use Rattle.pbm_edges.specs.declared.side.Line.{Line}
use Rattle.pbm_edges.specs.declared.side.Line.TheVariants.{Across, Up}
use Rattle.pbm_edges.specs.declared.side.Side.{Side}
use Rattle.pbm_edges.specs.declared.side.Side.TheVariants.{Level, Onward, Back}
use Rattle.pbm_edges.specs.declared.side.Stretch.{Stretch}
use Rattle.pbm_edges.specs.declared.tracing.TheConstants.{MOST_COORDINATE, MOST_SEGMENTS}

-- how the boundary runs between two pixels, the first of them above or to the left: with the axis where that one alone is black
abbrev pub side_of : Bool → Bool → Side
side_of true false = Onward
side_of false true = Back
side_of true true = Level
side_of false false = Level

-- The side of a pixel that begins so far along a line of the grid. Lines across are counted from the top, and their sides from the
-- left; lines up from the left, and their sides from the bottom.
abbrev pub side_at : Pixels → Line → ℕ → Side
side_at image (Across k) i = side_of (is_black_in image (i + 1) k) (is_black_in image (i + 1) (k + 1))
side_at image (Up k) i = side_of (is_black_in image k (image.height - i)) (is_black_in image (k + 1) (image.height - i))

-- how many sides of pixels a line has
abbrev pub sides_along : Pixels → Line → ℕ
sides_along image (Across k) = image.width
sides_along image (Up k) = image.height

-- the line passes through the image or along its border
abbrev pub IsLineOf : Pixels → Line → Type 0
IsLineOf image (Across k) = k ≤ image.height
IsLineOf image (Up k) = k ≤ image.width

-- the boundary runs one way along both sides, or along neither
abbrev pub same_side : Side → Side → Bool
same_side Level Level = true
same_side Onward Onward = true
same_side Back Back = true
same_side _ _ = false

-- a run begins with a side of the boundary behind one that isn't the same
abbrev pub begins : (before side : Side) → Bool
begins before Level = false
begins before Onward = not (same_side before Onward)
begins before Back = not (same_side before Back)

-- how many sides at the front are the same as this
abbrev pub repeated : Side → List Side → ℕ
repeated side [] = 0
repeated side (next ∷ sides) = if same_side side next then 1 + repeated side sides else 0

-- the runs of sides from the place i on: each begins where a run begins, and goes on as far as the side stays the same
abbrev pub runs_behind : (before : Side) → (i : ℕ) → List Side → List Stretch
runs_behind before i [] = []
runs_behind before i (side ∷ sides) =
    (if begins before side then record { first = i; until = i + 1 + repeated side sides; side = side } ∷ [] else []) ++ runs_behind side (i + 1) sides

-- the stretch alone where it is one of the boundary
abbrev pub boundary_run : Stretch → List Stretch
boundary_run run = kept run.side
  where
    kept : Side → List Stretch
    kept Level = []
    kept _ = run ∷ []

-- the runs of the boundary on a line
unfoldable pub runs_of : Pixels → Line → List Stretch
runs_of image line = runs_behind Level 0 (map (side_at image line) (range_with_len 0 (sides_along image line)))

-- a corner of pixels, in grid units
abbrev pub corner_at : (x y : ℕ) → GridPoint
corner_at x y = record { x = pos x; y = pos y }

-- from one corner to the other, or back
abbrev pub turned : Side → GridPoint → GridPoint → Seg
turned Back p q = record { a = q; b = p }
turned _ p q = record { a = p; b = q }

-- the segment of a run on a line, with pixels of this size
abbrev pub segment_of : Pixels → (pixel : ℕ) → Line → Stretch → Seg
segment_of image pixel (Across k) run =
    turned run.side (corner_at (run.first * pixel) ((image.height - k) * pixel)) (corner_at (run.until * pixel) ((image.height - k) * pixel))
segment_of image pixel (Up k) run = turned run.side (corner_at (k * pixel) (run.first * pixel)) (corner_at (k * pixel) (run.until * pixel))

-- the segments on a line
abbrev pub segments_on : Pixels → (pixel : ℕ) → Line → List Seg
segments_on image pixel line = map (segment_of image pixel line) (runs_of image line)

-- the lines across, from the top
abbrev pub lines_across : Pixels → List Line
lines_across image = map Across (range_with_len 0 (image.height + 1))

-- the lines up, from the left
abbrev pub lines_up : Pixels → List Line
lines_up image = map Up (range_with_len 0 (image.width + 1))

-- the segments on all lines, those across first
unfoldable pub boundary_of : Pixels → (pixel : ℕ) → List Seg
boundary_of image pixel = flat_map (segments_on image pixel) (lines_across image) ++ flat_map (segments_on image pixel) (lines_up image)

-- the whole image is on the grid, with pixels of this size
pub record IsWithinGrid (image : Pixels) (pixel : ℕ) : Type 0 where
  pub across : image.width * pixel ≤ MOST_COORDINATE
  pub up : image.height * pixel ≤ MOST_COORDINATE

-- the segments of a bitmap with pixels of this size, or what is wrong with them
unfoldable pub edges_of_pixels : Pixels → (pixel : ℕ) → Result (List Seg) FlatFault
edges_of_pixels image pixel =
    if nat_lt MOST_COORDINATE (image.width * pixel) || nat_lt MOST_COORDINATE (image.height * pixel) then Err OutOfRange
    else if nat_lt MOST_SEGMENTS (length (boundary_of image pixel)) then Err TooMany
    else Ok (boundary_of image pixel)
