-- What the value of an option writes, and the defaults.
use Rattle.std.specs.Prelude.{ℕ, ◌&&◌, if◌then◌else◌, Option, Some, None, List, codes, length, ℤ, pos, int_le, nat_abs, nat_le, option_and_then, option_map}
use Rattle.std.specs.Str.{bytes_eq, chars}
use Rattle.grid_num.specs.Whole.{whole_of, both, pair_of}
use Rattle.grid_num.specs.declared.units.Units.{Units}
use Rattle.grid_num.specs.declared.units.Units.TheVariants.{Mm10, Mm100, Mm1000, In100, In1000}
use Rattle.plane_exact.specs.Plane.{GridPoint, is_coordinate}
use Rattle.job_words.specs.declared.request.CrossWord.{CrossWord}
use Rattle.job_words.specs.declared.request.CrossWord.TheVariants.{Refuse, Evenodd}
use Rattle.job_words.specs.declared.request.FormWord.{FormWord}
use Rattle.job_words.specs.declared.request.FormWord.TheVariants.{Loops, Dxf, Cxf, Pbm}
use Rattle.job_words.specs.declared.request.JustifyWord.{JustifyWord}
use Rattle.job_words.specs.declared.request.JustifyWord.TheVariants.{Left, Center, Right}
use Rattle.job_words.specs.declared.request.PocketWord.{PocketWord}
use Rattle.job_words.specs.declared.request.PocketWord.TheVariants.{NoPocket, X, Y, Both}
use Rattle.job_words.specs.declared.request.YesNo.{YesNo}
use Rattle.job_words.specs.declared.request.YesNo.TheVariants.{Yes, No}

-- a point of the grid, where both are coordinates
abbrev pub on_grid : ℤ × ℤ → Option GridPoint
on_grid (x, y) = if is_coordinate x && is_coordinate y then Some (record { x = x; y = y }) else None

-- two coordinates with a comma (44) between them
abbrev pub point_of : List ℕ → Option GridPoint
point_of text = option_and_then on_grid (pair_of 44 text)

-- a number from the least to the most
abbrev pub within : (least most : ℕ) → ℤ → Option ℕ
within least most z = if int_le (pos least) z && int_le z (pos most) then Some (nat_abs z) else None

-- a whole number from the least to the most
abbrev pub number_of : (least most : ℕ) → List ℕ → Option ℕ
number_of least most text = option_and_then (within least most) (whole_of text)

-- two numbers from 1 to 2000
abbrev pub both_to_2000 : ℤ × ℤ → Option (ℕ × ℕ)
both_to_2000 (sn, sd) = both (within 1 2000 sn) (within 1 2000 sd)

-- two numbers from 1 to 2000 with a slash (47) between them
abbrev pub slope_of : List ℕ → Option (ℕ × ℕ)
slope_of text = option_and_then both_to_2000 (pair_of 47 text)

-- the form of a drawing's file
abbrev pub form_named : List ℕ → Option FormWord
form_named text =
    if bytes_eq text (codes "loops") then Some Loops
    else if bytes_eq text (codes "dxf") then Some Dxf
    else if bytes_eq text (codes "cxf") then Some Cxf
    else if bytes_eq text (codes "pbm") then Some Pbm
    else None

-- which part of a line stands at x = 0
abbrev pub justify_named : List ℕ → Option JustifyWord
justify_named text =
    if bytes_eq text (codes "left") then Some Left
    else if bytes_eq text (codes "center") then Some Center
    else if bytes_eq text (codes "right") then Some Right
    else None

-- yes or no
abbrev pub yes_named : List ℕ → Option YesNo
yes_named text = if bytes_eq text (codes "yes") then Some Yes else if bytes_eq text (codes "no") then Some No else None

-- what becomes of a drawing whose edges cross or overlap
abbrev pub cross_named : List ℕ → Option CrossWord
cross_named text =
    if bytes_eq text (codes "refuse") then Some Refuse
    else if bytes_eq text (codes "evenodd") then Some Evenodd
    else None

-- how flat floors are milled
abbrev pub pocket_named : List ℕ → Option PocketWord
pocket_named text =
    if bytes_eq text (codes "none") then Some NoPocket
    else if bytes_eq text (codes "x") then Some X
    else if bytes_eq text (codes "y") then Some Y
    else if bytes_eq text (codes "both") then Some Both
    else None

-- a text of 1 to 200 characters
abbrev pub letters_of : List ℕ → Option (List ℕ)
letters_of text = let count = length (chars text) in if nat_le 1 count && nat_le count 200 then Some text else None

-- the grid of a job
abbrev pub units_named : List ℕ → Option Units
units_named text =
    if bytes_eq text (codes "mm10") then Some Mm10
    else if bytes_eq text (codes "mm100") then Some Mm100
    else if bytes_eq text (codes "mm1000") then Some Mm1000
    else if bytes_eq text (codes "in100") then Some In100
    else if bytes_eq text (codes "in1000") then Some In1000
    else None

-- ---- each option: its value, or its default where it isn't given

-- what is read of the value, or the default where it isn't given
abbrev pub or_default : {A : Type 0} → A → (List ℕ → Option A) → Option (List ℕ) → Option A
or_default default read None = Some default
or_default default read (Some text) = read text

-- `--at`
abbrev pub at_of : Option (List ℕ) → Option GridPoint
at_of = option_and_then point_of

-- `--bit`
abbrev pub bit_of : Option (List ℕ) → Option (ℕ × ℕ)
bit_of = option_and_then slope_of

-- `--rmax`, from 1 to 8191
abbrev pub rmax_of : Option (List ℕ) → Option ℕ
rmax_of = option_and_then (number_of 1 8191)

-- `--step`, from 1 to 32,767
abbrev pub step_of : Option (List ℕ) → Option ℕ
step_of = option_and_then (number_of 1 32767)

-- `--limit`, from 1 to 32,767, and that where it isn't given
abbrev pub limit_of : Option (List ℕ) → Option ℕ
limit_of = or_default 32767 (number_of 1 32767)

-- `--safe`, from 1 to 32,767, and 200 where it isn't given
abbrev pub safe_of : Option (List ℕ) → Option ℕ
safe_of = or_default 200 (number_of 1 32767)

-- `--feed`, from 1 to 10,000, and 500 where it isn't given
abbrev pub feed_of : Option (List ℕ) → Option ℕ
feed_of = or_default 500 (number_of 1 10000)

-- `--pitch`, from 1 to 32,767, and 10 where it isn't given
abbrev pub pitch_of : Option (List ℕ) → Option ℕ
pitch_of = or_default 10 (number_of 1 32767)

-- `--pocket`, none where it isn't given
abbrev pub pocket_of : Option (List ℕ) → Option PocketWord
pocket_of = or_default NoPocket pocket_named

-- the same of `flat`: rows where it isn't given
abbrev pub lines_of : Option (List ℕ) → Option PocketWord
lines_of = or_default X pocket_named

-- `--radius`, from 1 to 8191
abbrev pub radius_of : Option (List ℕ) → Option ℕ
radius_of = option_and_then (number_of 1 8191)

-- `--over`, from 1 to 8191, and 50 where it isn't given
abbrev pub over_of : Option (List ℕ) → Option ℕ
over_of = or_default 50 (number_of 1 8191)

-- `--depth`, from 1 to 32,767
abbrev pub depth_of : Option (List ℕ) → Option ℕ
depth_of = option_and_then (number_of 1 32767)

-- `--count`, from 1 to 80
abbrev pub count_of : Option (List ℕ) → Option ℕ
count_of = option_and_then (number_of 1 80)

-- `--form`, loops where it isn't given
abbrev pub form_of : Option (List ℕ) → Option FormWord
form_of = or_default Loops form_named

-- `--units`, 100 grid units a millimetre where they aren't given
abbrev pub units_of : Option (List ℕ) → Option Units
units_of = or_default Mm100 units_named

-- `--chord`, from 1 to 90, and 10 where it isn't given
abbrev pub chord_of : Option (List ℕ) → Option ℕ
chord_of = or_default 10 (number_of 1 90)

-- `--snap`, from 0 to 16, and 1 where it isn't given
abbrev pub snap_of : Option (List ℕ) → Option ℕ
snap_of = or_default 1 (number_of 0 16)

-- `--pixel`, from 1 to 1000, and 10 where it isn't given
abbrev pub pixel_of : Option (List ℕ) → Option ℕ
pixel_of = or_default 10 (number_of 1 1000)

-- `--text`, of 1 to 200 characters; none where it isn't given
abbrev pub text_of : Option (List ℕ) → Option (Option (List ℕ))
text_of = or_default None (λ text. option_map Some (letters_of text))

-- `--height`, from 1 to 32,767, and 900 where it isn't given
abbrev pub height_of : Option (List ℕ) → Option ℕ
height_of = or_default 900 (number_of 1 32767)

-- `--width`, from 10 to 500, and 100 where it isn't given
abbrev pub width_of : Option (List ℕ) → Option ℕ
width_of = or_default 100 (number_of 10 500)

-- `--charspace`, from 0 to 500, and 25 where it isn't given
abbrev pub charspace_of : Option (List ℕ) → Option ℕ
charspace_of = or_default 25 (number_of 0 500)

-- `--wordspace`, from 0 to 500, and 100 where it isn't given
abbrev pub wordspace_of : Option (List ℕ) → Option ℕ
wordspace_of = or_default 100 (number_of 0 500)

-- `--linespace`, from 10 to 500, and 150 where it isn't given
abbrev pub linespace_of : Option (List ℕ) → Option ℕ
linespace_of = or_default 150 (number_of 10 500)

-- `--justify`, left where it isn't given
abbrev pub justify_of : Option (List ℕ) → Option JustifyWord
justify_of = or_default Left justify_named

-- `--mirror` and `--flip`, no where they aren't given
abbrev pub yes_of : Option (List ℕ) → Option YesNo
yes_of = or_default No yes_named

-- `--cross`, refuse where it isn't given
abbrev pub cross_of : Option (List ℕ) → Option CrossWord
cross_of = or_default Refuse cross_named
