-- Written lines are read as they were meant: their bytes are those of numbers and notes, and they aren't too long.
use Rattle.std.specs.Prelude.{neg_ℤ, codes, decimal, if◌then◌else◌, unsigned_abs}
use Rattle.std.proofs.Common.{◌≡◌, ℕ, zero, suc, ◌+◌, ◌/◌, ◌%◌, ◌^◌, ◌<◌, ◌≤◌, Bool, true, false, cond, eqb, List, [], ◌∷◌, ◌++◌, length, ℤ, pos, negsuc, ap, ◌∙◌, refl, arith, length-append}
use Rattle.std.specs.Fmt.{digit_glyph, digits, digits_onto}
use Rattle.std.specs.List.{All, AllByRecursion, list_all}
use Rattle.std.proofs.Math.Nat.{div-le_self}
use Rattle.std.proofs.lemmas.Bool.{and_from, lt-ltb}
use Rattle.std.proofs.lemmas.Bool.Decides.{nat_tests}
use Rattle.std.proofs.lemmas.Fmt.{length-decimal-le}
use Rattle.std.proofs.lemmas.Int.{ints}
use Rattle.std.proofs.lemmas.List.Elements.{All-from_recursion}
use Rattle.std.proofs.lemmas.List.Folds.{list_all-append}
use Rattle.integer_algebra.specs.Ranges.{IsUpTo}
use Rattle.grid_num.specs.Units.{is_inch_of, per_unit_of}
use Rattle.grid_num.specs.Written.{decimal_text, fraction_text, last_digits, size_text, zeros_of}
use Rattle.grid_num.specs.declared.units.Units.{Units}
use Rattle.grid_num.proofs.Texts.{length-last_digits, zeros_of-le}
use Rattle.plane_exact.specs.Nodes.{GridNode, IsNode}
use Rattle.plane_exact.specs.Plane.{GridPoint, IsCoordinate, IsOnGrid}
use Rattle.gcode_text.specs.Grammar.{Word, is_number_byte}
use Rattle.gcode_text.specs.Path.{IsJob, end_line, height_line, job_note, length_word, motion_word, node_line, setup_lines, travel_line}
use Rattle.gcode_text.specs.Written.{Words, IsNote, IsWord, IsWritten, is_note_byte}
use Rattle.gcode_text.specs.declared.job.Job.{Job}
use Rattle.gcode_text.specs.declared.written.Motion.{Motion}
use Rattle.gcode_text.specs.declared.written.Motion.TheVariants.{Rapid, Straight}
use Rattle.gcode_text.proofs.Placing.{depth_on, height_is_coordinate, height_on}

-- ---- bytes

-- so many bytes at most, which all pass
pub record AreBytes (passes : ℕ → Bool) (most : ℕ) (bytes : List ℕ) : Type 0 where
  pub each : list_all passes bytes ≡ true
  pub short : length bytes ≤ most

pub joined : {passes : ℕ → Bool} {m n : ℕ} {xs ys : List ℕ} → AreBytes passes m xs → AreBytes passes n ys → AreBytes passes (m + n) (xs ++ ys)
joined {passes} {m} {n} {xs} {ys} front behind =
    let first = front.short in
    let second = behind.short in
    record { each = list_all-append passes xs ys ∙ and_from _ _ front.each behind.each; short = omega (arith, length-append xs ys) }

abbrev PassesDigits : (ℕ → Bool) → Type 0
PassesDigits passes = (d : ℕ) → d < 10 → passes (48 + d) ≡ true

either : (P : List ℕ → Type 0) (test : Bool) (xs ys : List ℕ) → P xs → P ys → P (cond test xs ys)
either P true xs ys one other = one
either P false xs ys one other = other

digits_bytes : (passes : ℕ → Bool) → PassesDigits passes → (k n most total : ℕ) (bytes : List ℕ) → k + most ≤ total → AreBytes passes most bytes → AreBytes passes total (digits_onto k 10 false n bytes)
digits_bytes passes digit zero n most total bytes room are = let short = are.short in record { each = are.each; short = omega arith }
digits_bytes passes digit (suc k) n most total bytes room are =
    let short = are.short in
    let last = n % 10 in
    let small : last < 10 = omega arith in
    let glyph : passes (digit_glyph false last) ≡ true = ap (λ below. passes (cond below (48 + last) (87 + last))) (lt-ltb last 10 small) ∙ digit last small in
    let each = and_from _ _ glyph are.each in
    either (AreBytes passes total) (eqb (n / 10) 0) _ _ (record { each = each; short = omega arith }) (digits_bytes passes digit k (n / 10) (most + 1) total _ (omega arith) (record { each = each; short = omega arith }))

-- the digits of any number: at most 64 are written
pub decimal_bytes : {passes : ℕ → Bool} → PassesDigits passes → (n : ℕ) → AreBytes passes 64 (decimal n)
unfolding digits
decimal_bytes {passes} digit n = digits_bytes passes digit 64 n 0 64 [] (omega arith) (record { each = refl; short = omega arith })

last_digits_bytes : (passes : ℕ → Bool) → PassesDigits passes → (places n : ℕ) → list_all passes (last_digits places n) ≡ true
last_digits_bytes passes digit zero n = refl
last_digits_bytes passes digit (suc places) n =
    list_all-append passes (last_digits places (n / 10)) ((48 + n % 10) ∷ []) ∙ and_from _ _ (last_digits_bytes passes digit places (n / 10)) (and_from _ _ (digit (n % 10) (omega arith)) refl)

-- ---- words

number_digit : PassesDigits is_number_byte
number_digit d small = grind (arith, nat_tests)

-- a number that is stored
pub whole_bytes : (n : ℕ) → n < 2 ^ 64 → AreBytes is_number_byte 20 (decimal n)
whole_bytes n fits = record { each = (decimal_bytes number_digit n).each; short = length-decimal-le 20 n (omega arith) (omega arith) fits }

fraction_bytes : (places n : ℕ) → places ≤ 6 → AreBytes is_number_byte 7 (fraction_text places n)
fraction_bytes zero n few = record { each = refl; short = omega arith }
fraction_bytes (suc places) n few =
    record { each = last_digits_bytes is_number_byte number_digit (suc places) n; short = omega (arith, length-last_digits (suc places) n) }

size_bytes : (places n : ℕ) → places ≤ 6 → n < 2 ^ 64 → AreBytes is_number_byte 27 (size_text places n)
size_bytes places n few fits =
    joined (whole_bytes (n / 10 ^ places) (omega (arith, div-le_self n (10 ^ places)))) (fraction_bytes places n few)

pub text_bytes : (places : ℕ) (v : ℤ) → places ≤ 6 → unsigned_abs v ≤ 2 ^ 63 → AreBytes is_number_byte 28 (decimal_text places v)
text_bytes places (pos n) few fits =
    let size = size_bytes places n few (omega arith) in
    let short = size.short in
    record { each = size.each; short = omega arith }
text_bytes places (negsuc n) few fits =
    let size = size_bytes places (suc n) few (omega arith) in
    let short = size.short in
    record { each = size.each; short = omega arith }

pub word_with : (letter : ℕ) (number : List ℕ) → 65 ≤ letter → letter ≤ 90 → AreBytes is_number_byte 28 number → IsWord (record { letter = letter; number = number })
word_with letter number low high bytes =
    let short = bytes.short in
    record { low = low; high = high; number = bytes.each; short = omega arith }

-- a length in grid units
length_written : (units : Units) (letter : ℕ) (v : ℤ) → 65 ≤ letter → letter ≤ 90 → IsCoordinate v → IsWord (length_word units letter v)
length_written units letter v low high on =
    let from = on.low in
    let to = on.high in
    let places = zeros_of (per_unit_of units) in
    word_with letter (decimal_text places v) low high (text_bytes places v (omega (arith, zeros_of-le (per_unit_of units))) (omega (arith, ints)))

z_written : (units : Units) (h : ℤ) → IsUpTo (pos 32767) h → IsWord (length_word units 90 h)
z_written units h on = length_written units 90 h (omega arith) (omega arith) (height_is_coordinate h on)

pub motion_written : (motion : Motion) → IsWord (motion_word motion)
motion_written Rapid = word_with 71 (codes "0") (omega arith) (omega arith) (record { each = refl; short = omega arith })
motion_written Straight = word_with 71 (codes "1") (omega arith) (omega arith) (record { each = refl; short = omega arith })

-- ---- lines

pub words_written : (words : List Word) → AllByRecursion IsWord words → length words ≤ 20 → IsWritten (Words words)
words_written words each few = (All-from_recursion IsWord words each, few)

pub height_written : (units : Units) (motion : Motion) (h : ℤ) → IsUpTo (pos 32767) h → IsWritten (height_line units (motion_word motion) h)
height_written units motion h on =
    words_written (motion_word motion ∷ length_word units 90 h ∷ []) (motion_written motion, (z_written units h on, tt)) (omega arith)

pub travel_written : (units : Units) (p : GridPoint) → IsOnGrid p.x p.y → IsWritten (travel_line units p)
travel_written units p on =
    words_written (motion_word Rapid ∷ length_word units 88 p.x ∷ length_word units 89 p.y ∷ [])
    (motion_written Rapid, (length_written units 88 p.x (omega arith) (omega arith) on.across, (length_written units 89 p.y (omega arith) (omega arith) on.up, tt))) (omega arith)

pub node_written : (units : Units) (node : GridNode) → IsNode node → IsWritten (node_line units node)
node_written units node on =
    let h = neg_ℤ (pos node.depth) in
    words_written (motion_word Straight ∷ length_word units 88 node.at.x ∷ length_word units 89 node.at.y ∷ length_word units 90 h ∷ [])
    (motion_written Straight, (length_written units 88 node.at.x (omega arith) (omega arith) on.at.across, (length_written units 89 node.at.y (omega arith) (omega arith) on.at.up, (z_written units h (depth_on node.depth on.depth), tt)))) (omega arith)

pub word_line : (letter : ℕ) (number : List ℕ) → 65 ≤ letter → letter ≤ 90 → AreBytes is_number_byte 28 number → IsWritten (Words (record { letter = letter; number = number } ∷ []))
word_line letter number low high bytes = words_written (record { letter = letter; number = number } ∷ []) (word_with letter number low high bytes, tt) (omega arith)

pub units_bytes : (is_inch : Bool) → AreBytes is_number_byte 28 (if is_inch then codes "20" else codes "21")
units_bytes true = record { each = refl; short = omega arith }
units_bytes false = record { each = refl; short = omega arith }

pub setup_written : (job : Job) → IsJob job → All IsWritten (setup_lines job)
unfolding setup_lines
setup_written job is_job =
    let slow = is_job.feed.high in
    let feed = whole_bytes job.feed (omega arith) in
    let short = feed.short in
    All-from_recursion IsWritten (setup_lines job) (
      word_line 71 (if is_inch_of job.units then codes "20" else codes "21") (omega arith) (omega arith) (units_bytes (is_inch_of job.units)),
      (
        word_line 71 (codes "90") (omega arith) (omega arith) (record { each = refl; short = omega arith }),
        (
          word_line 70 (decimal job.feed) (omega arith) (omega arith) (record { each = feed.each; short = omega arith }),
          (height_written job.units Rapid (pos job.safe) (height_on job.safe is_job.safe.high), tt),
        ),
      ),
    )

pub end_written : IsWritten end_line
end_written = word_line 77 (codes "2") (omega arith) (omega arith) (record { each = refl; short = omega arith })

-- ---- notes

note_digit : PassesDigits is_note_byte
note_digit d small = grind (arith, nat_tests)

-- a number in a note: it has at most 64 digits, of whatever size
pub noted : (n : ℕ) → AreBytes is_note_byte 64 (decimal n)
noted n = decimal_bytes note_digit n

-- a note of so many bytes
pub is_note : {most : ℕ} {note : List ℕ} → AreBytes is_note_byte most note → most ≤ 1000 → IsNote note
is_note bytes few =
    let short = bytes.short in
    record { bytes = bytes.each; short = omega arith }

-- the title of a job
pub job_note_is : (job : Job) → IsNote (job_note job)
unfolding job_note
job_note_is job =
    let bit : AreBytes is_note_byte 4 (codes "bit ") = record { each = refl; short = omega arith } in
    let over : AreBytes is_note_byte 1 (codes "/") = record { each = refl; short = omega arith } in
    let widest : AreBytes is_note_byte 6 (codes " rmax ") = record { each = refl; short = omega arith } in
    let limit : AreBytes is_note_byte 7 (codes " limit ") = record { each = refl; short = omega arith } in
    let step : AreBytes is_note_byte 6 (codes " step ") = record { each = refl; short = omega arith } in
    let bytes = joined bit (joined (noted job.bit.sn) (joined over (joined (noted job.bit.sd) (joined widest (joined (noted job.bit.rmax) (joined limit (joined (noted job.limit) (joined step (noted job.step))))))))) in
    let short = bytes.short in
    record { bytes = bytes.each; short = omega arith }
