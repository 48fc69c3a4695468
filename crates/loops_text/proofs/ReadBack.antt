-- A written drawing, read back: its lines, the words of a line, and the numbers of a word.
use Rattle.std.specs.Prelude.{All, decimal, filter, flat_map, int_le}
use Rattle.std.proofs.Common.{◌≡◌, ◌≢◌, ℕ, ◌+◌, ◌-◌, ◌*◌, ◌/◌, ◌^◌, ◌<◌, ◌≤◌, Bool, true, false, not, ◌||◌, cond, eqb, leb, Option, Some, List, [], ◌∷◌, ◌++◌, length, map, take, drop, sum_by, ℤ, pos, negsuc, Ok, suc, sym, ap, ap₂, ◌∙◌, refl, arith, append_assoc, length-append, lit<}
use Rattle.std.specs.List.{AllByRecursion, after_first, before_first, list_all, list_any, position_or_len, slice_get}
use Rattle.std.specs.Str.{all_ascii_digits}
use Rattle.std.specs.Str.Parse.{digits_value_after}
use Rattle.std.proofs.Math.Nat.{div-one}
use Rattle.std.proofs.lemmas.Bool.{and_from, and_parts, eqb-false, le-leb, ne_eqb, or_parts}
use Rattle.std.proofs.lemmas.Bool.Decides.{Decides-int_eq, nat_tests}
use Rattle.std.proofs.lemmas.Fmt.{decimal_nonempty, digits_decimal, digits_value-decimal, length-decimal-le}
use Rattle.std.proofs.lemmas.Grind.{flat_map-append}
use Rattle.std.proofs.lemmas.Int.{ints}
use Rattle.std.proofs.lemmas.List.{append-nil, drop_at, length_push, take_at, take_more}
use Rattle.std.proofs.lemmas.List.Elements.{recursion_from_All}
use Rattle.std.proofs.lemmas.List.Folds.{list_all-append}
use Rattle.std.proofs.lemmas.List.Sums.{sum_by-cons}
use Rattle.std.proofs.lemmas.Option.{get_or_from_slice_get, slice_get_within}
use Rattle.std.proofs.lemmas.Str.Parse.{numerals_by_value, tells_all_ascii_digits}
use Rattle.grid_num.specs.Whole.{digits_of, pair_of, whole_of}
use Rattle.grid_num.specs.Written.{decimal_text, size_text}
use Rattle.grid_num.proofs.Runs.{IsDigit-from_test}
use Rattle.text_lines.specs.Pieces.{Piece, is_blank, is_empty, pieces, with_first, without_return, words_of}
use Rattle.plane_exact.specs.Plane.{GridPoint, IsCoordinate, IsOnGrid, is_coordinate}
use Rattle.plane_exact.specs.declared.point.Seg.{Seg}
use Rattle.engrave_model.specs.Drawing.{IsDrawing, IsLoop, edges_of_loop, most_edges}
use Rattle.plane_exact.specs.Same.{same_point}
use Rattle.loops_text.specs.Grammar.{closed, is_last, is_skipped, loop_of, loops_from, loops_of, next_point, place_of_first, place_of_last, point_of, points_of}
use Rattle.loops_text.specs.Writing.{more_points, written_loop, written_loops, written_point}
use Rattle.loops_text.proofs.Judged.{edges_apart, or_false, repeats, repeats_push}

-- ---- bytes

-- no byte is below the given one
abbrev AreFrom : ℕ → List ℕ → Type 0
AreFrom least bytes = list_all (λ byte. leb least byte) bytes ≡ true

from_less : (least less : ℕ) (bytes : List ℕ) → less ≤ least → AreFrom least bytes → AreFrom less bytes
from_less least less [] below all = refl
from_less least less (byte ∷ bytes) below all =
    let parts = and_parts (leb least byte) _ all in
    let here : leb less byte ≡ true = grind (arith, nat_tests, parts.0) in
    and_from _ _ here (from_less least less bytes below parts.1)

from_both : (least : ℕ) (xs ys : List ℕ) → AreFrom least xs → AreFrom least ys → AreFrom least (xs ++ ys)
from_both least xs ys front behind = list_all-append (λ byte. leb least byte) xs ys ∙ and_from _ _ front behind

none_passes : (p : ℕ → Bool) (least : ℕ) → ((byte : ℕ) → leb least byte ≡ true → p byte ≡ false) → (bytes : List ℕ) → AreFrom least bytes → list_any p bytes ≡ false
none_passes p least fails [] all = refl
none_passes p least fails (byte ∷ bytes) all =
    let parts = and_parts (leb least byte) _ all in
    rw (fails byte parts.0) (none_passes p least fails bytes parts.1)

below_apart : (byte separator : ℕ) (least : ℕ) → separator < least → leb least byte ≡ true → eqb byte separator ≡ false
below_apart byte separator least below from = grind (arith, nat_tests)

not_blank : (byte : ℕ) → leb 44 byte ≡ true → is_blank byte ≡ false
not_blank byte from = grind (arith, nat_tests)

-- ---- texts with a separator
first_at : (p : ℕ → Bool) (xs : List ℕ) (separator : ℕ) (rest : List ℕ) → list_any p xs ≡ false → p separator ≡ true → position_or_len p (xs ++ separator ∷ rest) ≡ length xs
first_at p [] separator rest none is = ap (λ b. cond (not b) (1 + position_or_len p rest) 0) is
first_at p (x ∷ xs) separator rest none is =
    let parts = or_parts (p x) _ none in
    ap (λ b. cond (not b) (1 + position_or_len p (xs ++ separator ∷ rest)) 0) parts.0 ∙ omega (arith, first_at p xs separator rest parts.1 is)

some_passes : (p : ℕ → Bool) (xs : List ℕ) (separator : ℕ) (rest : List ℕ) → list_any p xs ≡ false → p separator ≡ true → list_any p (xs ++ separator ∷ rest) ≡ true
some_passes p [] separator rest none is = rw is refl
some_passes p (x ∷ xs) separator rest none is =
    let parts = or_parts (p x) _ none in
    rw parts.0 (some_passes p xs separator rest parts.1 is)

before_at : (p : ℕ → Bool) (xs : List ℕ) (separator : ℕ) (rest : List ℕ) → list_any p xs ≡ false → p separator ≡ true → before_first p (xs ++ separator ∷ rest) ≡ xs
before_at p xs separator rest none is = take_at xs (separator ∷ rest) _ (sym (first_at p xs separator rest none is))

after_at : (p : ℕ → Bool) (xs : List ℕ) (separator : ℕ) (rest : List ℕ) → list_any p xs ≡ false → p separator ≡ true → after_first p (xs ++ separator ∷ rest) ≡ rest
after_at p xs separator rest none is =
    let end : length (xs ++ separator ∷ []) ≡ position_or_len p (xs ++ separator ∷ rest) + 1 = omega (arith, length_push xs separator, first_at p xs separator rest none is) in
    ap (drop (position_or_len p (xs ++ separator ∷ rest) + 1)) (sym (append_assoc xs (separator ∷ []) rest)) ∙ drop_at (xs ++ separator ∷ []) rest _ end

pieces_further : (p : ℕ → Bool) (at x : ℕ) (xs : List ℕ) → p x ≡ false → pieces p at (x ∷ xs) ≡ with_first at x (pieces p (at + 1) xs)
pieces_further p at x xs fails = rw fails refl

-- the first piece of a text, and the pieces behind it
pieces_at : (p : ℕ → Bool) (at : ℕ) (xs : List ℕ) (separator : ℕ) (rest : List ℕ) → list_any p xs ≡ false → p separator ≡ true → (later : ℕ) × (pieces p at (xs ++ separator ∷ rest) ≡ record { at = at; bytes = xs } ∷ pieces p later rest)
pieces_at p at [] separator rest none is = (at + 1, rw is refl)
pieces_at p at (x ∷ xs) separator rest none is =
    let parts = or_parts (p x) _ none in
    let others = pieces_at p (at + 1) xs separator rest parts.1 is in
    (others.0, pieces_further p at x (xs ++ separator ∷ rest) parts.0 ∙ ap (with_first at x) others.1)

pieces_alone : (p : ℕ → Bool) (at : ℕ) (xs : List ℕ) → list_any p xs ≡ false → pieces p at xs ≡ record { at = at; bytes = xs } ∷ []
pieces_alone p at [] none = refl
pieces_alone p at (x ∷ xs) none =
    let parts = or_parts (p x) _ none in
    rw (parts.0, pieces_alone p (at + 1) xs parts.1) refl

-- ---- numbers
record IsNumeral (n : ℕ) (digits : List ℕ) : Type 0 where
  all : all_ascii_digits digits ≡ true
  value : digits_value_after 10 0 digits ≡ n
  some : 0 < length digits
  short : length digits ≤ 5

numeral : (n : ℕ) → n < 10 ^ 5 → IsNumeral n (size_text 0 n)
numeral n small =
    let fits : n < 2 ^ 64 = omega arith in
    let is : size_text 0 n ≡ decimal n = append-nil (decimal (n / 10 ^ 0)) ∙ ap decimal (div-one n) in
    let model = numerals_by_value (λ digits. all_ascii_digits digits ≡ true) tells_all_ascii_digits in
    rw is (record { all = digits_decimal model n fits; value = digits_value-decimal model n fits; some = decimal_nonempty n fits; short = length-decimal-le 5 n (lit< tt) small fits })

digits_back : (n : ℕ) (digits : List ℕ) → IsNumeral n digits → digits_of digits ≡ Some n
digits_back n digits is =
    let some = is.some in
    let short = is.short in
    rw (le-leb 1 (length digits) (omega arith), le-leb (length digits) 9 (omega arith), is.all, is.value) refl

from_digits : (digits : List ℕ) → all_ascii_digits digits ≡ true → AreFrom 45 digits
from_digits [] all = refl
from_digits (digit ∷ digits) all =
    let parts = and_parts _ _ all in
    let low = (IsDigit-from_test digit parts.0).low in
    and_from _ _ (le-leb 45 digit (omega arith)) (from_digits digits parts.1)

unsigned_back : (n : ℕ) (digits : List ℕ) → IsNumeral n digits → whole_of digits ≡ Some (pos n)
unsigned_back n [] is = let some = is.some in absurd (omega arith)
unsigned_back n (digit ∷ digits) is =
    let low = (IsDigit-from_test digit (and_parts _ _ is.all).0).low in
    rw (ne_eqb digit 45 (λ e. omega arith), digits_back n (digit ∷ digits) is) refl

record IsNumber (v : ℤ) (text : List ℕ) : Type 0 where
  read : whole_of text ≡ Some v
  from : AreFrom 45 text
  short : length text ≤ 6

number : (v : ℤ) → IsCoordinate v → IsNumber v (decimal_text 0 v)
number (pos n) on =
    let high = on.high in
    let is = numeral n (omega (arith, ints)) in
    let short = is.short in
    record { read = unsigned_back n (size_text 0 n) is; from = from_digits (size_text 0 n) is.all; short = omega arith }
number (negsuc n) on =
    let low = on.low in
    let is = numeral (suc n) (omega (arith, ints)) in
    let short = is.short in
    record { read = rw (digits_back (suc n) (size_text 0 (suc n)) is) refl; from = from_digits (size_text 0 (suc n)) is.all; short = omega arith }

-- ---- points
record IsPointText (p : GridPoint) (text : List ℕ) : Type 0 where
  read : (at : ℕ) → point_of (record { at = at; bytes = text }) ≡ Ok p
  from : AreFrom 44 text
  some : is_empty text ≡ false
  short : length text ≤ 13

coordinate : (z : ℤ) → IsCoordinate z → is_coordinate z ≡ true
coordinate z on =
    let low = on.low in
    let high = on.high in
    let over : int_le (negsuc 32767) z ≡ true = grind (arith, ints) in
    let under : int_le z (pos 32767) ≡ true = grind (arith, ints) in
    and_from _ _ over under

not_empty : (xs : List ℕ) (y : ℕ) (ys : List ℕ) → is_empty (xs ++ y ∷ ys) ≡ false
not_empty [] y ys = refl
not_empty (x ∷ xs) y ys = refl

point_text : (p : GridPoint) → IsOnGrid p.x p.y → IsPointText p (written_point p)
point_text p on =
    let x = number p.x on.across in
    let y = number p.y on.up in
    let xs = decimal_text 0 p.x in
    let ys = decimal_text 0 p.y in
    let comma = λ (byte : ℕ). eqb byte 44 in
    let none : list_any comma xs ≡ false = none_passes comma 45 (λ byte. below_apart byte 44 45 (omega arith)) xs x.from in
    let before = before_at comma xs 44 ys none refl in
    let after = after_at comma xs 44 ys none refl in
    let short_x = x.short in
    let short_y = y.short in
    record {
      read = λ at. rw (some_passes comma xs 44 ys none refl, before, after, x.read, y.read, coordinate p.x on.across, coordinate p.y on.up) refl;
      from = from_both 44 xs (44 ∷ ys) (from_less 45 44 xs (omega arith) x.from) (from_less 45 44 ys (omega arith) y.from);
      some = not_empty xs 44 ys;
      short = omega (arith, length-append xs (44 ∷ ys));
    }

-- ---- the words of a line
abbrev texts : List Piece → List (List ℕ)
texts words = map (λ word. word.bytes) words

abbrev point_texts : List GridPoint → List (List ℕ)
point_texts points = map written_point points

abbrev AreOn : List GridPoint → Type 0
AreOn points = AllByRecursion (λ p. IsOnGrid p.x p.y) points

words_back : (at : ℕ) (p : GridPoint) (points : List GridPoint) → AreOn (p ∷ points) → texts (words_of (record { at = at; bytes = written_point p ++ more_points points })) ≡ point_texts (p ∷ points)
words_back at p [] on =
    let is = point_text p on.0 in
    let alone = pieces_alone is_blank at (written_point p) (none_passes is_blank 44 not_blank (written_point p) is.from) in
    rw (append-nil (written_point p), alone, is.some) refl
words_back at p (q ∷ points) on =
    let is = point_text p on.0 in
    let first = pieces_at is_blank at (written_point p) 32 (written_point q ++ more_points points) (none_passes is_blank 44 not_blank (written_point p) is.from) refl in
    rw (first.1, is.some) (ap (λ others. written_point p ∷ others) (words_back first.0 q points on.1))

-- ---- lines
record IsLoopText (points : List GridPoint) : Type 0 where
  line : List ℕ
  text : written_loop points ≡ line ++ 10 ∷ []
  from : AreFrom 32 line
  words : (at : ℕ) → texts (words_of (record { at = at; bytes = line })) ≡ point_texts points
  taken : (at : ℕ) → is_skipped (words_of (record { at = at; bytes = line })) ≡ false
  short : length (written_loop points) ≤ 14 * length points

record IsMoreText (points : List GridPoint) : Type 0 where
  from : AreFrom 32 (more_points points)
  short : length (more_points points) ≤ 14 * length points

more_text : (points : List GridPoint) → AreOn points → IsMoreText points
more_text [] on = record { from = refl; short = omega arith }
more_text (p ∷ points) on =
    let is = point_text p on.0 in
    let others = more_text points on.1 in
    let short = is.short in
    let few = others.short in
    record {
      from = from_both 32 (written_point p) (more_points points) (from_less 44 32 (written_point p) (omega arith) is.from) others.from;
      short = omega (arith, length-append (written_point p) (more_points points));
    }

taken_first : (at : ℕ) (bytes : List ℕ) (words : List Piece) → AreFrom 44 bytes → is_skipped (record { at = at; bytes = bytes } ∷ words) ≡ false
taken_first at [] words from = refl
taken_first at (byte ∷ bytes) words from = below_apart byte 35 44 (omega arith) (and_parts _ _ from).0

taken_words : (words : List Piece) (first : List ℕ) (others : List (List ℕ)) → texts words ≡ first ∷ others → AreFrom 44 first → is_skipped words ≡ false
taken_words [] first others is from = absurd (cc)
taken_words (word ∷ words) first others is from =
    let same : first ≡ word.bytes = cc in
    taken_first word.at word.bytes words (rw same at from)

loop_text : (points : List GridPoint) → IsLoop points → AreOn points → IsLoopText points
loop_text [] is on = let some = is.some in absurd (omega arith)
loop_text (p ∷ points) is on =
    let first = point_text p on.0 in
    let others = more_text points on.1 in
    let line = written_point p ++ more_points points in
    let short = first.short in
    let few = others.short in
    record {
      line = line;
      text = refl;
      from = from_both 32 (written_point p) (more_points points) (from_less 44 32 (written_point p) (omega arith) first.from) others.from;
      words = λ at. words_back at p points on;
      taken = λ at. taken_words (words_of (record { at = at; bytes = line })) (written_point p) (point_texts points) (words_back at p points on) first.from;
      short = omega (arith, length-append (written_point p) (more_points points), length_push line 10);
    }

no_return : (line : List ℕ) → AreFrom 32 line → without_return line ≡ line
no_return [] from = refl
no_return (byte ∷ []) from = rw (below_apart byte 13 32 (omega arith) (and_parts _ _ from).0) refl
no_return (byte ∷ next ∷ rest) from = ap (λ bytes. byte ∷ bytes) (no_return (next ∷ rest) (and_parts (leb 32 byte) _ from).1)

-- the lines that are loops, of a text that begins at a place
abbrev loop_lines_at : ℕ → List ℕ → List (List Piece)
loop_lines_at at text =
    filter (λ words. not (is_skipped words)) (map words_of (map (λ line. record { at = line.at; bytes = without_return line.bytes }) (pieces (λ byte. eqb byte 10) at text)))

lines_back : (at : ℕ) (loops : List (List GridPoint)) → AllByRecursion IsLoopText loops → map texts (loop_lines_at at (written_loops loops)) ≡ map point_texts loops
unfolding written_loops
lines_back at [] all = refl
lines_back at (points ∷ loops) all =
    let is = all.0 in
    let feed = λ (byte : ℕ). eqb byte 10 in
    let none = none_passes feed 32 (λ byte. below_apart byte 10 32 (omega arith)) is.line is.from in
    let cut = pieces_at feed at is.line 10 (written_loops loops) none refl in
    let whole : written_loops (points ∷ loops) ≡ is.line ++ 10 ∷ written_loops loops = ap (λ line. line ++ written_loops loops) is.text ∙ append_assoc is.line (10 ∷ []) (written_loops loops) in
    ap (λ text. map texts (loop_lines_at at text)) whole ∙ rw (cut.1, no_return is.line is.from, is.taken at) (ap₂ (λ first others. first ∷ others) (is.words at) (lines_back cut.0 loops all.1))

-- ---- points in order
same_point-true : (p q : GridPoint) → same_point p q ≡ true → p ≡ q
same_point-true p q same =
    let parts = and_parts _ _ same in
    ap₂ (λ x y. let r : GridPoint = record { x = x; y = y } in r) ((Decides-int_eq p.x q.x).0 parts.0) ((Decides-int_eq p.y q.y).0 parts.1)

points_apart : (p q : GridPoint) → p ≢ q → same_point p q ≡ false
points_apart p q apart = by (same_point p q) (same_point-true p q)
  where
    by : (same : Bool) → (same ≡ true → p ≡ q) → same ≡ false
    by true same = absurd (apart (same refl))
    by false same = refl

none_repeated : (edges : List Seg) → AllByRecursion (λ e. e.a ≢ e.b) edges → list_any (λ e. same_point e.a e.b) edges ≡ false
none_repeated [] all = refl
none_repeated (e ∷ edges) all = rw (points_apart e.a e.b all.0) (none_repeated edges all.1)

repeats_front : (xs ys : List GridPoint) → repeats (xs ++ ys) ≡ false → repeats xs ≡ false
repeats_front [] ys none = refl
repeats_front (x ∷ []) ys none = refl
repeats_front (x ∷ y ∷ xs) ys none =
    let parts = or_parts (same_point x y) _ none in
    rw parts.0 (repeats_front (y ∷ xs) ys parts.1)

not_last : (earlier : List GridPoint) (p : GridPoint) (points : List GridPoint) → repeats (earlier ++ p ∷ points) ≡ false → is_last earlier p ≡ false
not_last earlier p points none =
    let front = repeats_front (earlier ++ p ∷ []) points (ap repeats (append_assoc earlier (p ∷ []) points) ∙ none) in
    (or_parts (repeats earlier) (is_last earlier p) (sym (repeats_push earlier p) ∙ front)).1

points_back : (earlier : List GridPoint) (room : ℕ) (words : List Piece) (points : List GridPoint) → texts words ≡ point_texts points → AreOn points → repeats (earlier ++ points) ≡ false → length points ≤ room → points_of earlier room words ≡ Ok (earlier ++ points)
points_back earlier room [] [] is on none few = ap Ok (sym (append-nil earlier))
points_back earlier room [] (p ∷ points) is on none few = absurd (cc)
points_back earlier room (word ∷ words) [] is on none few = absurd (cc)
points_back earlier room (word ∷ words) (p ∷ points) is on none few =
    let same : written_point p ≡ word.bytes = cc in
    let others : texts words ≡ point_texts points = cc in
    let read = (rw same at (point_text p on.0)).read word.at in
    let free = ne_eqb room 0 (λ e. omega arith) in
    rw (read, not_last earlier p points none, free)
    (points_back (earlier ++ p ∷ []) (room - 1) words points others on.1 (ap repeats (append_assoc earlier (p ∷ []) points) ∙ none) (omega arith) ∙ ap Ok (append_assoc earlier (p ∷ []) points))

closed_back : (first last : ℕ) (p : GridPoint) (points : List GridPoint) → 1 ≤ length points → is_last (p ∷ points) p ≡ false → closed first last (p ∷ points) ≡ Ok (p ∷ points)
closed_back first last p [] some open_end = absurd (omega arith)
closed_back first last p (q ∷ points) some open_end = rw open_end refl

loop_back : (room : ℕ) (words : List Piece) (points : List GridPoint) → texts words ≡ point_texts points → IsLoop points → AreOn points → length points ≤ room → loop_of room words ≡ Ok points
loop_back room words [] is loop on few = let some = loop.some in absurd (omega arith)
loop_back room words (p ∷ points) is loop on few =
    let some = loop.some in
    let none = none_repeated (edges_of_loop (p ∷ points)) (recursion_from_All (λ e. e.a ≢ e.b) (edges_of_loop (p ∷ points)) loop.distinct) in
    let parts = or_parts (repeats (p ∷ points)) (is_last (p ∷ points) p) (sym (edges_apart p p points) ∙ none) in
    rw (points_back [] room words (p ∷ points) is on parts.0 few) (closed_back (place_of_first words) (place_of_last words) p points (omega arith) parts.1)

-- ---- the drawing
loops_back : (room : ℕ) (lines : List (List Piece)) (loops : List (List GridPoint)) → map texts lines ≡ map point_texts loops → AllByRecursion IsLoop loops → AllByRecursion AreOn loops → sum_by length loops ≤ room → loops_from room lines ≡ Ok loops
loops_back room [] [] is each on few = refl
loops_back room [] (points ∷ loops) is each on few = absurd (cc)
loops_back room (words ∷ lines) [] is each on few = absurd (cc)
loops_back room (words ∷ lines) (points ∷ loops) is each on few =
    let here : texts words ≡ point_texts points = cc in
    let others : map texts lines ≡ map point_texts loops = cc in
    let counted = sum_by-cons length points loops in
    rw (loop_back room words points here each.0 on.0 (omega arith), loops_back (room - length points) lines loops others each.1 on.1 (omega arith)) refl

on_by_recursion : (loops : List (List GridPoint)) → AllByRecursion (λ points. All (λ p. IsOnGrid p.x p.y) points) loops → AllByRecursion AreOn loops
on_by_recursion [] all = tt
on_by_recursion (points ∷ loops) all = (recursion_from_All (λ p. IsOnGrid p.x p.y) points all.0, on_by_recursion loops all.1)

loop_texts : (loops : List (List GridPoint)) → AllByRecursion IsLoop loops → AllByRecursion AreOn loops → AllByRecursion IsLoopText loops
loop_texts [] each on = tt
loop_texts (points ∷ loops) each on = (loop_text points each.0 on.0, loop_texts loops each.1 on.1)

texts_short : (loops : List (List GridPoint)) → AllByRecursion IsLoopText loops → length (written_loops loops) ≤ 14 * sum_by length loops
unfolding written_loops
texts_short [] all = omega arith
texts_short (points ∷ loops) all =
    let short = all.0.short in
    omega (arith, length-append (written_loop points) (written_loops loops), texts_short loops all.1, sum_by-cons length points loops)

pub record IsReadBack (loops : List (List GridPoint)) : Type 0 where
  pub read : loops_of (written_loops loops) ≡ Ok loops
  pub short : length (written_loops loops) ≤ 14 * most_edges

pub read_back : (loops : List (List GridPoint)) → IsDrawing loops → IsReadBack loops
read_back loops is =
    let each = recursion_from_All IsLoop loops is.each in
    let on = on_by_recursion loops (recursion_from_All (λ points. All (λ p. IsOnGrid p.x p.y) points) loops is.on_grid) in
    let written = loop_texts loops each on in
    let few = is.few in
    let short = texts_short loops written in
    record { read = loops_back most_edges (loop_lines_at 0 (written_loops loops)) loops (lines_back 0 loops written) each on few; short = omega arith }

-- ---- as it is written
pub written_loops_more : (loops : List (List GridPoint)) (i : ℕ) (points : List GridPoint) → slice_get loops i ≡ Some points → written_loops (take i loops) ++ written_loop points ≡ written_loops (take (i + 1) loops)
unfolding written_loops
written_loops_more loops i points is =
    let more : take (i + 1) loops ≡ take i loops ++ points ∷ [] = take_more loops i points (slice_get_within loops i points is) ∙ ap (λ last. take i loops ++ last ∷ []) (get_or_from_slice_get loops i points points is) in
    sym (ap (flat_map written_loop) more ∙ flat_map-append written_loop (take i loops) (points ∷ []) ∙ ap (λ last. flat_map written_loop (take i loops) ++ last) (append-nil (written_loop points)))
