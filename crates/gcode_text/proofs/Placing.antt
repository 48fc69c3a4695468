-- How written lengths are read, and the places to which lines of them lead the bit.
use Rattle.std.specs.Prelude.{int_le, neg_ℤ, unsigned_abs}
use Rattle.std.proofs.Common.{◌≡◌, ℕ, ◌*◌, ◌≤◌, ◌^◌, Bool, true, false, Some, List, [], ◌∷◌, is_some, ℤ, pos, negsuc, ◌*ℤ◌, Result, Ok, sym, ap, ◌∙◌, refl, arith}
use Rattle.std.proofs.lemmas.Int.{ints}
use Rattle.grid_num.specs.Decimal.{PlainNumber, decimal_number, times_scale}
use Rattle.grid_num.specs.Judging.{and_then}
use Rattle.grid_num.specs.Units.{per_unit_of}
use Rattle.grid_num.specs.Written.{decimal_text, zeros_of}
use Rattle.grid_num.specs.declared.units.Units.{Units}
use Rattle.grid_num.specs.declared.units.Units.TheVariants.{Mm10, Mm100, Mm1000, In100, In1000}
use Rattle.grid_num.proofs.Texts.{decimal_number-decimal_text, number_of, times_scale-number_of, zeros_of-le}
use Rattle.integer_algebra.specs.Ranges.{IsUpTo, IsWithin}
use Rattle.plane_exact.specs.Heights.{GridPlace}
use Rattle.plane_exact.specs.Nodes.{GridNode, IsNode, node_place, place_over}
use Rattle.plane_exact.specs.Plane.{GridPoint, IsCoordinate, IsOnGrid}
use Rattle.gcode_text.specs.Grammar.{Word, empty_block, in_range, judge_word, judge_words, once, or_kind, tenths_of}
use Rattle.gcode_text.specs.Path.{height_line, length_word, motion_word, node_line, travel_line}
use Rattle.gcode_text.specs.Written.{block_of_line}
use Rattle.gcode_text.specs.declared.block.Block.{Block}
use Rattle.gcode_text.specs.declared.fault.CodeKind.{CodeKind}
use Rattle.gcode_text.specs.declared.written.Motion.{Motion}
use Rattle.gcode_text.specs.declared.written.Motion.TheVariants.{Rapid, Straight}
use Rattle.gcode_text.specs.declared.fault.CodeKind.TheVariants as kind
use Rattle.gcode_text.proofs.Leading.{Leads}

-- ---- a length

-- the units' scale is the power of ten that has as many zeros as there are digits behind the point
scale_is : (units : Units) → 10 * 10 ^ zeros_of (per_unit_of units) ≡ 10 * per_unit_of units
scale_is Mm10 = refl
scale_is Mm100 = refl
scale_is Mm1000 = refl
scale_is In100 = refl
scale_is In1000 = refl

abbrev number_in : Units → ℤ → PlainNumber
number_in units v = number_of (zeros_of (per_unit_of units)) v

tenths_read : (units : Units) (v : ℤ) → tenths_of units (number_in units v) ≡ Ok (pos 10 *ℤ v)
tenths_read units v =
    ap (λ scale. or_kind kind.OffGrid (times_scale scale (number_in units v))) (sym (scale_is units))
    ∙ ap (or_kind kind.OffGrid) (times_scale-number_of 10 (zeros_of (per_unit_of units)) v)

in_range-of : (low high z : ℤ) → IsWithin low high z → in_range low high z ≡ Ok z
in_range-of low high z within =
    let above = within.low in
    let below = within.high in
    let over : int_le low z ≡ true = grind (arith, ints) in
    let under : int_le z high ≡ true = grind (arith, ints) in
    rw (over, under) refl

-- the word of a letter and a number is read as its tenths, where the letter's range allows them
pub number_read : (units : Units) (places : ℕ) (v tenths low high : ℤ) (stood : Bool) (with_length : ℤ → Block) → places ≤ 6 → unsigned_abs v ≤ 2 ^ 63 → tenths_of units (number_of places v) ≡ Ok tenths → IsWithin low high tenths → stood ≡ false → and_then (or_kind kind.Number (decimal_number (decimal_text places v))) (λ number. once stood (and_then (and_then (tenths_of units number) (in_range low high)) (λ z. Ok (with_length z)))) ≡ Ok (with_length tenths)
number_read units places v tenths low high stood with_length few small reads within first =
    let rest : PlainNumber → Result Block CodeKind = λ number. once stood (and_then (and_then (tenths_of units number) (in_range low high)) (λ z. Ok (with_length z))) in
    ap (λ found. and_then (or_kind kind.Number found) rest) (decimal_number-decimal_text places v few small)
    ∙ ap (λ stands. once stands (and_then (and_then (tenths_of units (number_of places v)) (in_range low high)) (λ z. Ok (with_length z)))) first
    ∙ ap (λ tenths. and_then (and_then tenths (in_range low high)) (λ z. Ok (with_length z))) reads
    ∙ ap (λ z. and_then z (λ z. Ok (with_length z))) (in_range-of low high tenths within)

-- so is that of a length in grid units
length_read : (units : Units) (v low high : ℤ) (stood : Bool) (with_length : ℤ → Block) → IsCoordinate v → IsWithin low high (pos 10 *ℤ v) → stood ≡ false → and_then (or_kind kind.Number (decimal_number (decimal_text (zeros_of (per_unit_of units)) v))) (λ number. once stood (and_then (and_then (tenths_of units number) (in_range low high)) (λ z. Ok (with_length z)))) ≡ Ok (with_length (pos 10 *ℤ v))
length_read units v low high stood with_length on within first =
    let from = on.low in
    let to = on.high in
    number_read units (zeros_of (per_unit_of units)) v (pos 10 *ℤ v) low high stood with_length (omega (arith, zeros_of-le (per_unit_of units))) (omega (arith, ints)) (tenths_read units v) within first

-- a coordinate in tenths
fine : (v : ℤ) → IsCoordinate v → IsWithin (negsuc 327679) (pos 327670) (pos 10 *ℤ v)
fine v on =
    let from = on.low in
    let to = on.high in
    record { low = omega (arith, ints); high = omega (arith, ints) }

x_read : (units : Units) (block : Block) (v : ℤ) → IsCoordinate v → is_some block.x ≡ false → judge_word units block (length_word units 88 v) ≡ Ok (record block { x = Some (pos 10 *ℤ v) })
x_read units block v on first =
    length_read units v (negsuc 327679) (pos 327670) (is_some block.x) (λ x. record block { x = Some x }) on (fine v on) first

y_read : (units : Units) (block : Block) (v : ℤ) → IsCoordinate v → is_some block.y ≡ false → judge_word units block (length_word units 89 v) ≡ Ok (record block { y = Some (pos 10 *ℤ v) })
y_read units block v on first =
    length_read units v (negsuc 327679) (pos 327670) (is_some block.y) (λ y. record block { y = Some y }) on (fine v on) first

-- from -32,767 to 32,767, as heights are
pub height_is_coordinate : (h : ℤ) → IsUpTo (pos 32767) h → IsCoordinate h
height_is_coordinate h on =
    let from = on.low in
    let to = on.high in
    record { low = omega (arith, ints); high = omega (arith, ints) }

z_read : (units : Units) (block : Block) (h : ℤ) → IsUpTo (pos 32767) h → is_some block.z ≡ false → judge_word units block (length_word units 90 h) ≡ Ok (record block { z = Some (pos 10 *ℤ h) })
z_read units block h on first =
    let from = on.low in
    let to = on.high in
    length_read units h (negsuc 327669) (pos 327670) (is_some block.z) (λ z. record block { z = Some z }) (height_is_coordinate h on)
    (record { low = omega (arith, ints); high = omega (arith, ints) }) first

-- depths and safe heights as heights
pub depth_on : (depth : ℕ) → depth ≤ 32767 → IsUpTo (pos 32767) (neg_ℤ (pos depth))
depth_on depth small = record { low = omega (arith, ints); high = omega (arith, ints) }

pub height_on : (h : ℕ) → h ≤ 32767 → IsUpTo (pos 32767) (pos h)
height_on h small = record { low = omega (arith, ints); high = omega (arith, ints) }

-- ---- the lines

abbrev pub moving : Block
moving = record empty_block { motion = true }

abbrev pub and_words : Units → List Word → Result Block CodeKind → Result Block CodeKind
and_words units words read = and_then read (λ block. judge_words units block words)

-- the blocks of lines, at G0 or G1
abbrev pub height_block : ℤ → Block
height_block h = record moving { z = Some (pos 10 *ℤ h) }

abbrev pub travel_block : GridPoint → Block
travel_block p = record moving { x = Some (pos 10 *ℤ p.x); y = Some (pos 10 *ℤ p.y) }

abbrev pub place_block : GridPoint → ℤ → Block
place_block p h = record (travel_block p) { z = Some (pos 10 *ℤ h) }

pub height_read : (units : Units) (motion : Motion) (h : ℤ) → IsUpTo (pos 32767) h → block_of_line units (height_line units (motion_word motion) h) ≡ Ok (height_block h)
height_read units Rapid h on = ap (and_words units []) (z_read units moving h on refl)
height_read units Straight h on = ap (and_words units []) (z_read units moving h on refl)

pub travel_read : (units : Units) (p : GridPoint) → IsOnGrid p.x p.y → block_of_line units (travel_line units p) ≡ Ok (travel_block p)
travel_read units p on =
    ap (and_words units (length_word units 89 p.y ∷ [])) (x_read units moving p.x on.across refl)
    ∙ ap (and_words units []) (y_read units (record moving { x = Some (pos 10 *ℤ p.x) }) p.y on.up refl)

node_read : (units : Units) (node : GridNode) → IsNode node → block_of_line units (node_line units node) ≡ Ok (place_block node.at (neg_ℤ (pos node.depth)))
node_read units node on =
    let h = neg_ℤ (pos node.depth) in
    ap (and_words units (length_word units 89 node.at.y ∷ length_word units 90 h ∷ [])) (x_read units moving node.at.x on.at.across refl)
    ∙ ap (and_words units (length_word units 90 h ∷ [])) (y_read units (record moving { x = Some (pos 10 *ℤ node.at.x) }) node.at.y on.at.up refl)
    ∙ ap (and_words units []) (z_read units (travel_block node.at) h (depth_on node.depth on.depth) refl)

-- ---- the ways

-- upright
pub height_leads : (units : Units) (motion : Motion) (p : GridPoint) (from h : ℤ) → IsUpTo (pos 32767) h → Leads units (place_over p from) (height_line units (motion_word motion) h) (place_over p h)
height_leads units motion p from h on =
    record { block = height_block h; reads = height_read units motion h on; names = refl; goes_on = refl; reaches = refl }

-- at the height that there is
pub travel_leads : (units : Units) (from p : GridPoint) (h : ℤ) → IsOnGrid p.x p.y → Leads units (place_over from h) (travel_line units p) (place_over p h)
travel_leads units from p h on =
    record { block = travel_block p; reads = travel_read units p on; names = refl; goes_on = refl; reaches = refl }

-- from wherever
pub node_leads : (units : Units) (from : GridPlace) (node : GridNode) → IsNode node → Leads units from (node_line units node) (node_place node)
node_leads units from node on =
    record { block = place_block node.at (neg_ℤ (pos node.depth)); reads = node_read units node on; names = refl; goes_on = refl; reaches = refl }
