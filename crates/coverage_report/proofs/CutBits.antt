-- Bits of words: a range of them that is set, those that are cleared where others are set, and the words of a row among those of a grid.
use mir.Syntax.{w64}
use lib.LanesLaws.{length-zip2}
use Rattle.std.specs.Simd.Lanes.{zip2}
use Rattle.std.proofs.Common.{◌≡◌, ℕ, ◌+◌, ◌-◌, ◌*◌, ◌/◌, ◌%◌, ◌^◌, ◌<◌, ◌≤◌, Bool, true, false, ◌&&◌, cond, not, nat_lt, min, max, List, length, get_or, set, drop, replicate, bit_and, bit_or, refl, arith, ap, ap₂, ◌∙◌, inl, inr}
use Rattle.std.specs.Int.{bit_at, bit_not}
use Rattle.std.proofs.lemmas.Bool.{cases_eq, cases_lt}
use Rattle.std.proofs.lemmas.Bool.Decides.{nat_tests}
use Rattle.std.proofs.lemmas.List.{get_or-drop, get_or-replicate, get_or-take, get_or_past, length-replicate}
use Rattle.std.proofs.lemmas.Nat.Bits.{bit_at_and, bit_at_or, bit_at_not, bit_at-lt, bit_at-zero}
use Rattle.std.proofs.lemmas.Simd.{get_or-zip2}
use Rattle.lane_kernels.specs.Words.{without}
use Rattle.evenodd_region.specs.RowBits.{IsBelow, bit_in, is_between, one_where}
use Rattle.evenodd_region.proofs.BitRuns.{beside_word, bit_here, bit_there, mask_bit, word_bit}
use Rattle.coverage_report.specs.Cuts.{AreWithout, IsFilled, row_words}

-- ---- a range that is set

shifted_lt : (s w k end : ℕ) → nat_lt (64 * w + k) end ≡ nat_lt (64 * (s + w) + k) (64 * s + end)
shifted_lt s w k end = elim (cases_lt (64 * w + k) end) [ inl low ↦ grind (arith, nat_tests) | inr high ↦ grind (arith, nat_tests) ]

-- a mask serves all words that are as far from the bit where it ends
pub below_shifted : (s end w mask : ℕ) → IsBelow end w mask → IsBelow (64 * s + end) (s + w) mask
below_shifted s end w mask below = record { bits = λ k within. below.bits k within ∙ ap one_where (shifted_lt s w k end) }

filled_bit : (b : ℕ) (low below : Bool) → b < 2 → max b (min (one_where below) (1 - one_where low)) ≡ cond (not low && below) 1 b
filled_bit b true true few = omega arith
filled_bit b true false few = omega arith
filled_bit b false true few = omega arith
filled_bit b false false few = omega arith

-- the masks set the bits of their word from `from` to below `end`
pub filled_next : (old words : List ℕ) (w mask other from end next : ℕ) → w < length words → next ≡ w + 1 → IsBelow end w mask → IsBelow from w other → other < 2 ^ 64
    → IsFilled (λ j. is_between from end j && nat_lt j (64 * w)) old words
    → IsFilled (λ j. is_between from end j && nat_lt j (64 * next)) old (set words w (bit_or (get_or words w 0) (bit_and mask (bit_not w64 other))))
filled_next old words w mask other from end next within more is_end is_from fits filled = record {
  bits = λ j. elim (cases_eq (j / 64) w) [
    | inl here ↦
        let not_yet : is_between from end j && nat_lt j (64 * w) ≡ false = grind (arith, nat_tests) in
        let now : not (nat_lt j from) && nat_lt j end ≡ (is_between from end j && nat_lt j (64 * next)) = grind (arith, nat_tests) in
        let was : bit_in words j ≡ bit_in old j = filled.bits j ∙ ap (λ b. cond b 1 (bit_in old j)) not_yet in
        bit_here words w _ within j here
        ∙ bit_at_or (get_or words w 0) (bit_and mask (bit_not w64 other)) (j % 64)
        ∙ ap₂ max (word_bit words w j here ∙ was)
        (bit_at_and mask (bit_not w64 other) (j % 64)
        ∙ ap₂ min (mask_bit end w mask j here is_end) (bit_at_not w64 other (j % 64) fits (omega arith) ∙ ap (λ n. 1 - n) (mask_bit from w other j here is_from)))
        ∙ filled_bit (bit_in old j) (nat_lt j from) (nat_lt j end) (bit_at-lt _ _)
        ∙ ap (λ b. cond b 1 (bit_in old j)) now
    | inr there ↦
        bit_there words w _ within j there ∙ filled.bits j
        ∙ ap (λ b. cond (is_between from end j && b) 1 (bit_in old j)) (beside_word j w (64 * w) (64 * next) there refl (omega arith) (omega arith))
  ];
}

-- ---- bits that are cleared where others are set

module _ (cut old : List ℕ) (same : length old ≡ length cut) (fits : (k : ℕ) → get_or cut k 0 < 2 ^ 64) where
  cleared_bit : (i : ℕ) → bit_in (zip2 without old cut) i ≡ min (bit_in old i) (1 - bit_in cut i)
  cleared_bit i = elim (cases_lt (i / 64) (length old)) [
    | inl within ↦
        ap (λ v. bit_at v (i % 64)) (get_or-zip2 without old cut (i / 64) 0 0 0 within (omega arith))
        ∙ bit_at_and (get_or old (i / 64) 0) (bit_not w64 (get_or cut (i / 64) 0)) (i % 64)
        ∙ ap (min (bit_in old i)) (bit_at_not w64 (get_or cut (i / 64) 0) (i % 64) (fits (i / 64)) (omega arith))
    | inr past ↦
        let long : length (zip2 without old cut) ≡ length old = length-zip2 without old cut same in
        let none : bit_in old i ≡ 0 = ap (λ v. bit_at v (i % 64)) (get_or_past old (i / 64) 0 past) ∙ bit_at-zero (i % 64) in
        let clear : bit_in (zip2 without old cut) i ≡ 0 = ap (λ v. bit_at v (i % 64)) (get_or_past (zip2 without old cut) (i / 64) 0 (omega arith)) ∙ bit_at-zero (i % 64) in
        omega arith
  ]

  pub cleared_cut : (new : List ℕ) → new ≡ zip2 without old cut → AreWithout cut old new
  cleared_cut new is = record {
    bits = λ i.
        let bit : bit_in new i ≡ min (bit_in old i) (1 - bit_in cut i) = ap (λ ws. bit_in ws i) is ∙ cleared_bit i in
        let few : bit_in cut i < 2 = bit_at-lt _ _ in (
          (λ set. (omega arith, λ there. absurd (omega arith))),
          (λ both. elim (cases_eq (bit_in cut i) 1) [ inl there ↦ absurd (both.1 there) | inr clear ↦ let was = both.0 in omega arith ]),
        );
  }

-- ---- no bit yet, and the words of a row

pub none_set : (n i : ℕ) → bit_in (replicate n 0) i ≡ 0
none_set n i = elim (cases_lt (i / 64) n) [
  | inl within ↦ ap (λ v. bit_at v (i % 64)) (get_or-replicate n (i / 64) 0 0 within) ∙ bit_at-zero (i % 64)
  | inr past ↦ ap (λ v. bit_at v (i % 64)) (get_or_past (replicate n 0) (i / 64) 0 (simp length-replicate past)) ∙ bit_at-zero (i % 64)
]

-- behind the words no bit is 1
pub none_past : (words : List ℕ) (i : ℕ) → 64 * length words ≤ i → bit_in words i ≡ 0
none_past words i past = ap (λ v. bit_at v (i % 64)) (get_or_past words (i / 64) 0 (omega arith)) ∙ bit_at-zero (i % 64)

-- a bit of the words of the row k, among those of all rows
pub row_bit : (width k i : ℕ) (words : List ℕ) → i < 64 * width → bit_in (row_words width k words) i ≡ bit_in words (64 * (k * width) + i)
row_bit width k i words within =
    let word : k * width + i / 64 ≡ (64 * (k * width) + i) / 64 = omega arith in
    let place : i % 64 ≡ (64 * (k * width) + i) % 64 = omega arith in
    let more : (k + 1) * width - k * width ≡ width = omega arith in
    ap (λ v. bit_at v (i % 64))
    (get_or-take ((k + 1) * width - k * width) (drop (k * width) words) (i / 64) 0 (omega arith) ∙ get_or-drop (k * width) words (i / 64) 0)
    ∙ ap₂ (λ n k. bit_at (get_or words n 0) k) word place
