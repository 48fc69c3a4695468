-- Runs of bits: masks of the bits below a number, and what they turn or clear in words of 64 bits.
use mir.Syntax.{w64}
use Rattle.std.proofs.Common.{◌≡◌, ◌≢◌, ℕ, ◌+◌, ◌-◌, ◌*◌, ◌/◌, ◌%◌, ◌^◌, ◌<◌, ◌≤◌, Bool, true, false, ◌&&◌, cond, not, nat_lt, min, max, List, length, get_or, set, bit_and, bit_or, bit_xor, refl, arith, ap, ap₂, sym, ◌∙◌, inl, inr}
use Rattle.std.specs.Int.{bit_at, bit_not}
use Rattle.std.proofs.lemmas.Bool.{cases_eq, cases_lt}
use Rattle.std.proofs.lemmas.Bool.Decides.{nat_tests}
use Rattle.std.proofs.lemmas.List.{get_or-set_same, get_or-set_other}
use Rattle.std.proofs.lemmas.Nat.Bits.{bit_at_and, bit_at_or, bit_at_xor, bit_at_not, ones_shr, bit_at_ones, bit_at_ones_above, bit_at-lt}
use Rattle.evenodd_region.specs.RowBits.{IsBelow, IsCleared, IsFlipped, bit_in, is_between, one_where}

-- ---- masks

-- the mask of so many ones
some_below : (end word n : ℕ) → 64 * word + n ≡ end → n ≤ 64 → IsBelow end word (2 ^ n - 1)
some_below end word n is few = record {
  bits = λ k within. elim (cases_lt k n) [
    | inl low ↦ let below : nat_lt (64 * word + k) end ≡ true = grind (arith, nat_tests) in rw below (bit_at_ones n k low)
    | inr high ↦ let not_below : nat_lt (64 * word + k) end ≡ false = grind (arith, nat_tests) in rw not_below (bit_at_ones_above n k high)
  ];
}

-- the mask of all ones
pub all_below : (end word : ℕ) → 64 * word + 64 ≤ end → IsBelow end word (2 ^ 64 - 1)
all_below end word high = record {
  bits = λ k within.
      let below : nat_lt (64 * word + k) end ≡ true = grind (arith, nat_tests) in
      rw below (bit_at_ones 64 k within);
}

-- the mask as the code makes it
pub shifted_below : (end word n : ℕ) → n ≡ min (end - 64 * word) 64 → 0 < n → IsBelow end word ((2 ^ 64 - 1) / 2 ^ (64 - n))
shifted_below end word n is some =
    let ones : (2 ^ 64 - 1) / 2 ^ (64 - n) ≡ 2 ^ n - 1 = ones_shr 64 (64 - n) (omega arith) ∙ ap (λ k. 2 ^ k - 1) (omega arith) in
    elim (cases_lt (64 * word + 64) end) [
      | inl more ↦ let all : n ≡ 64 = omega arith in rw (ones, all) (all_below end word (omega arith))
      | inr last ↦ rw ones (some_below end word n (omega arith) (omega arith))
    ]

-- ---- one word written

module _ (words : List ℕ) (w v : ℕ) (within : w < length words) where
  pub bit_here : (i : ℕ) → i / 64 ≡ w → bit_in (set words w v) i ≡ bit_at v (i % 64)
  bit_here i here = rw here (ap (λ n. bit_at n (i % 64)) (get_or-set_same words w v 0 within))

  pub bit_there : (i : ℕ) → i / 64 ≢ w → bit_in (set words w v) i ≡ bit_in words i
  bit_there i there = ap (λ n. bit_at n (i % 64)) (get_or-set_other words w (i / 64) v 0 there)

-- i is in another word, and so it is below both ends of this one or neither
pub beside_word : (i w from end : ℕ) → i / 64 ≢ w → from ≡ 64 * w → from ≤ end → end ≤ from + 64 → nat_lt i from ≡ nat_lt i end
beside_word i w from end there starts ordered short = elim (cases_lt i from) [
  | inl low ↦ grind (arith, nat_tests)
  | inr high ↦ let past : end ≤ i = omega arith in grind (arith, nat_tests)
]

turned_bit : (b o m : ℕ) → b ≡ (o + 0) % 2 → (b + m) % 2 ≡ (o + m) % 2
turned_bit b o m was = omega arith

-- the bit of a mask at the place of i in its word
pub mask_bit : (end w mask i : ℕ) → i / 64 ≡ w → IsBelow end w mask → bit_at mask (i % 64) ≡ one_where (nat_lt i end)
mask_bit end w mask i here below =
    let place : 64 * w + i % 64 ≡ i = omega arith in
    below.bits (i % 64) (omega arith) ∙ ap (λ n. one_where (nat_lt n end)) place

pub word_bit : (words : List ℕ) (w i : ℕ) → i / 64 ≡ w → bit_at (get_or words w 0) (i % 64) ≡ bit_in words i
word_bit words w i here = ap (λ n. bit_at (get_or words n 0) (i % 64)) (sym here)

-- the mask turns the bits of its word from `from` to below `end`
pub flipped_next : (old words : List ℕ) (w mask from end : ℕ) → w < length words → from ≡ 64 * w → from ≤ end → end ≤ from + 64 → IsBelow end w mask
    → IsFlipped from old words → IsFlipped end old (set words w (bit_xor (get_or words w 0) mask))
flipped_next old words w mask from end within starts ordered short below flipped = record {
  bits = λ i. elim (cases_eq (i / 64) w) [
    | inl here ↦
        let not_yet : nat_lt i from ≡ false = grind (arith, nat_tests) in
        bit_here words w _ within i here
        ∙ bit_at_xor (get_or words w 0) mask (i % 64)
        ∙ ap₂ (λ b m. (b + m) % 2) (word_bit words w i here) (mask_bit end w mask i here below)
        ∙ turned_bit (bit_in words i) (bit_in old i) (one_where (nat_lt i end)) (flipped.bits i ∙ ap (λ b. (bit_in old i + one_where b) % 2) not_yet)
    | inr there ↦ bit_there words w _ within i there ∙ flipped.bits i ∙ ap (λ b. (bit_in old i + one_where b) % 2) (beside_word i w from end there starts ordered short)
  ];
}

cleared_bit : (b : ℕ) (low below : Bool) → b < 2 → min b (max (one_where low) (1 - one_where below)) ≡ cond (not low && below) 0 b
cleared_bit b true below few = omega arith
cleared_bit b false true few = omega arith
cleared_bit b false false few = omega arith

-- the masks clear the bits of their word from `from` to below `end`
pub cleared_next : (old words : List ℕ) (w mask other from end : ℕ) → w < length words → IsBelow from w mask → IsBelow end w other → other < 2 ^ 64
    → IsCleared (λ i. is_between from end i && nat_lt i (64 * w)) old words
    → IsCleared (λ i. is_between from end i && nat_lt i (64 * (w + 1))) old (set words w (bit_and (get_or words w 0) (bit_or mask (bit_not w64 other))))
cleared_next old words w mask other from end within is_from is_end fits cleared = record {
  bits = λ i. elim (cases_eq (i / 64) w) [
    | inl here ↦
        let not_yet : is_between from end i && nat_lt i (64 * w) ≡ false = grind (arith, nat_tests) in
        let now : not (nat_lt i from) && nat_lt i end ≡ (is_between from end i && nat_lt i (64 * (w + 1))) = grind (arith, nat_tests) in
        let was : bit_in words i ≡ bit_in old i = cleared.bits i ∙ ap (λ b. cond b 0 (bit_in old i)) not_yet in
        bit_here words w _ within i here
        ∙ bit_at_and (get_or words w 0) (bit_or mask (bit_not w64 other)) (i % 64)
        ∙ ap₂ min (word_bit words w i here ∙ was)
        (bit_at_or mask (bit_not w64 other) (i % 64)
        ∙ ap₂ max (mask_bit from w mask i here is_from) (bit_at_not w64 other (i % 64) fits (omega arith) ∙ ap (λ n. 1 - n) (mask_bit end w other i here is_end)))
        ∙ cleared_bit (bit_in old i) (nat_lt i from) (nat_lt i end) (bit_at-lt _ _)
        ∙ ap (λ b. cond b 0 (bit_in old i)) now
    | inr there ↦
        bit_there words w _ within i there ∙ cleared.bits i
        ∙ ap (λ b. cond (is_between from end i && b) 0 (bit_in old i)) (beside_word i w (64 * w) (64 * (w + 1)) there refl (omega arith) (omega arith))
  ];
}
