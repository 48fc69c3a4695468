-- A bit of words that becomes 0.
use mir.Syntax.{w64}
use Rattle.std.proofs.Common.{◌≡◌, ◌≢◌, ◌↔◌, ℕ, ◌*◌, ◌/◌, ◌%◌, ◌^◌, ◌<◌, List, length, get_or, set, bit_and, ap, arith, inl, inr, sym, ◌∙◌}
use Rattle.std.specs.Int.{bit_not}
use Rattle.std.proofs.lemmas.Bool.{cases_eq}
use Rattle.std.proofs.lemmas.Nat.Bits.{bit_at_clear_other, bit_at_clear_same}
use Rattle.evenodd_region.specs.RowBits.{IsSetIn, bit_in}
use Rattle.evenodd_region.proofs.BitRuns.{bit_here, bit_there, word_bit}

module _ (words : List ℕ) (i : ℕ) (within : i / 64 < length words) where
  -- the word without the bit
  abbrev pub without_bit : ℕ
  without_bit = bit_and (get_or words (i / 64) 0) (bit_not w64 (1 * 2 ^ (i % 64) % 2 ^ 64))

  abbrev pub after : List ℕ
  after = set words (i / 64) without_bit

  bit_gone : bit_in after i ≡ 0
  bit_gone =
      bit_here words (i / 64) without_bit within i (omega arith)
      ∙ bit_at_clear_same w64 (get_or words (i / 64) 0) (i % 64) (omega arith)

  bit_kept : (j : ℕ) → j ≢ i → bit_in after j ≡ bit_in words j
  bit_kept j other = elim (cases_eq (j / 64) (i / 64)) [
    | inl here ↦
        bit_here words (i / 64) without_bit within j here
        ∙ bit_at_clear_other w64 (get_or words (i / 64) 0) (i % 64) (omega arith) (j % 64) (omega arith) (omega arith)
        ∙ word_bit words (i / 64) j here
    | inr there ↦ bit_there words (i / 64) without_bit within j there
  ]

  pub cleared : (j : ℕ) → IsSetIn after j ↔ (IsSetIn words j × (j ≢ i))
  cleared j = elim (cases_eq j i) [
    | inl same ↦ (
      (λ set. let gone = ap (bit_in after) same ∙ bit_gone in absurd (omega arith)),
      (λ both. absurd (both.1 same)),
    )
    | inr other ↦ (
      (λ set. (sym (bit_kept j other) ∙ set, other)),
      (λ both. bit_kept j other ∙ both.0),
    )
  ]
