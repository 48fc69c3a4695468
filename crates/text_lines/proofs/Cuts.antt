-- A text cut at its first separator, and a line without its carriage return.
use Rattle.std.proofs.Common.{◌≡◌, ℕ, ◌+◌, Bool, true, false, not, cond, if◌then◌else◌, ltb, suc, Some, None, List, [], ◌∷◌, ◌++◌, length, take, drop, sym, ap, ◌∙◌, refl, inl, inr, arith, add-zero}
use Rattle.std.specs.List.{position, position_or_len}
use Rattle.std.proofs.lemmas.Option.{cond_some}
use Rattle.std.proofs.lemmas.Bool.{cases_lt, lt-ltb, le-ltb, cond-true}
use Rattle.std.proofs.lemmas.Bool.Decides.{nat_tests}
use Rattle.text_lines.specs.Pieces.{Piece, pieces, with_first, without_return}

ltb-suc : (m n : ℕ) → ltb (1 + m) (suc n) ≡ ltb m n
ltb-suc m n =
    elim (cases_lt m n) [
      | inl below ↦ lt-ltb (1 + m) (suc n) (omega arith) ∙ sym (lt-ltb m n below)
      | inr above ↦ le-ltb (1 + m) (suc n) (omega arith) ∙ sym (le-ltb m n above)
    ]

-- the pieces of a text that is cut at a place, or not at all
abbrev cut_at : (ℕ → Bool) → ℕ → List ℕ → ℕ → Bool → List Piece
cut_at p at text end cuts =
    if cuts then record { at = at; bytes = take end text } ∷ pieces p (at + end + 1) (drop (end + 1) text) else record { at = at; bytes = text } ∷ []

with_first-cut_at : (p : ℕ → Bool) (at byte : ℕ) (rest : List ℕ) (end : ℕ) (cuts : Bool) → with_first at byte (cut_at p (at + 1) rest end cuts) ≡ cut_at p at (byte ∷ rest) (1 + end) cuts
with_first-cut_at p at byte rest end true =
    let one : 1 + end ≡ suc end = omega arith in
    let two : 1 + end + 1 ≡ suc (end + 1) = omega arith in
    let place : at + (1 + end) + 1 ≡ at + 1 + end + 1 = omega arith in
    rw (place, two, one) refl
with_first-cut_at p at byte rest end false = refl

-- the pieces of a text, by the place of its first separator
pieces_first : (p : ℕ → Bool) (at : ℕ) (text : List ℕ) → pieces p at text ≡ cut_at p at text (position_or_len p text) (ltb (position_or_len p text) (length text))
pieces_first p at [] = refl
pieces_first p at (byte ∷ rest) =
    let end = position_or_len p rest in
    let later : with_first at byte (pieces p (at + 1) rest) ≡ cut_at p at (byte ∷ rest) (1 + end) (ltb (1 + end) (suc (length rest))) =
    ap (with_first at byte) (pieces_first p (at + 1) rest) ∙ with_first-cut_at p at byte rest end (ltb end (length rest)) ∙ ap (cut_at p at (byte ∷ rest) (1 + end)) (sym (ltb-suc end (length rest))) in
    let now : record { at = at; bytes = [] } ∷ pieces p (at + 1) rest ≡ cut_at p at (byte ∷ rest) 0 (ltb 0 (suc (length rest))) =
    rw (lt-ltb 0 (suc (length rest)) (omega arith), add-zero) refl in
    elim (p byte) as (λ b. (if b then record { at = at; bytes = [] } ∷ pieces p (at + 1) rest else with_first at byte (pieces p (at + 1) rest)) ≡ cut_at p at (byte ∷ rest) (cond (not b) (1 + end) 0) (ltb (cond (not b) (1 + end) 0) (suc (length rest)))) [ true ↦ now | false ↦ later ]

-- the first piece, up to the first separator, and the pieces after it
pub pieces_cut : (p : ℕ → Bool) (at : ℕ) (text : List ℕ) (end : ℕ) → position p text ≡ Some end → pieces p at text ≡ record { at = at; bytes = take end text } ∷ pieces p (at + end + 1) (drop (end + 1) text)
pieces_cut p at text end found =
    let is : (ltb (position_or_len p text) (length text) ≡ true) × (position_or_len p text ≡ end) = cond_some _ _ _ found in
    pieces_first p at text ∙ rw (is.0, is.1) refl

-- a text without separators
pub pieces_whole : (p : ℕ → Bool) (at : ℕ) (text : List ℕ) → position p text ≡ None → pieces p at text ≡ record { at = at; bytes = text } ∷ []
pieces_whole p at text none =
    elim (cases_lt (position_or_len p text) (length text)) [
      | inl inside ↦ absurd (let e : Some (position_or_len p text) ≡ None = sym (cond-true _ _ _ (lt-ltb _ _ inside)) ∙ none in cc)
      | inr past ↦ pieces_first p at text ∙ rw (le-ltb _ _ past) refl
    ]

-- a carriage return at the very end
pub without_return_push : (line : List ℕ) → without_return (line ++ 13 ∷ []) ≡ line
without_return_push [] = refl
without_return_push (byte ∷ []) = refl
without_return_push (byte ∷ next ∷ rest) = ap (λ bytes. byte ∷ bytes) (without_return_push (next ∷ rest))

-- another byte there
pub without_return_other : (line : List ℕ) (last : ℕ) → (last ≡ 13 → ⊥) → without_return (line ++ last ∷ []) ≡ line ++ last ∷ []
without_return_other [] last other = grind (arith, nat_tests)
without_return_other (byte ∷ []) last other = ap (λ bytes. byte ∷ bytes) (without_return_other [] last other)
without_return_other (byte ∷ next ∷ rest) last other = ap (λ bytes. byte ∷ bytes) (without_return_other (next ∷ rest) last other)
