-- A text before and behind its first separator, by the separator's place.
use Rattle.std.proofs.Common.{◌≡◌, ℕ, ◌+◌, ◌≤◌, Bool, true, false, not, ◌||◌, cond, ltb, Some, None, List, [], ◌∷◌, length, sym, ◌∙◌, refl, arith}
use Rattle.std.specs.List.{position_or_len, before_first, after_first, list_any}
use Rattle.std.proofs.lemmas.Bool.Decides.{nat_tests}
use Rattle.std.proofs.lemmas.Bool.{ltb-false}
use Rattle.std.proofs.lemmas.Grind.{common_steps}

-- whether some byte passes, by the place of the first one
pub list_any_is : (p : ℕ → Bool) (text : List ℕ) → list_any p text ≡ ltb (position_or_len p text) (length text)
list_any_is p [] = refl
list_any_is p (byte ∷ rest) =
    elim (p byte) as (λ b. (b || list_any p rest) ≡ ltb (cond (not b) (1 + position_or_len p rest) 0) (length (byte ∷ rest))) [
      | true ↦ grind (arith, nat_tests)
      | false ↦ list_any_is p rest ∙ grind (arith, nat_tests)
    ]

-- where no byte passes
pub list_any_none : (p : ℕ → Bool) (text : List ℕ) → None ≡ cond (ltb (position_or_len p text) (length text)) (Some (position_or_len p text)) None → list_any p text ≡ false
list_any_none p text none = list_any_is p text ∙ false_from (ltb (position_or_len p text) (length text)) none
  where
    false_from : (b : Bool) → None ≡ cond b (Some (position_or_len p text)) None → b ≡ false
    false_from true e = absurd (cc)
    false_from false e = refl

none_before : (p : ℕ → Bool) (text : List ℕ) → list_any p text ≡ false → length text ≤ position_or_len p text
none_before p text none = ltb-false _ _ (sym (list_any_is p text) ∙ none)

pub before_first_none : (p : ℕ → Bool) (text : List ℕ) → list_any p text ≡ false → text ≡ before_first p text
before_first_none p text none = let past = none_before p text none in grind (arith, common_steps)

pub after_first_none : (p : ℕ → Bool) (text : List ℕ) → list_any p text ≡ false → ◌≡◌ {A = List ℕ} [] (after_first p text)
after_first_none p text none = let past = none_before p text none in grind (arith, common_steps)
