-- Blanks at the ends of a line.
use Rattle.std.proofs.Common.{◌≡◌, ℕ, true, false, List, [], ◌∷◌, ◌++◌, refl, ap, ◌∙◌}
use Rattle.text_lines.specs.Pieces.{is_blank}
use Rattle.text_lines.specs.Blanks.{before, without_back}

-- a byte before one that ends a line
before_last : (byte last : ℕ) (line : List ℕ) → before byte (line ++ last ∷ []) ≡ byte ∷ line ++ last ∷ []
before_last byte last [] = refl
before_last byte last (next ∷ line) = refl

-- a blank at the end
pub without_back-blank : (line : List ℕ) (last : ℕ) → is_blank last ≡ true → without_back (line ++ last ∷ []) ≡ without_back line
without_back-blank [] last is = rw is refl
without_back-blank (byte ∷ line) last is = ap (before byte) (without_back-blank line last is)

-- no blank at the end
pub without_back-other : (line : List ℕ) (last : ℕ) → is_blank last ≡ false → without_back (line ++ last ∷ []) ≡ line ++ last ∷ []
without_back-other [] last is = rw is refl
without_back-other (byte ∷ line) last is = ap (before byte) (without_back-other line last is) ∙ before_last byte last line
