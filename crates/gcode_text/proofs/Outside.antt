-- What stands in a line outside its comments, a byte at a time.
use Rattle.std.proofs.Common.{◌≡◌, ℕ, ◌+◌, ◌<◌, Bool, true, false, not, cond, eqb, Option, Some, None, List, [], ◌∷◌, ◌++◌, length, get_or, drop, sym, ap, refl, append_assoc}
use Rattle.std.specs.Prelude.{option_map}
use Rattle.std.proofs.lemmas.Bool.{ne_eqb}
use Rattle.std.proofs.lemmas.List.{at_drop_more, append-nil}
use Rattle.text_lines.specs.Pieces.{is_blank}
use Rattle.gcode_text.specs.Grammar.{capital, outside_comments}

-- what stood outside comments so far, and then that of the rest
abbrev pub then_outside : List ℕ → Option (List ℕ) → Option (List ℕ)
then_outside outside None = None
then_outside outside (Some later) = Some (outside ++ later)

pub then_outside_none : (outside : Option (List ℕ)) → then_outside [] outside ≡ outside
then_outside_none None = refl
then_outside_none (Some later) = refl

pub then_outside_push : (outside : List ℕ) (byte : ℕ) (later : Option (List ℕ)) → then_outside outside (option_map (λ more. byte ∷ more) later) ≡ then_outside (outside ++ byte ∷ []) later
then_outside_push outside byte None = refl
then_outside_push outside byte (Some later) = ap Some (sym (append_assoc outside (byte ∷ []) later))

pub outside_comments-drop : (in_comment : Bool) (line : List ℕ) (i : ℕ) → i < length line → outside_comments in_comment (drop i line) ≡ outside_comments in_comment (get_or line i 0 ∷ drop (i + 1) line)
outside_comments-drop in_comment line i inside = at_drop_more (outside_comments in_comment) line i 0 inside

-- a byte in a comment, which a ')' ends
pub skips_in_comment : (in_comment next : Bool) (outside line : List ℕ) (i : ℕ) → i < length line → in_comment ≡ true → next ≡ not (eqb (get_or line i 0) 41) → then_outside outside (outside_comments in_comment (drop i line)) ≡ then_outside outside (outside_comments next (drop (i + 1) line))
skips_in_comment in_comment next outside line i inside is next_is =
    rw (outside_comments-drop in_comment line i inside, is, next_is) (by_end (eqb (get_or line i 0) 41))
  where
    by_end : (ends : Bool) → then_outside outside (outside_comments (cond ends false true) (drop (i + 1) line)) ≡ then_outside outside (outside_comments (not ends) (drop (i + 1) line))
    by_end true = refl
    by_end false = refl

-- a '(' outside a comment
pub opens_comment : (in_comment next : Bool) (outside line : List ℕ) (i : ℕ) → i < length line → in_comment ≡ false → next ≡ true → get_or line i 0 ≡ 40 → then_outside outside (outside_comments in_comment (drop i line)) ≡ then_outside outside (outside_comments next (drop (i + 1) line))
opens_comment in_comment next outside line i inside is next_is byte =
    rw (outside_comments-drop in_comment line i inside, is, next_is, byte) refl

-- a ';' outside a comment
pub ends_line : (in_comment : Bool) (outside line : List ℕ) (i : ℕ) → i < length line → in_comment ≡ false → get_or line i 0 ≡ 59 → then_outside outside (outside_comments in_comment (drop i line)) ≡ Some outside
ends_line in_comment outside line i inside is byte =
    rw (outside_comments-drop in_comment line i inside, is, byte) (ap Some (append-nil outside))

-- a blank outside a comment
pub skips_blank : (in_comment next : Bool) (outside line : List ℕ) (i : ℕ) → i < length line → in_comment ≡ false → next ≡ in_comment → (get_or line i 0 ≡ 40 → ⊥) → (get_or line i 0 ≡ 59 → ⊥) → is_blank (get_or line i 0) ≡ true → then_outside outside (outside_comments in_comment (drop i line)) ≡ then_outside outside (outside_comments next (drop (i + 1) line))
skips_blank in_comment next outside line i inside is next_is not_open not_end blank =
    rw (outside_comments-drop in_comment line i inside, next_is, is, ne_eqb _ _ not_open, ne_eqb _ _ not_end, blank) refl

-- any other byte there
pub takes_byte : (in_comment next : Bool) (outside line : List ℕ) (i : ℕ) → i < length line → in_comment ≡ false → next ≡ in_comment → (get_or line i 0 ≡ 40 → ⊥) → (get_or line i 0 ≡ 59 → ⊥) → is_blank (get_or line i 0) ≡ false → then_outside outside (outside_comments in_comment (drop i line)) ≡ then_outside (outside ++ capital (get_or line i 0) ∷ []) (outside_comments next (drop (i + 1) line))
takes_byte in_comment next outside line i inside is next_is not_open not_end no_blank =
    rw (outside_comments-drop in_comment line i inside, next_is, is, ne_eqb _ _ not_open, ne_eqb _ _ not_end, no_blank) (then_outside_push outside (capital (get_or line i 0)) (outside_comments false (drop (i + 1) line)))
