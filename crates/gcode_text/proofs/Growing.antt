-- A list that grows by what one item after the other gives, as a text by lines.
use Rattle.std.specs.Prelude.{map}
use Rattle.std.proofs.Common.{◌≡◌, ℕ, ◌+◌, ◌<◌, List, [], ◌∷◌, ◌++◌, length, get_or, take, flat_map, sym, ap, ◌∙◌, append_assoc}
use Rattle.std.proofs.lemmas.List.{append-nil, take_more}
use Rattle.std.proofs.lemmas.List.Concat.{flat_map-append}
use Rattle.plane_exact.specs.Nodes.{GridNode}
use Rattle.gcode_text.specs.Path.{chain_lines, closing_text, end_line, path_text, setup_lines, titled_text}
use Rattle.gcode_text.specs.Written.{Note, WrittenLine, code_text, line_text}
use Rattle.gcode_text.specs.declared.job.Job.{Job}

pub code_text-append : (xs ys : List WrittenLine) → code_text (xs ++ ys) ≡ code_text xs ++ code_text ys
code_text-append = flat_map-append (λ line. line_text line ++ 10 ∷ [])

one_more : {A B : Type 0} (f : A → List B) (xs : List A) (i : ℕ) (d : A) → i < length xs
    → flat_map f (take i xs) ++ f (get_or xs i d) ≡ flat_map f (take (i + 1) xs)
one_more f xs i d inside =
    ap (λ items. flat_map f (take i xs) ++ items) (sym (append-nil (f (get_or xs i d))))
    ∙ sym (flat_map-append f (take i xs) (get_or xs i d ∷ []))
    ∙ ap (λ items. flat_map f items) (sym (take_more xs i d inside))

-- what the items so far give, and then one more
pub grown_by : {A B : Type 0} (f : A → List B) (xs : List A) (i : ℕ) (d : A) (old now next : List B) → i < length xs
    → now ≡ old ++ flat_map f (take i xs) → next ≡ now ++ f (get_or xs i d) → next ≡ old ++ flat_map f (take (i + 1) xs)
grown_by f xs i d old now next inside is more =
    more
    ∙ ap (λ items. items ++ f (get_or xs i d)) is
    ∙ append_assoc old (flat_map f (take i xs)) (f (get_or xs i d))
    ∙ ap (λ items. old ++ items) (one_more f xs i d inside)

-- the text of the lines of the items so far, and then of one more
pub grown : {A : Type 0} (f : A → List WrittenLine) (xs : List A) (i : ℕ) (d : A) (old now next : List ℕ) → i < length xs
    → now ≡ old ++ code_text (flat_map f (take i xs)) → next ≡ now ++ code_text (f (get_or xs i d)) → next ≡ old ++ code_text (flat_map f (take (i + 1) xs))
grown f xs i d old now next inside is more =
    more
    ∙ ap (λ text. text ++ code_text (f (get_or xs i d))) is
    ∙ append_assoc old (code_text (flat_map f (take i xs))) (code_text (f (get_or xs i d)))
    ∙ ap (λ text. old ++ text) (sym (code_text-append (flat_map f (take i xs)) (f (get_or xs i d))))
    ∙ ap (λ lines. old ++ code_text lines) (one_more f xs i d inside)

-- the text of the title, the setup and the chains is that of the path
pub path_written : (title : List ℕ) (job : Job) (chains : List (List GridNode)) (titled set_up whole : List ℕ) → titled ≡ code_text (Note title ∷ [])
    → set_up ≡ titled ++ code_text (setup_lines job) → whole ≡ set_up ++ code_text (flat_map (chain_lines job) chains) → whole ≡ path_text title job chains
unfolding path_text
path_written title job chains titled set_up whole titled_is set_up_is whole_is =
    let lines = flat_map (chain_lines job) chains in
    whole_is
    ∙ ap (λ text. text ++ code_text lines) (set_up_is ∙ ap (λ text. text ++ code_text (setup_lines job)) titled_is)
    ∙ append_assoc (code_text (Note title ∷ [])) (code_text (setup_lines job)) (code_text lines)
    ∙ ap (λ text. code_text (Note title ∷ []) ++ text) (sym (code_text-append (setup_lines job) lines))
    ∙ sym (code_text-append (Note title ∷ []) (setup_lines job ++ lines))

-- the text of the path, the notes and the end is that of the program
pub titled_written : (title : List ℕ) (job : Job) (chains : List (List GridNode)) (notes : List (List ℕ)) (path noted whole : List ℕ)
    → path ≡ path_text title job chains → noted ≡ path ++ code_text (map Note notes) → whole ≡ noted ++ code_text (end_line ∷ []) → whole ≡ titled_text title job chains notes
unfolding closing_text
titled_written title job chains notes path noted whole path_is noted_is whole_is =
    let end = code_text (end_line ∷ []) in
    whole_is
    ∙ ap (λ text. text ++ end) (noted_is ∙ ap (λ text. text ++ code_text (map Note notes)) path_is)
    ∙ append_assoc (path_text title job chains) (code_text (map Note notes)) end
    ∙ ap (λ text. path_text title job chains ++ text) (sym (code_text-append (map Note notes) (end_line ∷ [])))
