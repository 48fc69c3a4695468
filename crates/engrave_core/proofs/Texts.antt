-- Texts that were made, and lists to which texts were appended.
use Rattle.std.specs.Prelude.{Result, Ok, Err, IfOk, OnOk, is_ok, if◌then◌else◌}
use Rattle.std.proofs.Common.{◌≡◌, ◌++◌, ◌∙◌, ℕ, List, ap, append_assoc, sym}

pub IfOk-bytes : {S E : Type 0} (bytes : S → List ℕ) (made : Result S E) (a b : List ℕ) → a ≡ b
    → IfOk made (λ s. bytes s ≡ a) → IfOk made (λ s. bytes s ≡ b)
IfOk-bytes bytes (Ok s) a b same is = is ∙ same
IfOk-bytes bytes (Err e) a b same is = is

pub OnOk-map : {A E : Type 0} {P Q : Type 0} (r : Result A E) → (P → Q) → OnOk r P → OnOk r Q
OnOk-map (Ok x) step p = step p
OnOk-map (Err e) step p = tt

-- what a list that may not have grown is, where it has
pub OnOk-added : {A E : Type 0} (r : Result A E) (new old added : List ℕ) → new ≡ (if is_ok r then old ++ added else old) → OnOk r (new ≡ old ++ added)
OnOk-added (Ok x) new old added is = is
OnOk-added (Err e) new old added is = tt

-- five texts, appended one by one
pub appended : {a b d e end : List ℕ} (start u v w x y : List ℕ) → a ≡ start ++ u → b ≡ a ++ v → d ≡ b ++ w → e ≡ d ++ x → end ≡ e ++ y
    → end ≡ start ++ (u ++ (v ++ (w ++ (x ++ y))))
appended start u v w x y ea eb ed ee ef =
    ef ∙ ap (λ z. z ++ y) (ee ∙ ap (λ z. z ++ x) (ed ∙ ap (λ z. z ++ w) (eb ∙ ap (λ z. z ++ v) ea)))
    ∙ simp append_assoc

-- a front, then a text of four parts, then an end; and a front with two parts
pub tailed : (front a b w t end : List ℕ) → front ++ (a ++ (b ++ (w ++ (t ++ end)))) ≡ (front ++ (((a ++ b) ++ w) ++ t)) ++ end
tailed front a b w t end = sym (simp append_assoc)

pub paired : (front x b y end : List ℕ) → front ++ (x ++ (b ++ (y ++ end))) ≡ (((front ++ x) ++ b) ++ y) ++ end
paired front x b y end = sym (simp append_assoc)
