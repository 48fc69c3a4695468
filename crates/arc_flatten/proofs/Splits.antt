-- The bulges of an arc as the code splits them: the first one, and those of the halves behind it.
use Rattle.std.proofs.Common.{◌≡◌, ◌-◌, ◌≤◌, List, [], ◌∷◌, ◌++◌, length, take, drop, get_or, ℤ, pos, ap, ap₂, sym, subst, ◌∙◌, append_assoc, arith}
use Rattle.std.proofs.lemmas.List.{take_all}
use Rattle.arc_flatten.specs.Bulges.{apex_of}
use Rattle.arc_flatten.specs.Halves.{StaysFine, points_along}
use Rattle.arc_flatten.specs.Points.{FinePoint}

abbrev behind_first : List ℤ → List ℤ
behind_first bulges = take (length bulges - 1) (drop 1 bulges)

behind_first_is : (b : ℤ) (halves : List ℤ) → behind_first (b ∷ halves) ≡ halves
behind_first_is b halves = take_all _ halves (omega arith)

pub stays_behind : (bulges : List ℤ) (p q apex : FinePoint) → 1 ≤ length bulges → apex ≡ apex_of p q (get_or bulges 0 (pos 0)) → StaysFine bulges p q → StaysFine (behind_first bulges) apex q
stays_behind [] p q apex some is stays = absurd (omega arith)
stays_behind (b ∷ halves) p q apex some is stays =
    subst (λ (bs : List ℤ). StaysFine bs apex q) (sym (behind_first_is b halves)) (subst (λ (a : FinePoint). StaysFine halves a q) (sym is) stays.2)

pub points_behind : (bulges : List ℤ) (p q apex : FinePoint) (old half all : List FinePoint) → 1 ≤ length bulges → apex ≡ apex_of p q (get_or bulges 0 (pos 0))
    → half ≡ old ++ points_along (behind_first bulges) p apex → all ≡ half ++ points_along (behind_first bulges) apex q → all ≡ old ++ points_along bulges p q
points_behind [] p q apex old half all some is first second = absurd (omega arith)
points_behind (b ∷ halves) p q apex old half all some is first second =
    let tail = behind_first_is b halves in
    second ∙ ap₂ (λ xs ys. xs ++ ys) first (ap₂ (λ bs a. points_along bs a q) tail is)
    ∙ append_assoc old (points_along (behind_first (b ∷ halves)) p apex) (points_along halves (apex_of p q b) q)
    ∙ ap (λ xs. old ++ (xs ++ points_along halves (apex_of p q b) q)) (ap₂ (λ bs a. points_along bs p a) tail is)
