-- When two ends, or two places, are one.
use Rattle.std.proofs.Common.{◌≡◌, ℕ, Bool, true, false, ◌&&◌, eqb, Ordering, ap, ap₂, ◌∙◌, refl, arith}
use Rattle.std.specs.Ordering.{int_cmp, int_eq, is_eq, nat_cmp, ordering_then}
use Rattle.std.specs.declared.cmp.Ordering.TheVariants.{Less, Equal, Greater}
use Rattle.std.proofs.lemmas.Bool.Decides.{nat_tests}
use Rattle.std.proofs.lemmas.Cmp.{int_eq_equiv}
use Rattle.plane_exact.specs.Plane.{GridPoint}
use Rattle.plane_exact.specs.Same.{same_point}
use Rattle.loop_join.specs.Index.{end_cmp, end_of}
use Rattle.loop_join.specs.Places.{place_cmp, place_of}

is_eq_then : (a b : Ordering) → is_eq (ordering_then a b) ≡ (is_eq a && is_eq b)
is_eq_then Less b = refl
is_eq_then Equal b = refl
is_eq_then Greater b = refl

is_eq_nat : (n k : ℕ) → is_eq (nat_cmp n k) ≡ eqb n k
is_eq_nat n k = grind (arith, nat_tests)

and_assoc : (a b c : Bool) → (a && (b && c)) ≡ ((a && b) && c)
and_assoc true b c = refl
and_assoc false b c = refl

pub place_same : (r p : GridPoint) → is_eq (place_cmp (place_of r) (place_of p)) ≡ same_point p r
place_same r p =
    is_eq_then (int_cmp r.x p.x) (int_cmp r.y p.y) ∙ ap₂ (λ a b. a && b) (int_eq_equiv.symm r.x p.x) (int_eq_equiv.symm r.y p.y)

pub end_same : (r p : GridPoint) (n k : ℕ) → is_eq (end_cmp (end_of r n) (end_of p k)) ≡ (same_point p r && eqb n k)
end_same r p n k =
    let up = ordering_then (int_cmp r.y p.y) (nat_cmp n k) in
    is_eq_then (int_cmp r.x p.x) up ∙ ap (λ b. is_eq (int_cmp r.x p.x) && b) (is_eq_then (int_cmp r.y p.y) (nat_cmp n k)) ∙ and_assoc (int_eq r.x p.x) (int_eq r.y p.y) (is_eq (nat_cmp n k)) ∙ ap₂ (λ a b. a && b) (ap₂ (λ a b. a && b) (int_eq_equiv.symm r.x p.x) (int_eq_equiv.symm r.y p.y)) (is_eq_nat n k)
