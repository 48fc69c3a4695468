-- Answers the goals of `about`.
use Rattle.std.specs.Prelude.{IfSome}
use Rattle.std.proofs.Common.{◌≡◌, ◌∙◌, ap₂, arith, subst, ℤ, Option, Some}
use Rattle.std.proofs.lemmas.Int.{ints}
use Rattle.plane_exact.specs.Plane.{GridPoint}
use Rattle.trial_field.proofs.cell.about.Goals as goal

pub unwrap-requires : goal.unwrap-requires
unwrap-requires c = c.new.ensures.range.1 (record {
  across = record { low = omega (arith, ints); high = omega (arith, ints) };
  up = record { low = omega (arith, ints); high = omega (arith, ints) };
})

-- the point that is found, with the numbers that its own are equal to
found : (o : Option GridPoint) (x y x' y' : ℤ) (p : GridPoint) → o ≡ Some p → IfSome o (λ q. q ≡ record { x = x; y = y }) → x ≡ x' → y ≡ y' → p ≡ record { x = x'; y = y' }
found o x y x' y' p there is across up =
    subst (λ o. IfSome o (λ q. q ≡ record { x = x; y = y })) there is ∙ ap₂ (λ x y. record { x = x; y = y }) across up

pub returns : goal.returns
returns c = found c.new.result _ _ _ _ c.unwrap.result c.unwrap.ensures c.new.ensures.value (omega (arith, ints)) (omega (arith, ints))
