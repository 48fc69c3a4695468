-- Two drawings put together: the edges counted at a point are those of both, and an odd sum has exactly one odd part.
use Rattle.std.specs.Prelude.{◌⊎◌, count_by, if◌then◌else◌}
use Rattle.std.proofs.Common.{◌≡◌, ℕ, ◌+◌, ◌%◌, List, ◌++◌, inl, inr, arith, subst, sym}
use Rattle.std.proofs.lemmas.Bool.{cases_lt}
use Rattle.std.proofs.lemmas.Grind.{flat_map-append}
use Rattle.std.proofs.lemmas.List.Elements.{All-append}
use Rattle.std.proofs.lemmas.List.Sums.{sum_by-append}
use Rattle.plane_exact.specs.Plane.{RationalPoint, IsBetween}
use Rattle.plane_exact.specs.declared.point.Seg.{Seg}
use Rattle.engrave_model.specs.Drawing.{edges_of, edges_of_loop}
use Rattle.engrave_model.specs.Inside.{IsInside, IsOnOutline, is_counted}
use Rattle.evenodd_region.specs.TwoDrawings.{ExactlyOne, TwoDrawingsLaw}
use Rattle.evenodd_region.proofs.InBand.{all_off, off_all}

even_or_odd : (n : ℕ) → (n % 2 ≡ 0) ⊎ (n % 2 ≡ 1)
even_or_odd n = elim (cases_lt (n % 2) 1) [ inl less ↦ inl (omega arith) | inr more ↦ inr (omega arith) ]

module _ (w : RationalPoint) (first second : List Seg) (off_first : ¬ IsOnOutline first w) (off_second : ¬ IsOnOutline second w) where
  off_both : ¬ IsOnOutline (first ++ second) w
  off_both =
      let On : Seg → Type 0 = λ e. IsBetween e.a e.b w in
      off_all On (first ++ second) (All-append (λ e. ¬ On e) first second (all_off On first off_first) (all_off On second off_second))

  counted_both : count_by (is_counted w) (first ++ second) ≡ count_by (is_counted w) first + count_by (is_counted w) second
  counted_both = sum_by-append (λ e. if is_counted w e then 1 else 0) first second

  one_of_both : IsInside (first ++ second) w → ExactlyOne (IsInside first w) (IsInside second w)
  one_of_both inside =
      let sum = counted_both in
      let odd = inside.odd in
      elim (even_or_odd (count_by (is_counted w) first)) [
        | inl even ↦ inr ((λ first_inside. let first_odd = first_inside.odd in absurd (omega arith)), record { off_outline = off_second; odd = omega arith })
        | inr first_odd ↦ inl (record { off_outline = off_first; odd = first_odd }, (λ second_inside. let second_odd = second_inside.odd in absurd (omega arith)))
      ]

  both_of_one : ExactlyOne (IsInside first w) (IsInside second w) → IsInside (first ++ second) w
  both_of_one one = record {
    off_outline = off_both;
    odd =
        let sum = counted_both in
        elim one [
          | inl of ↦
              (let first_odd = of.0.odd in
              elim (even_or_odd (count_by (is_counted w) second)) [
                | inl even ↦ omega arith
                | inr odd ↦ absurd (of.1 (record { off_outline = off_second; odd = odd }))
              ])
          | inr of ↦
              (let second_odd = of.1.odd in
              elim (even_or_odd (count_by (is_counted w) first)) [
                | inl even ↦ omega arith
                | inr odd ↦ absurd (of.0 (record { off_outline = off_first; odd = odd }))
              ])
        ];
  }

pub two_drawings : TwoDrawingsLaw
two_drawings first second w off_first off_second =
    let Both : List Seg → Type 0 = λ edges. IsInside edges w in
    let same = flat_map-append edges_of_loop first second in (
      (λ inside. one_of_both w (edges_of first) (edges_of second) off_first off_second (subst Both same inside)),
      (λ one. subst Both (sym same) (both_of_one w (edges_of first) (edges_of second) off_first off_second one)),
    )
