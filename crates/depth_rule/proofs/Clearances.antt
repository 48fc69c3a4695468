-- The clearance of a point is the greatest clear depth of the bit whose radius is its depth.
use Rattle.std.proofs.Common.{◌≡◌, ℕ, ◌*◌, List, pos, arith, ap, subst, ◌∙◌}
use Rattle.std.proofs.lemmas.Int.{ints}
use Rattle.plane_exact.specs.Cone.{Cone}
use Rattle.plane_exact.specs.Distance.{IsAtLeastApart, IsCloser}
use Rattle.plane_exact.specs.Plane.{GridPoint, rational}
use Rattle.plane_exact.specs.declared.point.Seg.{Seg}
use Rattle.engrave_model.specs.Depth.{IsDiscClear}
use Rattle.engrave_model.proofs.Discs.{outside_apart}
use Rattle.depth_rule.specs.Clearance.{IsClearance}
use Rattle.depth_rule.specs.Greatest.{IsGreatestUpTo}

module _ (edges : List Seg) (cone : Cone) (p : GridPoint) (slope : cone.sn ≡ 1) (over : cone.sd ≡ 1) where
  radius_is : (z : ℕ) → cone.sn * z ≡ z
  radius_is z = ap (λ n. n * z) slope ∙ omega arith

  over_once : cone.sd * 1 ≡ 1
  over_once = omega arith

  clear_at : (z : ℕ) → IsClearance edges p z → IsDiscClear edges cone p z
  unfolding IsClearance IsDiscClear
  clear_at z clear w on inside =
      clear w on (subst (λ d. IsCloser (pos z) (pos d) (rational p) w) over_once
      (subst (λ r. IsCloser (pos r) (pos (cone.sd * 1)) (rational p) w) (radius_is z) inside.close))

  clearance_at : (z : ℕ) → IsDiscClear edges cone p z → IsClearance edges p z
  unfolding IsClearance IsDiscClear
  clearance_at z clear w on close =
      let apart = outside_apart cone z (rational p) w (clear w on) in
      let far : IsAtLeastApart (pos z) (pos 1) (rational p) w =
      subst (λ d. IsAtLeastApart (pos z) (pos d) (rational p) w) over (subst (λ r. IsAtLeastApart (pos r) (pos cone.sd) (rational p) w) (radius_is z) apart)
      in
      absurd (omega (arith, ints))

  pub clearance_is : (most z : ℕ) → IsGreatestUpTo (IsDiscClear edges cone p) most z → IsGreatestUpTo (IsClearance edges p) most z
  clearance_is most z here = record {
    has = clearance_at z here.has;
    within = here.within;
    greatest = λ y within clear. here.greatest y within (clear_at y clear);
  }
