-- The deepest depth: the bit isn't too wide there, it is allowed, and no greater depth is both.
use Rattle.std.proofs.Common.{ℕ, ◌*◌, ◌/◌, ◌≤◌, List, min, arith, inl, inr}
use Rattle.std.proofs.Math.Nat.{le-div_iff_mul-le, le-min, min-le_left, min-le_right, mul-div-le, mul-le-mul_left}
use Rattle.plane_exact.specs.Cone.{Cone}
use Rattle.plane_exact.specs.Plane.{GridPoint, rational}
use Rattle.plane_exact.specs.declared.point.Seg.{Seg}
use Rattle.engrave_model.specs.Depth.{IsDiscClear, IsGreatestDepth}
use Rattle.engrave_model.specs.Inside.{IsInside}
use Rattle.depth_rule.specs.Deepest.{deepest_of}
use Rattle.depth_rule.specs.Greatest.{IsGreatestUpTo}

module _ (cone : Cone) (limit : ℕ) where
  pub deepest_narrow : cone.sn * deepest_of cone limit ≤ cone.sd * cone.rmax
  deepest_narrow =
      let widest = cone.sd * cone.rmax / cone.sn in
      let less : cone.sn * min limit widest ≤ cone.sn * widest = mul-le-mul_left cone.sn (min-le_right limit widest) in
      let whole : cone.sn * widest ≤ cone.sd * cone.rmax = mul-div-le (cone.sd * cone.rmax) cone.sn in
      omega arith

  pub deepest_allowed : deepest_of cone limit ≤ limit
  deepest_allowed = min-le_left limit (cone.sd * cone.rmax / cone.sn)

  module _ (some : 1 ≤ cone.sn) where
    pub deepest_greatest : (z : ℕ) → z ≤ limit → cone.sn * z ≤ cone.sd * cone.rmax → z ≤ deepest_of cone limit
    deepest_greatest z allowed narrow = le-min allowed ((le-div_iff_mul-le (omega arith)).1 (omega arith))

    -- where p is inside, the greatest clear depth up to the deepest is the greatest that fits
    pub deepest_fits : (edges : List Seg) (p : GridPoint) (z : ℕ) → IsInside edges (rational p) → IsGreatestUpTo (IsDiscClear edges cone p) (deepest_of cone limit) z
        → IsGreatestDepth edges cone limit p z
    deepest_fits edges p z inside here =
        let within = here.within in
        let allowed = deepest_allowed in
        let less : cone.sn * z ≤ cone.sn * deepest_of cone limit = mul-le-mul_left cone.sn within in
        let narrow = deepest_narrow in
        record {
          fits = inr (record { narrow = omega arith; allowed = omega arith; inside = inside; clear = here.has });
          greatest = λ y fits.
              elim fits [
                | inl none ↦ omega arith
                | inr clear ↦ here.greatest y (deepest_greatest y clear.allowed clear.narrow) clear.clear
              ];
        }
