-- Places of a line that are near one another: where no edge is near, they are inside or outside together.
use Rattle.std.proofs.Common.{◌≡◌, inl, inr, ℕ, ◌<◌, List, ℤ, pos, neg_ℤ, ◌+ℤ◌, ◌↔◌, arith, refl, subst}
use Rattle.std.specs.Prelude.{max}
use Rattle.std.proofs.lemmas.Int.{ints, by_lt_z}
use Rattle.integer_algebra.specs.Ranges.{IsUpTo}
use Rattle.plane_exact.specs.Distance.{IsCloser}
use Rattle.plane_exact.specs.Plane.{GridPoint, RationalPoint, rational}
use Rattle.engrave_model.specs.Drawing.{edges_of}
use Rattle.engrave_model.specs.Inside.{IsInside, IsOnOutline}
use Rattle.evenodd_region.proofs.Discs.{centre_closer, way_closer}
use Rattle.evenodd_region.proofs.Rounds.{parity}
use Rattle.depth_rule.specs.Clearance.{IsClearance}
use Rattle.cleanup_pocket.specs.Floors.{point_on}
use Rattle.cleanup_pocket.specs.Walk.{IsBadAhead}
use Rattle.cleanup_pocket.specs.declared.axis.Axis.{Axis}
use Rattle.cleanup_pocket.specs.declared.axis.Axis.TheVariants as axis
use Rattle.cleanup_pocket.proofs.Places.{behind}
use Rattle.cleanup_pocket.proofs.Shifted.{IsBeside, closer_beside}

-- ---- places of a line

pub beside_on : (axis : Axis) (line place n : ℤ) → IsBeside (rational (point_on axis line (place +ℤ n))) (point_on axis line place) n
beside_on axis.X line place n = inl (omega (arith, ints), omega (arith, ints))
beside_on axis.Y line place n = inr (omega (arith, ints), omega (arith, ints))

pub beside_back : (axis : Axis) (line place n : ℤ) → IsBeside (rational (point_on axis line place)) (point_on axis line (place +ℤ n)) (neg_ℤ n)
beside_back axis.X line place n = inl (omega (arith, ints), omega (arith, ints))
beside_back axis.Y line place n = inr (omega (arith, ints), omega (arith, ints))

pub up_to : (n : ℕ) → IsUpTo (pos n) (pos n)
up_to n = record { low = omega (arith, ints); high = omega (arith, ints) }

pub up_to_back : (n : ℕ) → IsUpTo (pos n) (neg_ℤ (pos n))
up_to_back n = record { low = omega (arith, ints); high = omega (arith, ints) }

-- ---- points nearer than the clearance

module _ (loops : List (List GridPoint)) (p : GridPoint) (r : ℕ) (clear : IsClearance (edges_of loops) p r) where
  pub near_same : (w : RationalPoint) → IsCloser (pos r) (pos 1) (rational p) w → IsInside (edges_of loops) (rational p) ↔ IsInside (edges_of loops) w
  unfolding IsClearance
  near_same w close = parity loops (rational p) w (λ u on outline. clear u outline (way_closer (pos r) (pos 1) (rational p) w u on close))

  pub near_off : (w : RationalPoint) → IsCloser (pos r) (pos 1) (rational p) w → ¬ IsOnOutline (edges_of loops) w
  unfolding IsClearance
  near_off w close outline = clear w outline close

-- ---- places of a line near one of them

module _ (loops : List (List GridPoint)) (axis : Axis) (line place : ℤ) (r : ℕ) where
  abbrev at : ℤ → RationalPoint
  at place = rational (point_on axis line place)

  -- the place n farther is nearer than r
  place_near : (n : ℕ) → n < r → IsCloser (pos r) (pos 1) (at place) (at (place +ℤ pos n))
  place_near n below =
      closer_beside (pos 1) (pos 1) (pos r) (pos 1) (pos n) (pos n) (at (place +ℤ pos n)) (point_on axis line place) (at (place +ℤ pos n))
      (record {
        num_sign = omega (arith, ints);
        den_sign = omega (arith, ints);
        per_sign = omega (arith, ints);
        m_sign = omega (arith, ints);
        n_sign = omega (arith, ints);
        reach = omega (arith, ints);
      }) (up_to n) (beside_on axis line place (pos n))
      (centre_closer (pos 1) (pos 1) (at (place +ℤ pos n)) (at (place +ℤ pos n)) (omega (arith, ints)) (record { across = refl; up = refl }))

  module _ (clear : IsClearance (edges_of loops) (point_on axis line place) r) where
    -- no edge is between it and the place
    pub same_side : (n : ℕ) → n < r → IsInside (edges_of loops) (at place) ↔ IsInside (edges_of loops) (at (place +ℤ pos n))
    same_side n below = near_same loops (point_on axis line place) r clear (at (place +ℤ pos n)) (place_near n below)

    -- where a place is outside and no edge is near, the next places are outside too, and so they aren't good
    pub outside_ahead : (Good : ℤ → Type 0) → ((t : ℤ) → Good t → IsInside (edges_of loops) (at t)) → (n : ℕ) → ¬ IsInside (edges_of loops) (at place) → n ≡ max r 1
        → IsBadAhead Good place n
    outside_ahead Good inside n outside is = record {
      bad = λ t from to good.
          let way = behind place t from in
          let there = way.is in
          by_lt_z place t
          (λ later. let near : way.steps < r = omega (arith, ints) in outside ((same_side way.steps near).1 (inside _ (subst Good there good))))
          (λ here. let same : t ≡ place = omega (arith, ints) in outside (inside _ (subst Good same good)));
      good = λ none. absurd (omega arith);
    }
