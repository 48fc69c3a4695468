-- Where the axis of a flat bit has room, all that the bit mills no deeper than the deepest allowed depth is in the target.
use Rattle.std.specs.Prelude.{◌↔◌}
use Rattle.std.proofs.Common.{◌≡◌, ℕ, ◌≤◌, ℤ, pos, ◌+ℤ◌, ◌-ℤ◌, ◌*ℤ◌, ◌≤ℤ◌, ◌<ℤ◌, List, [], ◌∷◌, arith, ap, refl, subst, sym, ◌∙◌}
use Rattle.std.proofs.lemmas.Int.{ints}
use Rattle.std.proofs.Math.Nat.{mul-le-mul_left, mul-pos}
use Rattle.integer_algebra.proofs.Order.{square_lt, times_le, times_lt, times_nonneg, times_pos}
use Rattle.integer_algebra.proofs.Ring.{ring, V, K, ◌⊕◌, ◌⊖◌, ◌⊗◌}
use Rattle.plane_exact.specs.Cone.{Cone}
use Rattle.plane_exact.specs.Distance.{IsCloser, square}
use Rattle.plane_exact.specs.Plane.{GridPoint, IsBetween, RationalPoint, rational}
use Rattle.plane_exact.specs.declared.point.Seg.{Seg}
use Rattle.engrave_model.specs.Drawing.{edges_of}
use Rattle.engrave_model.specs.Inside.{IsInside}
use Rattle.evenodd_region.proofs.Discs.{centre_closer, way_closer}
use Rattle.evenodd_region.proofs.Rounds.{parity}
use Rattle.depth_rule.specs.Deepest.{deepest_of}
use Rattle.depth_rule.proofs.DeepestDepths.{deepest_allowed, deepest_narrow}
use Rattle.cleanup_pocket.specs.Floors.{point_on}
use Rattle.cleanup_pocket.specs.declared.axis.Axis.{Axis}
use Rattle.cleanup_pocket.specs.declared.axis.Axis.TheVariants as axis
use Rattle.flat_bit.specs.Apart.{IsApart}
use Rattle.flat_bit.specs.Flat.{IsFlatGood, IsFlatWay, flat_reach}
use Rattle.flat_bit.specs.Target.{Depth, IsInTarget}
use Rattle.flat_bit.proofs.Nearer.{closer_by_two, closer_farther, shorter_by}

-- ---- numbers

-- from a place to a point at k / n of the way to the next place
next_along : (n k o u x : ℤ) → n *ℤ u ≡ o *ℤ (n *ℤ x +ℤ k *ℤ (x +ℤ pos 1 -ℤ x)) → (pos 1 *ℤ o) *ℤ k ≡ n *ℤ (u *ℤ pos 1 -ℤ x *ℤ o)
next_along n k o u x is =
    ring (n ∷ k ∷ o ∷ x ∷ []) ((K (pos 1) ⊗ V 2) ⊗ V 1) (V 2 ⊗ (V 0 ⊗ V 3 ⊕ V 1 ⊗ (V 3 ⊕ K (pos 1) ⊖ V 3)) ⊖ V 0 ⊗ (V 3 ⊗ V 2)) tt
    ∙ ap (λ z. z -ℤ n *ℤ (x *ℤ o)) (sym is)
    ∙ ring (n ∷ o ∷ u ∷ x ∷ []) (V 0 ⊗ V 2 ⊖ V 0 ⊗ (V 3 ⊗ V 1)) (V 0 ⊗ (V 2 ⊗ K (pos 1) ⊖ V 3 ⊗ V 1)) tt

next_across : (n k o u y : ℤ) → n *ℤ u ≡ o *ℤ (n *ℤ y +ℤ k *ℤ (y -ℤ y)) → (pos 1 *ℤ o) *ℤ pos 0 ≡ n *ℤ (u *ℤ pos 1 -ℤ y *ℤ o)
next_across n k o u y is =
    ring (n ∷ k ∷ o ∷ y ∷ []) ((K (pos 1) ⊗ V 2) ⊗ K (pos 0)) (V 2 ⊗ (V 0 ⊗ V 3 ⊕ V 1 ⊗ (V 3 ⊖ V 3)) ⊖ V 0 ⊗ (V 3 ⊗ V 2)) tt
    ∙ ap (λ z. z -ℤ n *ℤ (y *ℤ o)) (sym is)
    ∙ ring (n ∷ o ∷ u ∷ y ∷ []) (V 0 ⊗ V 2 ⊖ V 0 ⊗ (V 3 ⊗ V 1)) (V 0 ⊗ (V 2 ⊗ K (pos 1) ⊖ V 3 ⊗ V 1)) tt

-- k / n, which is at most 1, is shorter than r / d, which is more
part_short : (r d n k : ℤ) → pos 0 <ℤ d → d <ℤ r → pos 0 <ℤ n → pos 0 ≤ℤ k → k ≤ℤ n → (square k *ℤ square d) <ℤ (square r *ℤ square n)
part_short r d n k d_some wide n_some start finish =
    let first = times_le d k n (omega (arith, ints)) finish in
    let second = times_lt n d r n_some wide in
    let turn = ring (d ∷ n ∷ []) (V 0 ⊗ V 1) (V 1 ⊗ V 0) tt in
    let whole = square_lt (d *ℤ k) (n *ℤ r) (times_nonneg d k (omega (arith, ints)) start) (omega (arith, ints)) in
    let left = ring (d ∷ k ∷ []) ((V 1 ⊗ V 1) ⊗ (V 0 ⊗ V 0)) ((V 0 ⊗ V 1) ⊗ (V 0 ⊗ V 1)) tt in
    let right = ring (r ∷ n ∷ []) ((V 0 ⊗ V 0) ⊗ (V 1 ⊗ V 1)) ((V 1 ⊗ V 0) ⊗ (V 1 ⊗ V 0)) tt in
    omega (arith, ints)

-- ---- points

-- points nearer than the edges are alike
apart_same : (loops : List (List GridPoint)) (reach over : ℕ) (v w : RationalPoint) → IsApart (edges_of loops) reach over v → IsCloser (pos reach) (pos over) v w
    → IsInside (edges_of loops) v ↔ IsInside (edges_of loops) w
apart_same loops reach over v w apart close = parity loops v w (λ u on outline. apart u outline (way_closer (pos reach) (pos over) v w u on close))

-- a point of the way to the next place is near
next_closer : (r d : ℤ) (axis : Axis) (line place : ℤ) (u : RationalPoint) → pos 0 <ℤ d → d <ℤ r → IsBetween (point_on axis line place) (point_on axis line (place +ℤ pos 1)) u
    → IsCloser r d (rational (point_on axis line place)) u
next_closer r d axis.X line place u d_some wide on =
    let n_some = on.at.some in
    let u_over = u.positive in
    let short = part_short r d on.at.n on.at.k d_some wide (omega (arith, ints)) on.at.start on.at.finish in
    let k = on.at.k in
    let plain = ring (k ∷ d ∷ []) ((V 0 ⊗ V 0 ⊕ K (pos 0) ⊗ K (pos 0)) ⊗ (V 1 ⊗ V 1)) ((V 0 ⊗ V 0) ⊗ (V 1 ⊗ V 1)) tt in
    shorter_by r d (pos 1 *ℤ u.over) on.at.n k (pos 0) _ _ (omega (arith, ints))
    (next_along on.at.n k u.over u.x place on.across) (next_across on.at.n k u.over u.y line on.up) (omega (arith, ints))
next_closer r d axis.Y line place u d_some wide on =
    let n_some = on.at.some in
    let u_over = u.positive in
    let short = part_short r d on.at.n on.at.k d_some wide (omega (arith, ints)) on.at.start on.at.finish in
    let k = on.at.k in
    let plain = ring (k ∷ d ∷ []) ((K (pos 0) ⊗ K (pos 0) ⊕ V 0 ⊗ V 0) ⊗ (V 1 ⊗ V 1)) ((V 0 ⊗ V 0) ⊗ (V 1 ⊗ V 1)) tt in
    shorter_by r d (pos 1 *ℤ u.over) on.at.n (pos 0) k _ _ (omega (arith, ints))
    (next_across on.at.n k u.over u.x line on.across) (next_along on.at.n k u.over u.y place on.up) (omega (arith, ints))

-- the axis of the bit may be over u: it is inside, and as far from every edge as it must be
pub record HasRoom (edges : List Seg) (cone : Cone) (limit radius : ℕ) (u : RationalPoint) : Type 0 where
  pub inside : IsInside edges u
  pub apart : IsApart edges (flat_reach cone radius (deepest_of cone limit)) cone.sd u

module _ (loops : List (List GridPoint)) (cone : Cone) (limit radius : ℕ) (steep : 1 ≤ cone.sn) (over : 1 ≤ cone.sd) (some : 1 ≤ radius) where
  abbrev edges : List Seg
  edges = edges_of loops

  abbrev deepest : ℕ
  deepest = deepest_of cone limit

  abbrev reach : ℕ
  reach = flat_reach cone radius deepest

  abbrev Room : RationalPoint → Type 0
  Room = HasRoom edges cone limit radius

  pub good_room : (axis : Axis) (line place : ℤ) → IsFlatGood edges cone limit radius axis line place → Room (rational (point_on axis line place))
  good_room axis line place good = record { inside = good.inside; apart = good.apart }

  -- between a good place and the next
  pub way_room : 1 ≤ deepest → (axis : Axis) (line place : ℤ) (u : RationalPoint) → IsFlatGood edges cone limit radius axis line place → IsFlatWay edges cone limit radius axis line place
      → IsBetween (point_on axis line place) (point_on axis line (place +ℤ pos 1)) u → Room u
  way_room deep axis line place u good way on = record {
    inside =
        (apart_same loops reach cone.sd (rational (point_on axis line place)) u good.apart
        (next_closer (pos reach) (pos cone.sd) axis line place u (omega (arith, ints))
        (let more = mul-le-mul_left cone.sd some in let wide = mul-pos steep deep in omega (arith, ints)) on)).0 good.inside;
    apart = way u on;
  }

  -- all nearer than the radius has the bit's disc at the deepest depth off the edges
  disc_off : (u w v : RationalPoint) → IsCloser (pos radius) (pos 1) u w → IsCloser (pos cone.sn *ℤ pos deepest) (pos cone.sd *ℤ pos 1) w v → IsCloser (pos reach) (pos cone.sd) u v
  disc_off u w v near disc =
      let both = closer_by_two (pos radius) (pos cone.sn *ℤ pos deepest) (pos cone.sd *ℤ pos 1) u w v (omega (arith, ints)) (omega (arith, ints)) (omega (arith, ints)) near disc in
      let is : pos radius *ℤ (pos cone.sd *ℤ pos 1) +ℤ pos cone.sn *ℤ pos deepest ≡ pos reach = omega (arith, ints) in
      let over_is : pos cone.sd *ℤ pos 1 ≡ pos cone.sd = omega (arith, ints) in
      subst (λ d. IsCloser (pos reach) d u v) over_is (subst (λ r. IsCloser r (pos cone.sd *ℤ pos 1) u v) is both)

  -- what is milled is in the target
  pub room_target : (u w : RationalPoint) (depth : Depth) → Room u → IsCloser (pos radius) (pos 1) u w → depth.t <ℤ (pos deepest *ℤ depth.over) → IsInTarget edges cone limit w depth
  room_target u w depth room near below =
      let narrow = deepest_narrow cone limit in
      let allowed = deepest_allowed cone limit in
      record {
        place = w;
        tip = record { t = pos deepest; over = pos 1; least = omega (arith, ints); positive = omega (arith, ints) };
        deeper = omega (arith, ints);
        narrow = omega (arith, ints);
        allowed = omega (arith, ints);
        inside =
            (apart_same loops reach cone.sd u w room.apart
            (closer_farther (pos radius) (pos reach) (pos cone.sd) u w (omega (arith, ints)) (omega (arith, ints)) (omega (arith, ints)) near)).0 room.inside;
        clear = λ v outline disc. room.apart v outline (disc_off u w v near disc.close);
        close =
            centre_closer (pos cone.sn *ℤ (pos deepest *ℤ depth.over -ℤ depth.t *ℤ pos 1)) (pos cone.sd *ℤ (pos 1 *ℤ depth.over)) w w
            (times_pos (pos cone.sn) (pos deepest *ℤ depth.over -ℤ depth.t *ℤ pos 1) (omega (arith, ints)) (omega (arith, ints)))
            (record { across = refl; up = refl });
      }
