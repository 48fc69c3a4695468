-- The points of an arc that is halved ten times stay in the range of such points: bounds of the ends' numbers, of their differences and
-- of the bulge, stage by stage.
use Rattle.std.proofs.Common.{ℕ, zero, suc, ◌+◌, ◌*◌, ◌/◌, ◌≤◌, min, ℤ, pos, negsuc, ◌+ℤ◌, ◌-ℤ◌, ◌*ℤ◌, arith, lit≤}
use Rattle.std.proofs.lemmas.Int.{ints}
use Rattle.std.proofs.Math.Nat.{div-le_of_le-mul, mul-le-mul_left, mul-div-le}
use Rattle.integer_algebra.specs.Ranges.{IsUpTo}
use Rattle.integer_algebra.proofs.Order.{product_up_to}
use Rattle.grid_num.specs.Root.{isqrt_of}
use Rattle.arc_flatten.specs.Bulges.{apex_of, half_bulge_of, half_size_of, halvings_within, middle_of}
use Rattle.arc_flatten.specs.Halves.{StaysFine, bulges_of, halved_bulges}
use Rattle.arc_flatten.specs.Points.{AreFine, FinePoint, IsPointUpTo}
use Rattle.arc_flatten.proofs.Roots.{le-isqrt_of}
use Rattle.arc_flatten.proofs.Bounded.{IsFloor, floor_is}
use Rattle.arc_flatten.proofs.Steps.{halvings_within-le}

-- ---- bounds

-- of the size of the ends' numbers, of their differences and of the bulge
pub record Bounds : Type 0 where
  pub place : ℕ
  pub way : ℕ
  pub bulge : ℕ

-- those of the halves
abbrev pub halved : Bounds → Bounds
halved m = record { place = m.place + m.bulge * m.way / 2147483648 + 1; way = m.way * (1073741824 + m.bulge) / 2147483648 + 2; bulge = min (m.bulge / 2) 1073741824 }

abbrev pub halved_often : ℕ → Bounds → Bounds
halved_often zero m = m
halved_often (suc n) m = halved_often n (halved m)

place-le : (n : ℕ) (m : Bounds) → m.place ≤ (halved_often n m).place
place-le zero m = omega arith
place-le (suc n) m = omega (arith, place-le n (halved m))

place-le-more : (n k : ℕ) (m : Bounds) → n ≤ k → (halved_often n m).place ≤ (halved_often k m).place
place-le-more zero k m few = place-le k m
place-le-more (suc n) zero m few = absurd (omega arith)
place-le-more (suc n) (suc k) m few = place-le-more n k (halved m) (omega arith)

widest : Bounds
widest = record { place = 100000000; way = 200000000; bulge = 10737418240000 }

-- after ten halvings of the widest arc
place_in_range : (n : ℕ) → n ≤ 10 → (halved_often n widest).place ≤ 2000000000000
unfolding widest
place_in_range n few = let last : (halved_often 10 widest).place ≤ 2000000000000 = lit≤ tt in omega (arith, place-le-more n 10 widest few)

-- ---- half a bulge

half_size_of-le : (b : ℕ) → (half_size_of b ≤ b / 2) × (half_size_of b ≤ 1073741824)
half_size_of-le b = (half, one)
  where
    half : half_size_of b ≤ b / 2
    half =
        let floor : (1073741824 + isqrt_of (1152921504606846976 + b * b)) * half_size_of b ≤ b * 1073741824 = mul-div-le _ _ in
        let wide : 2147483648 ≤ 1073741824 + isqrt_of (1152921504606846976 + b * b) = omega (arith, le-isqrt_of (1152921504606846976 + b * b) 1073741824 (omega arith)) in
        let part : half_size_of b * 2147483648 ≤ half_size_of b * (1073741824 + isqrt_of (1152921504606846976 + b * b)) = mul-le-mul_left _ wide in
        omega arith

    one : half_size_of b ≤ 1073741824
    one =
        let over : b ≤ isqrt_of (1152921504606846976 + b * b) = le-isqrt_of _ b (omega arith) in
        div-le_of_le-mul (1073741824 + isqrt_of (1152921504606846976 + b * b)) (omega arith)

half_bulge_of-range : (most : ℕ) (b : ℤ) → IsUpTo (pos most) b → IsUpTo (pos (min (most / 2) 1073741824)) (half_bulge_of b)
unfolding half_bulge_of
half_bulge_of-range most (pos n) range =
    let high = range.high in
    let half = half_size_of-le n in
    record { low = omega (arith, ints); high = omega (arith, ints) }
half_bulge_of-range most (negsuc n) range =
    let low = range.low in
    let half = half_size_of-le (suc n) in
    record { low = omega (arith, ints); high = omega (arith, ints) }

-- ---- one halving

-- the numbers of the ends, and their differences
record AreEnds (place way : ℕ) (p q : FinePoint) : Type 0 where
  pub first : IsPointUpTo place p
  pub last : IsPointUpTo place q
  pub across : IsUpTo (pos way) (q.x -ℤ p.x)
  pub up : IsUpTo (pos way) (q.y -ℤ p.y)

-- a middle between two numbers, and its differences from them
record IsMiddle (place way : ℕ) (u v f : ℤ) : Type 0 where
  pub within : IsUpTo (pos place) f
  pub before : IsUpTo (pos way) (f -ℤ u)
  pub behind : IsUpTo (pos way) (v -ℤ f)

middle_range : (m : Bounds) (u v t f : ℤ) → IsUpTo (pos m.place) u → IsUpTo (pos m.place) v → IsUpTo (pos m.way) (v -ℤ u) → IsUpTo (pos (m.bulge * m.way)) t
    → IsFloor (pos 1073741824 *ℤ (u +ℤ v) +ℤ t) f → IsMiddle (halved m).place (halved m).way u v f
middle_range m u v t f on_u on_v way moved floor = record {
  within = record { low = omega (arith, ints); high = omega (arith, ints) };
  before = record { low = omega (arith, ints); high = omega (arith, ints) };
  behind = record { low = omega (arith, ints); high = omega (arith, ints) };
}

middle_of-range : (m : Bounds) (u v from to b : ℤ) → IsUpTo (pos m.place) u → IsUpTo (pos m.place) v → IsUpTo (pos m.way) (v -ℤ u) → IsUpTo (pos m.way) (to -ℤ from) → IsUpTo (pos m.bulge) b
    → IsMiddle (halved m).place (halved m).way u v (middle_of u v from to b)
unfolding middle_of
middle_of-range m u v from to b on_u on_v way other bulge = middle_range m u v (b *ℤ (to -ℤ from)) _ on_u on_v way (product_up_to (pos m.bulge) (pos m.way) b (to -ℤ from) bulge other) (floor_is _)

-- the two halves of an arc
record AreHalves (m : Bounds) (p apex q : FinePoint) : Type 0 where
  pub first : AreEnds m.place m.way p apex
  pub second : AreEnds m.place m.way apex q

halves_range : (m : Bounds) (p q : FinePoint) (b : ℤ) → AreEnds m.place m.way p q → IsUpTo (pos m.bulge) b → AreHalves (halved m) p (apex_of p q b) q
halves_range m p q b ends bulge =
    let turned : IsUpTo (pos m.way) (p.x -ℤ q.x) = let low = ends.across.low in let high = ends.across.high in record { low = omega (arith, ints); high = omega (arith, ints) } in
    let x = middle_of-range m p.x q.x p.y q.y b ends.first.across ends.last.across ends.across ends.up bulge in
    let y = middle_of-range m p.y q.y q.x p.x b ends.first.up ends.last.up ends.up turned bulge in
    let apex : IsPointUpTo (halved m).place (apex_of p q b) = record { across = x.within; up = y.within } in
    record {
      first = record { first = wider p ends.first; last = apex; across = x.before; up = y.before };
      second = record { first = apex; last = wider q ends.last; across = x.behind; up = y.behind };
    }
  where
    wider_number : (z : ℤ) → IsUpTo (pos m.place) z → IsUpTo (pos (halved m).place) z
    wider_number z on = let low = on.low in let high = on.high in record { low = omega (arith, ints); high = omega (arith, ints) }

    wider : (p : FinePoint) → IsPointUpTo m.place p → IsPointUpTo (halved m).place p
    wider p on = record { across = wider_number p.x on.across; up = wider_number p.y on.up }

-- ---- all of them

fine_number : (most : ℕ) (z : ℤ) → IsUpTo (pos most) z → most ≤ 2000000000000 → IsUpTo (pos 2000000000000) z
fine_number most z on below = let low = on.low in let high = on.high in record { low = omega (arith, ints); high = omega (arith, ints) }

fine_point : (most : ℕ) (p : FinePoint) → IsPointUpTo most p → most ≤ 2000000000000 → AreFine p.x p.y
fine_point most p on below = record { across = fine_number most p.x on.across below; up = fine_number most p.y on.up below }

stays_fine : (n : ℕ) (m : Bounds) (p q : FinePoint) (b : ℤ) → AreEnds m.place m.way p q → IsUpTo (pos m.bulge) b → (halved_often n m).place ≤ 2000000000000 → StaysFine (bulges_of n b) p q
stays_fine zero m p q b ends bulge last = tt
stays_fine (suc n) m p q b ends bulge last =
    let halves = halves_range m p q b ends bulge in
    let apex = apex_of p q b in
    let half = half_bulge_of-range m.bulge b bulge in
    let below : (halved m).place ≤ 2000000000000 = omega (arith, place-le n (halved m)) in (
      fine_point (halved m).place apex halves.first.last below,
      stays_fine n (halved m) p apex (half_bulge_of b) halves.first half last,
      stays_fine n (halved m) apex q (half_bulge_of b) halves.second half last,
    )

StaysFine-from_bounds : (n : ℕ) (p q : FinePoint) (b : ℤ) → n ≤ 10 → IsPointUpTo 100000000 p → IsPointUpTo 100000000 q → IsUpTo (pos 10737418240000) b → StaysFine (bulges_of n b) p q
unfolding widest
StaysFine-from_bounds n p q b few first last bulge = stays_fine n widest p q b ends bulge (place_in_range n few)
  where
    difference : (z y : ℤ) → IsUpTo (pos 100000000) z → IsUpTo (pos 100000000) y → IsUpTo (pos 200000000) (z -ℤ y)
    difference z y on_z on_y = record { low = omega (arith, ints); high = omega (arith, ints) }

    ends : AreEnds 100000000 200000000 p q
    ends = record { first = first; last = last; across = difference q.x p.x last.across first.across; up = difference q.y p.y last.up first.up }

pub StaysFine-halved : (way : ℤ × ℤ) (p q : FinePoint) (b : ℤ) → IsPointUpTo 100000000 p → IsPointUpTo 100000000 q → IsUpTo (pos 10737418240000) b → StaysFine (halved_bulges 10 way b) p q
unfolding halved_bulges
StaysFine-halved way p q b first last bulge = StaysFine-from_bounds (halvings_within 10 way b) p q b (halvings_within-le 10 way b) first last bulge
