-- Ways in tenths and their products, as the code makes them.
use mir.Syntax.{w32, w64}
use Rattle.std.proofs.Common.{◌≡◌, ℕ, ℤ, pos, ◌+ℤ◌, ◌-ℤ◌, ◌*ℤ◌, arith, lit<, ap₂, ◌∙◌}
use Rattle.std.proofs.lemmas.Int.{ints}
use Rattle.plane_exact.specs.Plane.{IsCoordinate}
use Rattle.plane_exact.specs.Heights.{IsFineCoordinate}
use Rattle.swept_move.specs.Range.{IsFineProduct, IsFineWay}
use Rattle.integer_algebra.specs.Ranges.{IsUpTo}
use Rattle.swept_move.proofs.Widths.{IsRead, answer, called, held, minus, plain, read, times}

abbrev pub read_way : {z : ℤ} → IsFineWay z → IsRead 655350 (held w64 z) z
read_way on = read w64 (plain on) (lit< tt)

-- ---- differences of coordinates

fine_difference : (x y : ℤ) → IsFineCoordinate x → IsFineCoordinate y → IsUpTo (pos 655350) (x -ℤ y)
fine_difference x y on_x on_y = record { low = omega (arith, ints); high = omega (arith, ints) }

-- the difference of two coordinates in tenths, which the code has as u and v
pub taken : {m n : ℕ} {u v x y : ℤ} → IsRead m u x → IsRead n v y → IsFineCoordinate x → IsFineCoordinate y → IsRead 655350 (held w64 (u -ℤ v)) (x -ℤ y)
taken {x = x} {y = y} p q on_x on_y = read w64 (record { value = (minus p q).value; within = fine_difference x y on_x on_y }) (lit< tt)

-- a coordinate of a spot
pub fine : {z : ℤ} → IsFineCoordinate z → IsRead 327680 (held w64 (held w32 z)) z
fine on = read w64 (read w32 (plain (let low = on.low in let high = on.high in record { low = omega (arith, ints); high = omega (arith, ints) })) (lit< tt)) (lit< tt)

-- ten times a coordinate of a grid point, which a call answered
tenfold_read : {r x : ℤ} → IsCoordinate x → r ≡ x → IsRead 327680 (held w64 (pos 10 *ℤ held w64 (held w32 r))) (pos 10 *ℤ x)
tenfold_read {x = x} on e =
    let grid : IsUpTo (pos 32768) x = let low = on.low in let high = on.high in record { low = omega (arith, ints); high = omega (arith, ints) } in
    let ten : IsUpTo (pos 10) (pos 10) = record { low = record { le = tt }; high = record { le = tt } } in
    read w64 (times (plain ten) (read w64 (read w32 (called (plain grid) e) (lit< tt)) (lit< tt))) (lit< tt)

tenfold_fine : {x : ℤ} → IsCoordinate x → IsFineCoordinate (pos 10 *ℤ x)
tenfold_fine on = let low = on.low in let high = on.high in record { low = omega (arith, ints); high = omega (arith, ints) }

-- one coordinate of the way from a grid point to a spot, and of the way from one grid point to another
pub away : {z x r : ℤ} → IsFineCoordinate z → IsCoordinate x → r ≡ x → IsRead 655350 (held w64 (held w64 (held w32 z) -ℤ held w64 (pos 10 *ℤ held w64 (held w32 r)))) (z -ℤ pos 10 *ℤ x)
away on_z on_x e = taken (fine on_z) (tenfold_read on_x e) on_z (tenfold_fine on_x)

pub along : {x y r t : ℤ} → IsCoordinate x → r ≡ x → IsCoordinate y → t ≡ y
    → IsRead 655350 (held w64 (held w64 (pos 10 *ℤ held w64 (held w32 r)) -ℤ held w64 (pos 10 *ℤ held w64 (held w32 t)))) (pos 10 *ℤ x -ℤ pos 10 *ℤ y)
along on_x e on_y f = taken (tenfold_read on_x e) (tenfold_read on_y f) (tenfold_fine on_x) (tenfold_fine on_y)

-- the product of two ways, as a call answered it, by what the ways are
pub dot_answer : {r u v g h x y X Y : ℤ} → IsFineProduct r → r ≡ u *ℤ g +ℤ v *ℤ h → u ≡ x → v ≡ y → g ≡ X → h ≡ Y → held w64 r ≡ x *ℤ X +ℤ y *ℤ Y
dot_answer {u = u} {v = v} {X = X} {Y = Y} on e eu ev eg eh =
    answer w64 on e (lit< tt) ∙ ap₂ (λ g h. u *ℤ g +ℤ v *ℤ h) eg eh ∙ ap₂ (λ x y. x *ℤ X +ℤ y *ℤ Y) eu ev
