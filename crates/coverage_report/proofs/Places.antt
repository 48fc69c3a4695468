-- Numbers of the grid at a pitch.
use mir.Syntax.{w32}
use mir.Val.{to_z}
use Rattle.std.specs.Prelude.{pos, ◌+ℤ◌, ℤ}
use Rattle.std.proofs.Common.{◌≡◌, ℕ, ◌*◌, ◌-◌, ◌<◌, ◌≤◌, arith, mul-le-mul_right}
use Rattle.std.proofs.lemmas.Int.{ints}
use Rattle.plane_exact.specs.Plane.{IsCoordinate}
use Rattle.plane_exact.proofs.Stored.{narrow}

module _ (x : ℤ) (pitch count : ℕ) (first : IsCoordinate x) (last : IsCoordinate (x +ℤ pos ((count - 1) * pitch))) (i : ℕ) (below : i < count) where
  not_behind : (i * pitch) ≤ ((count - 1) * pitch)
  not_behind = mul-le-mul_right pitch (omega arith)

  -- one of so many numbers at a pitch is on the grid where the first and the last are
  pub place_on : IsCoordinate (x +ℤ pos (i * pitch))
  place_on = let before = not_behind in let low = first.low in let high = last.high in record { low = omega (arith, ints); high = omega (arith, ints) }

  -- and the way to it is short
  pub way_short : (i * pitch) ≤ 65535
  way_short = let before = not_behind in let low = first.low in let high = last.high in omega (arith, ints)

  -- as the code has it
  pub place_stored : narrow (narrow x +ℤ to_z w32 (i * pitch)) ≡ x +ℤ pos (i * pitch)
  place_stored =
      let short = way_short in
      let on = place_on in
      let low = first.low in
      let high = first.high in
      let least = on.low in
      let most = on.high in
      omega (arith, ints)
