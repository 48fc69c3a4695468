-- The box round strokes that the bit may cut in.
use Rattle.std.specs.Prelude.{◌≡◌, ℕ, ◌*◌, List, [], ◌∷◌, flat_map, ℤ, pos, negsuc, ◌+ℤ◌, ◌-ℤ◌}
use Rattle.std.specs.Int.{div_ceil, int_max, int_min}
use Rattle.plane_exact.specs.Cone.{Cone}
use Rattle.plane_exact.specs.Plane.{GridPoint}
use Rattle.plane_exact.specs.declared.point.Seg.{Seg}
use Rattle.evenodd_region.specs.Bounds.{IsBoxOf}

-- both ends of each stroke
abbrev pub ends_of : List Seg → List GridPoint
ends_of strokes = flat_map (λ stroke. stroke.a ∷ stroke.b ∷ []) strokes

-- the least whole number that is at least the disc's radius, sn depth / sd
abbrev pub reach_of : Cone → (depth : ℕ) → ℕ
reach_of cone depth = div_ceil (cone.sn * depth) cone.sd

-- the coordinate that is nearest to z, from -32768 to 32767
abbrev pub to_coordinate : ℤ → ℤ
to_coordinate z = int_max (negsuc 32767) (int_min z (pos 32767))

-- the box of the strokes' ends, widened on each side by the reach and cut to the coordinates
pub record IsStrokeBox (cone : Cone) (depth : ℕ) (strokes : List Seg) (low high : GridPoint) : Type 0 where
  pub first : GridPoint
  pub last : GridPoint
  pub ends : IsBoxOf (ends_of strokes) first last
  pub lower : low ≡ record { x = to_coordinate (first.x -ℤ pos (reach_of cone depth)); y = to_coordinate (first.y -ℤ pos (reach_of cone depth)) }
  pub upper : high ≡ record { x = to_coordinate (last.x +ℤ pos (reach_of cone depth)); y = to_coordinate (last.y +ℤ pos (reach_of cone depth)) }
