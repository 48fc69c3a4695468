-- Points of an arc between two ends that is given by its bulge, 2^30 times the tangent of a quarter of its angle.
use Rattle.std.specs.Prelude.{ℕ, zero, suc, ◌+◌, ◌*◌, ◌/◌, Bool, if◌then◌else◌, List, [], ◌∷◌, ◌++◌, ℤ, pos, negsuc, neg_ℤ, ◌+ℤ◌, ◌-ℤ◌, ◌*ℤ◌, int_le, unsigned_abs}
use Rattle.std.specs.Int.{int_div_euclid}
use Rattle.grid_num.specs.Root.{isqrt_of}
use Rattle.arc_flatten.specs.Directions.{direction_of}
use Rattle.arc_flatten.specs.Points.{FinePoint}

-- the bulge of half the arc, for one that isn't negative
abbrev pub half_size_of : ℕ → ℕ
half_size_of b = b * 1073741824 / (1073741824 + isqrt_of (1152921504606846976 + b * b))

-- the bulge of half the arc, of either sign
unfoldable pub half_bulge_of : ℤ → ℤ
half_bulge_of (pos b) = pos (half_size_of b)
half_bulge_of (negsuc b) = neg_ℤ (pos (half_size_of (suc b)))

-- halfway between u and v, moved by half of the bulge times the difference of `from` and `to`, rounded down
unfoldable pub middle_of : (u v from to b : ℤ) → ℤ
middle_of u v from to b = int_div_euclid (pos 1073741824 *ℤ (u +ℤ v) +ℤ b *ℤ (to -ℤ from)) (pos 2147483648)

-- the middle of the arc from p to q. Its y is moved against the difference of x, and so with that from q to p.
abbrev pub apex_of : FinePoint → FinePoint → ℤ → FinePoint
apex_of p q b = record { x = middle_of p.x q.x p.y q.y b; y = middle_of p.y q.y q.x p.x b }

-- the points behind p up to q, for an arc that is halved so many times: those of the one half up to the apex, and those of the other
unfoldable pub points_to : (halvings : ℕ) → FinePoint → FinePoint → ℤ → List FinePoint
points_to zero p q b = q ∷ []
points_to (suc halvings) p q b = points_to halvings p (apex_of p q b) (half_bulge_of b) ++ points_to halvings (apex_of p q b) q (half_bulge_of b)

-- the bulge is at most y / x, for the way (x, y), and a 2^20th more
unfoldable pub is_flat : ℤ × ℤ → ℤ → Bool
is_flat way b = int_le (pos (unsigned_abs b) *ℤ way.0) (pos 1073741824 *ℤ way.1 +ℤ pos 1024 *ℤ way.0)

-- how many times the arc is halved until its parts are flat, at most so many
unfoldable pub halvings_within : (most : ℕ) → ℤ × ℤ → ℤ → ℕ
halvings_within zero way b = 0
halvings_within (suc most) way b = if is_flat way b then 0 else suc (halvings_within most way (half_bulge_of b))

-- the direction at a quarter of so many degrees, whose y / x is the bulge of an arc of them
unfoldable pub way_of_chord : ℕ → ℤ × ℤ
way_of_chord chord = direction_of (chord * 1048576 / 360)

-- the points of the arc from p to q, halved at most ten times, until its parts are no wider than so many degrees
unfoldable pub bulge_points : FinePoint → FinePoint → ℤ → (chord : ℕ) → List FinePoint
bulge_points p q b chord = p ∷ points_to (halvings_within 10 (way_of_chord chord) b) p q b
