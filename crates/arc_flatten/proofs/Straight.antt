-- A bulge of 0 is drawn by its two ends alone.
use borrow.Author.Differences.{true_is_le}
use Rattle.std.proofs.Common.{◌≡◌, ◌<◌, ◌≤◌, ℕ, ◌*◌, ◌/◌, ◌%◌, true, [], ◌∷◌, ℤ, pos, ◌+ℤ◌, ◌*ℤ◌, ◌≤ℤ◌, int_le, unsigned_abs, refl, sym, arith}
use Rattle.std.proofs.lemmas.Int.{ints}
use Rattle.arc_flatten.specs.Bulges.{bulge_points, halvings_within, is_flat, points_to, way_of_chord}
use Rattle.arc_flatten.specs.Directions.{direction_of, in_quarter}
use Rattle.arc_flatten.specs.Points.{FinePoint}

tests : (a b : ℤ) → a ≤ℤ b → int_le a b ≡ true
tests a b le = sym (true_is_le a b (omega (arith, ints)))

flat : (x y : ℕ) → is_flat (pos x, pos y) (pos 0) ≡ true
unfolding is_flat
flat x y = tests (pos (unsigned_abs (pos 0)) *ℤ pos x) (pos 1073741824 *ℤ pos y +ℤ pos 1024 *ℤ pos x) (omega (arith, ints))

-- the way of a chord is one between the axes
first_way : (u : ℕ) → u < 1048576 → is_flat (direction_of u) (pos 0) ≡ true
unfolding direction_of
first_way u less =
    let none : u / 1048576 ≡ 0 = omega arith in
    rw none (flat (in_quarter (u % 1048576)).x (in_quarter (u % 1048576)).y)

chord_way : (chord : ℕ) → chord ≤ 90 → is_flat (way_of_chord chord) (pos 0) ≡ true
unfolding way_of_chord
chord_way chord few = first_way (chord * 1048576 / 360) (omega arith)

never_halved : (way : ℤ × ℤ) → is_flat way (pos 0) ≡ true → halvings_within 10 way (pos 0) ≡ 0
unfolding halvings_within
never_halved way is = rw is refl

pub straight : (p q : FinePoint) (chord : ℕ) → chord ≤ 90 → bulge_points p q (pos 0) chord ≡ p ∷ q ∷ []
unfolding bulge_points points_to
straight p q chord few = rw (never_halved (way_of_chord chord) (chord_way chord few)) refl
