-- The bulges of the halves of an arc, and its points by a list of them.
use Rattle.std.specs.Prelude.{ℕ, zero, suc, List, [], ◌∷◌, ◌++◌, ℤ}
use Rattle.arc_flatten.specs.Bulges.{apex_of, half_bulge_of, halvings_within}
use Rattle.arc_flatten.specs.Points.{AreFine, FinePoint}

-- the bulges of an arc, of its halves and so on, for so many halvings
abbrev pub bulges_of : ℕ → ℤ → List ℤ
bulges_of zero b = []
bulges_of (suc halvings) b = b ∷ bulges_of halvings (half_bulge_of b)

-- the same until the parts are flat, at most so many
unfoldable pub halved_bulges : (most : ℕ) → ℤ × ℤ → ℤ → List ℤ
halved_bulges most way b = bulges_of (halvings_within most way b) b

-- the points behind p up to q, of an arc whose parts have these bulges
abbrev pub points_along : List ℤ → FinePoint → FinePoint → List FinePoint
points_along [] p q = q ∷ []
points_along (b ∷ halves) p q = points_along halves p (apex_of p q b) ++ points_along halves (apex_of p q b) q

-- all of them are in the range of such points
abbrev pub StaysFine : List ℤ → FinePoint → FinePoint → Type 0
StaysFine [] p q = Unit {0}
StaysFine (b ∷ halves) p q = AreFine (apex_of p q b).x (apex_of p q b).y × StaysFine halves p (apex_of p q b) × StaysFine halves (apex_of p q b) q
