-- The greatest discs that touch the outline at a contact, one on each side, and which of them is taken.
use Rattle.std.specs.Prelude.{◌≡◌, ℕ, ◌≤◌, List, Some, ℤ, pos, ◌+ℤ◌, ◌-ℤ◌, ◌*ℤ◌, ◌≤ℤ◌, ◌<ℤ◌}
use Rattle.std.specs.List.{slice_get}
use Rattle.integer_algebra.specs.Ranges.{IsWithin}
use Rattle.plane_exact.specs.Distance.{square}
use Rattle.plane_exact.specs.Plane.{GridPoint, RationalPoint}
use Rattle.plane_exact.specs.declared.point.Seg.{Seg}
use Rattle.engrave_model.specs.Drawing.{edges_of}
use Rattle.engrave_model.specs.Inside.{IsOnOutline, IsInside}
use Rattle.evenodd_region.specs.Lookup.{IsPointOf}
use Rattle.tangent_disc.specs.Contacts.{IsAtMostLong, IsLengthUp}
use Rattle.tangent_disc.specs.declared.contact.Contact.{Contact}
use Rattle.tangent_disc.specs.declared.contact.TheConstants.{MOST_PIECES}
use Rattle.tangent_disc.specs.declared.disc.Disc.{Disc}
use Rattle.tangent_disc.specs.declared.disc.Side.{Side}
use Rattle.tangent_disc.specs.declared.disc.Side.TheVariants.{Left, Right, Nowhere}
use Rattle.tangent_disc.specs.declared.edge_point.EdgePoint.{EdgePoint}

-- the edge's way turned by a quarter to the side: as long as the edge, and at a right angle to it
abbrev pub normal : Side → Seg → GridPoint
normal Left e = record { x = e.a.y -ℤ e.b.y; y = e.b.x -ℤ e.a.x }
normal Right e = record { x = e.b.y -ℤ e.a.y; y = e.a.x -ℤ e.b.x }
normal Nowhere e = record { x = pos 0; y = pos 0 }

-- a + (k / n) (b - a), the point's place on its edge, times n
abbrev pub point_x : EdgePoint → ℤ
point_x p = p.n *ℤ p.edge.a.x +ℤ p.k *ℤ (p.edge.b.x -ℤ p.edge.a.x)

-- the same of the other coordinate
abbrev pub point_y : EdgePoint → ℤ
point_y p = p.n *ℤ p.edge.a.y +ℤ p.k *ℤ (p.edge.b.y -ℤ p.edge.a.y)

-- the denominator of the centres of the discs at the point: n L, where L is the edge's length rounded up
abbrev pub centre_over : EdgePoint → ℤ
centre_over p = p.n *ℤ p.length

-- The disc j touches the edge at its point c from a side: its centre is c + (j / L) m, where m is the edge's normal on the side. This is
-- the centre times n L.
abbrev pub centre_x : Side → EdgePoint → ℕ → ℤ
centre_x side p j = p.length *ℤ point_x p +ℤ pos j *ℤ (p.n *ℤ (normal side p.edge).x)

-- the same of the other coordinate
abbrev pub centre_y : Side → EdgePoint → ℕ → ℤ
centre_y side p j = p.length *ℤ point_y p +ℤ pos j *ℤ (p.n *ℤ (normal side p.edge).y)

-- w - c, the way from the edge's point to w, times n and the denominator of w
abbrev pub way_x : EdgePoint → RationalPoint → ℤ
way_x p w = p.n *ℤ w.x -ℤ w.over *ℤ point_x p

-- the same of the other coordinate
abbrev pub way_y : EdgePoint → RationalPoint → ℤ
way_y p w = p.n *ℤ w.y -ℤ w.over *ℤ point_y p

-- w is in the open disc j: |w - c|^2 < 2 (j / L) m · (w - c), both sides multiplied by the denominators
abbrev pub IsTouched : Side → EdgePoint → ℕ → RationalPoint → Type 0
IsTouched side p j w =
    (p.length *ℤ (square (way_x p w) +ℤ square (way_y p w)))
    <ℤ (pos 2 *ℤ (pos j *ℤ ((p.n *ℤ w.over) *ℤ ((normal side p.edge).x *ℤ way_x p w +ℤ (normal side p.edge).y *ℤ way_y p w))))

-- the number j is free on a side of the point: the open disc holds no point of an edge
unfoldable pub IsFree : List Seg → Side → EdgePoint → ℕ → Type 0
IsFree edges side p j = (w : RationalPoint) → IsOnOutline edges w → ¬ IsTouched side p j w

-- j is the greatest number up to rmax that is free on the side
pub record IsGreatestFree (edges : List Seg) (side : Side) (p : EdgePoint) (rmax j : ℕ) : Type 0 where
  pub free : IsFree edges side p j
  pub within : j ≤ rmax
  pub greatest : (i : ℕ) → i ≤ rmax → IsFree edges side p i → i ≤ j

-- the centre of the disc is inside
pub record IsCentreInside (edges : List Seg) (side : Side) (p : EdgePoint) (j : ℕ) : Type 0 where
  pub centre : RationalPoint
  pub is : IsPointOf (centre_x side p j) (centre_y side p j) (centre_over p) centre
  pub inside : IsInside edges centre

-- on this side j is the greatest free number, it isn't 0, and the disc's centre is inside
pub record IsTaken (edges : List Seg) (side : Side) (p : EdgePoint) (rmax j : ℕ) : Type 0 where
  pub greatest : IsGreatestFree edges side p rmax j
  pub some : 1 ≤ j
  pub inside : IsCentreInside edges side p j

-- on this side there is no such number
abbrev pub IsRefused : List Seg → Side → EdgePoint → ℕ → Type 0
IsRefused edges side p rmax = (j : ℕ) → ¬ IsTaken edges side p rmax j

-- the side and its number: the left one, else the right one, else no side and 0
abbrev pub IsChosen : List Seg → EdgePoint → ℕ → Side → ℕ → Type 0
IsChosen edges p rmax Left j = IsTaken edges Left p rmax j
IsChosen edges p rmax Right j = IsRefused edges Left p rmax × IsTaken edges Right p rmax j
IsChosen edges p rmax Nowhere j = IsRefused edges Left p rmax × IsRefused edges Right p rmax × (j ≡ 0)

-- nearest is the whole number nearest to z / over: the floor of z / over + 1 / 2
pub record IsRounded (z over nearest : ℤ) : Type 0 where
  pub low : (pos 2 *ℤ (over *ℤ nearest)) ≤ℤ (pos 2 *ℤ z +ℤ over)
  pub high : (pos 2 *ℤ z +ℤ over) <ℤ (pos 2 *ℤ (over *ℤ (nearest +ℤ pos 1)))

-- the disc at the point of an edge
pub record IsTangent (edges : List Seg) (p : EdgePoint) (rmax : ℕ) (disc : Disc) : Type 0 where
  pub chosen : IsChosen edges p rmax disc.side disc.j
  pub across : IsRounded (centre_x disc.side p disc.j) (centre_over p) disc.centre.x
  pub up : IsRounded (centre_y disc.side p disc.j) (centre_over p) disc.centre.y

-- the contact as a point of its edge
pub record IsPointOfContact (loops : List (List GridPoint)) (c : Contact) (p : EdgePoint) : Type 0 where
  pub edge : slice_get (edges_of loops) c.edge ≡ Some p.edge
  pub at : p.k ≡ pos c.k
  pub pieces : p.n ≡ pos c.n
  pub length : IsLengthUp p.edge p.length

-- the disc at a contact
pub record IsTangentOf (loops : List (List GridPoint)) (c : Contact) (rmax : ℕ) (disc : Disc) : Type 0 where
  pub point : EdgePoint
  pub of : IsPointOfContact loops c point
  pub tangent : IsTangent (edges_of loops) point rmax disc

-- 92,681 is the length of the longest edge, rounded up
abbrev pub most_length : ℤ
most_length = pos 92681

-- the ranges of the numbers of a contact's point
pub record IsEdgePoint (p : EdgePoint) : Type 0 where
  pub pieces : IsWithin (pos 1) (pos MOST_PIECES) p.n
  pub along : IsWithin (pos 0) p.n p.k
  pub long : IsWithin (pos 1) most_length p.length
  pub enough : IsAtMostLong p.edge p.length
