-- When a straight motion of the bit keeps off an edge, by tests of the ends of both; and that these tests are exact.
--
-- All numbers are whole, and in one unit, whichever it is.
use Rattle.std.specs.Prelude.{◌≡◌, ◌⊎◌, ◌≤◌, ◌<◌, ℕ, ℤ, pos, ◌+ℤ◌, ◌-ℤ◌, ◌*ℤ◌, ◌≤ℤ◌, ◌<ℤ◌}
use Rattle.plane_exact.specs.Cone.{Cone}
use Rattle.plane_exact.specs.Distance.{square}
use Rattle.plane_exact.specs.Plane.{GridPoint, RationalPoint, IsBetween}
use Rattle.plane_exact.specs.Product.{cross_of}
use Rattle.plane_exact.specs.declared.point.Seg.{Seg}
use Rattle.engrave_model.specs.Depth.{IsInDisc, IsEdgeClear}
use Rattle.engrave_model.specs.Removal.{Moment, between}
use Rattle.swept_move.specs.Part.{Part, Quadratic, IsPart, IsInPart, IsNotNegativeIn}

-- A motion of the tip on a straight way, from over the one point to over the other, and the part of its moments that is looked
-- at. Its depth below the surface begins at z and grows evenly by the descent; it may be negative.
pub record Sweep : Type 0 where
  pub from : GridPoint
  pub to : GridPoint
  pub z : ℤ
  pub descent : ℤ
  pub part : Part

-- the point that the tip is over at the moment
abbrev pub sweep_place : Sweep → Moment → RationalPoint
sweep_place sw s = record {
  x = between s sw.from.x sw.to.x;
  y = between s sw.from.y sw.to.y;
  over = s.n;
  positive = s.some;
}

-- how deep the tip is at the moment, times n
abbrev pub sweep_depth : Sweep → Moment → ℤ
sweep_depth sw s = s.n *ℤ sw.z +ℤ s.k *ℤ sw.descent

-- at the moment the tip is below the surface, and w is in the open disc that the bit cuts there
abbrev pub IsReached : Cone → Sweep → Moment → RationalPoint → Type 0
IsReached cone sw s w = IsInDisc cone (sweep_place sw s) (sweep_depth sw s) s.n w

-- at some moment of the part some point of the edge is reached
pub record IsTouched (cone : Cone) (sw : Sweep) (e : Seg) : Type 0 where
  pub moment : Moment
  pub within : IsInPart sw.part moment.k moment.n
  pub point : RationalPoint
  pub on : IsBetween e.a e.b point
  pub reached : IsReached cone sw moment point

-- ---- the tests

-- where the tip is at an end of the part: over p, and z below the surface
pub record End : Type 0 where
  pub p : GridPoint
  pub z : ℕ

-- the dot product of the ways (x, y) and (v, w)
abbrev pub dot : (x y v w : ℤ) → ℤ
dot x y v w = x *ℤ v +ℤ y *ℤ w

-- as a quadratic in the moment, by how much the square of the tip's distance from a corner exceeds that of the bit's radius, times
-- sd^2: at the start the tip is (ex, ey) from the corner and z deep, and over the motion it goes (qx, qy) and deeper by the descent
abbrev pub margin_of : Cone → (ex ey qx qy z descent : ℤ) → Quadratic
margin_of cone ex ey qx qy z descent =
    let sd = square (pos cone.sd) in
    let sn = square (pos cone.sn) in
    record {
      a = sd *ℤ dot qx qy qx qy -ℤ sn *ℤ square descent;
      b = pos 2 *ℤ (sd *ℤ dot ex ey qx qy -ℤ sn *ℤ (z *ℤ descent));
      c = sd *ℤ dot ex ey ex ey -ℤ sn *ℤ square z;
    }

-- the same of a motion and a corner u: negative just where the bit's disc holds the corner
abbrev pub sweep_margin : Cone → Sweep → GridPoint → Quadratic
sweep_margin cone sw u = margin_of cone (sw.from.x -ℤ u.x) (sw.from.y -ℤ u.y) (sw.to.x -ℤ sw.from.x) (sw.to.y -ℤ sw.from.y) sw.z sw.descent

-- on which side of a line along (dx, dy) the tip is at the moment k / over, times over: above 0 left of it, below 0 right of it. At
-- the start the tip is (ex, ey) from a point of the line, and over the motion it goes (qx, qy)
abbrev pub side_by : (over k dx dy ex ey qx qy : ℤ) → ℤ
side_by over k dx dy ex ey qx qy = dx *ℤ (over *ℤ ey +ℤ k *ℤ qy) -ℤ dy *ℤ (over *ℤ ex +ℤ k *ℤ qx)

-- the same of a motion and the edge's line, at the moment k / over of the part
abbrev pub side_of : Sweep → Seg → (k : ℤ) → ℤ
side_of sw e k =
    side_by sw.part.over k (e.b.x -ℤ e.a.x) (e.b.y -ℤ e.a.y) (sw.from.x -ℤ e.a.x) (sw.from.y -ℤ e.a.y) (sw.to.x -ℤ sw.from.x) (sw.to.y -ℤ sw.from.y)

-- path and edge cross: strictly on opposite sides of the edge's line lie the ends of the part, and of the path's line those of the edge
pub record IsSweepCrossing (sw : Sweep) (e : Seg) : Type 0 where
  pub path : (side_of sw e sw.part.first *ℤ side_of sw e sw.part.last) <ℤ pos 0
  pub edge : (cross_of sw.from sw.to e.a *ℤ cross_of sw.from sw.to e.b) <ℤ pos 0

-- the motion passes the tests against the edge: the discs at the ends of the part hold no point of it, no disc between them holds
-- an end of it, and the path doesn't cross it
pub record PassesSweep (cone : Cone) (sw : Sweep) (first last : End) (e : Seg) : Type 0 where
  pub start : IsEdgeClear cone first.p first.z e
  pub finish : IsEdgeClear cone last.p last.z e
  pub corner_a : IsNotNegativeIn sw.part (sweep_margin cone sw e.a)
  pub corner_b : IsNotNegativeIn sw.part (sweep_margin cone sw e.b)
  pub apart : ¬ IsSweepCrossing sw e

-- ---- the ends of the part

-- at the moment k / over of the part the tip is at the end
pub record IsAt (sw : Sweep) (k : ℤ) (c : End) : Type 0 where
  pub across : sw.part.over *ℤ c.p.x ≡ sw.part.over *ℤ sw.from.x +ℤ k *ℤ (sw.to.x -ℤ sw.from.x)
  pub up : sw.part.over *ℤ c.p.y ≡ sw.part.over *ℤ sw.from.y +ℤ k *ℤ (sw.to.y -ℤ sw.from.y)
  pub depth : sw.part.over *ℤ sw.z +ℤ k *ℤ sw.descent ≡ sw.part.over *ℤ pos c.z

-- at the moment k / over of the part the tip is at the surface, and the end, wherever it is, has no depth either
pub record IsFlat (sw : Sweep) (k : ℤ) (c : End) : Type 0 where
  pub level : sw.part.over *ℤ sw.z +ℤ k *ℤ sw.descent ≡ pos 0
  pub flat : c.z ≡ 0

-- the part is one of the whole motion, and begins and ends at the two ends, as far as they have depth
pub record IsSweep (sw : Sweep) (first last : End) : Type 0 where
  pub part : IsPart sw.part
  pub least : pos 0 ≤ℤ sw.part.first
  pub most : sw.part.last ≤ℤ sw.part.over
  pub start : IsAt sw sw.part.first first ⊎ IsFlat sw sw.part.first first
  pub finish : IsAt sw sw.part.last last ⊎ IsFlat sw sw.part.last last

-- one of the ends is below the surface
abbrev pub IsDeepSweep : (first last : End) → Type 0
IsDeepSweep first last = (0 < first.z) ⊎ (0 < last.z)

-- ---- the laws

-- a motion that passes the tests against an edge reaches no point of it, at any moment of the part
abbrev pub SweepLaw : Type 0
SweepLaw =
    (cone : Cone) (sw : Sweep) (first last : End) (e : Seg) → IsSweep sw first last → PassesSweep cone sw first last e → ¬ IsTouched cone sw e

-- and one that goes below the surface either reaches a point of the edge, which is named with its moment, or passes the tests
abbrev pub SweepConverseLaw : Type 0
SweepConverseLaw =
    (cone : Cone) (sw : Sweep) (first last : End) (e : Seg) → 1 ≤ cone.sn → IsSweep sw first last → IsDeepSweep first last
    → IsTouched cone sw e ⊎ PassesSweep cone sw first last e
