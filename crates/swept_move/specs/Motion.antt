-- Straight motions of the tip between two places: what the tests of a motion against an edge say of all its moments, and what
-- those of its parts say of the whole.
--
-- Points and heights are whole numbers of one unit, whichever it is. The motion may go through the surface, also sideways.
use Rattle.std.specs.Prelude.{◌≡◌, ◌↔◌, ◌⊎◌, ◌≤◌, ◌*◌, ⊤, ℕ, suc, ℤ, pos, neg_ℤ, int_lt, ◌+ℤ◌, ◌-ℤ◌, ◌*ℤ◌, ◌≤ℤ◌, ◌<ℤ◌, if◌then◌else◌, List, [], ◌∷◌}
use Rattle.plane_exact.specs.Cone.{Cone}
use Rattle.plane_exact.specs.Heights.{GridPlace}
use Rattle.plane_exact.specs.Plane.{RationalPoint, IsBetween}
use Rattle.plane_exact.specs.declared.point.Seg.{Seg}
use Rattle.plane_exact.specs.Moves.{depth_of}
use Rattle.engrave_model.specs.Removal.{Moment, between}
use Rattle.swept_move.specs.Beside.{AreBeside}
use Rattle.swept_move.specs.Part.{Part, IsInPart}
use Rattle.swept_move.specs.Sweep.{End, IsDeepSweep, IsReached, IsTouched, PassesSweep, Sweep}

-- of a motion from the height h to the height k, one of them below the surface: the moments at which the tip isn't above the surface
abbrev pub deep_part : (h k : ℤ) → Part
deep_part h k =
    if int_lt (pos 0) h then record { first = h; last = h -ℤ k; over = h -ℤ k }
    else (if int_lt (pos 0) k then record { first = pos 0; last = neg_ℤ h; over = k -ℤ h } else record { first = pos 0; last = pos 1; over = pos 1 })

-- the motion from the one place to the other, and its moments at which the tip isn't above the surface
abbrev pub sweep_between : GridPlace → GridPlace → Sweep
sweep_between p q = record { from = p.at; to = q.at; z = neg_ℤ p.h; descent = p.h -ℤ q.h; part = deep_part p.h q.h }

-- a place as an end: from the surface up it has no depth
abbrev pub end_at : GridPlace → End
end_at p = record { p = p.at; z = depth_of p.h }

-- one of the places is below the surface
abbrev pub IsDeepBetween : GridPlace → GridPlace → Type 0
IsDeepBetween p q = IsDeepSweep (end_at p) (end_at q)

-- the motion passes the tests against the edge
abbrev pub PassesBetween : Cone → GridPlace → GridPlace → Seg → Type 0
PassesBetween cone p q e = PassesSweep cone (sweep_between p q) (end_at p) (end_at q) e

-- no moment of the motion reaches w
abbrev pub Spares : Cone → GridPlace → GridPlace → RationalPoint → Type 0
Spares cone p q w = (s : Moment) → ¬ IsReached cone (sweep_between p q) s w

-- ---- the laws

-- the part is what it is said to be
abbrev pub DeepPartLaw : Type 0
DeepPartLaw = (h k : ℤ) → (h <ℤ pos 0) ⊎ (k <ℤ pos 0) → (s : Moment) → IsInPart (deep_part h k) s.k s.n ↔ (between s h k ≤ℤ pos 0)

-- a motion that passes the tests against an edge spares every point of it
abbrev pub MotionLaw : Type 0
MotionLaw = (cone : Cone) (p q : GridPlace) (e : Seg) → PassesBetween cone p q e → (w : RationalPoint) → IsBetween e.a e.b w → Spares cone p q w

-- and one that goes below the surface reaches a point of the edge, or passes the tests
abbrev pub MotionConverseLaw : Type 0
MotionConverseLaw =
    (cone : Cone) (p q : GridPlace) (e : Seg) → 1 ≤ cone.sn → IsDeepBetween p q → IsTouched cone (sweep_between p q) e ⊎ PassesBetween cone p q e

-- ---- an edge beside the motion

-- the ends of the edge are at least r left of both places, or right of, below or above them
abbrev pub IsBesideBetween : (r : ℤ) → GridPlace → GridPlace → Seg → Type 0
IsBesideBetween r p q e = AreBeside r p.at.x q.at.x e.a.x e.b.x ⊎ AreBeside r p.at.y q.at.y e.a.y e.b.y

-- at the place the bit is at most r wide at the surface, to each side
abbrev pub IsNarrowAt : Cone → (r : ℕ) → GridPlace → Type 0
IsNarrowAt cone r p = cone.sn * depth_of p.h ≤ cone.sd * r

-- a motion passes the tests against an edge from which it keeps the bit's greatest radius along one axis: so most edges need no product
abbrev pub BesideLaw : Type 0
BesideLaw =
    (cone : Cone) (r : ℕ) (p q : GridPlace) (e : Seg) → 1 ≤ r → IsDeepBetween p q → IsNarrowAt cone r p → IsNarrowAt cone r q → IsBesideBetween (pos r) p q e
    → PassesBetween cone p q e

-- ---- a run of equal steps

-- the place p after so many steps of d
abbrev pub place_after : GridPlace → GridPlace → ℕ → GridPlace
place_after p d t = record {
  at = record { x = p.at.x +ℤ pos t *ℤ d.at.x; y = p.at.y +ℤ pos t *ℤ d.at.y };
  h = p.h +ℤ pos t *ℤ d.h;
}

-- where the motion goes below the surface, it passes the tests
abbrev pub KeepsOffBetween : Cone → GridPlace → GridPlace → Seg → Type 0
KeepsOffBetween cone p q e = IsDeepBetween p q → PassesBetween cone p q e

-- one long motion keeps off an edge exactly where each of its equal steps does: so a run of steps may be judged as one move
abbrev pub RunLaw : Type 0
RunLaw =
    (cone : Cone) (p d : GridPlace) (n : ℕ) (e : Seg) → 1 ≤ cone.sn
    → KeepsOffBetween cone (place_after p d 0) (place_after p d (suc n)) e ↔ ((t : ℕ) → t ≤ n → KeepsOffBetween cone (place_after p d t) (place_after p d (suc t)) e)

-- ---- successive places on a line

-- the motion from p to r is at q at some moment
pub record IsOnWay (p q r : GridPlace) : Type 0 where
  pub moment : Moment
  pub across : moment.n *ℤ q.at.x ≡ between moment p.at.x r.at.x
  pub up : moment.n *ℤ q.at.y ≡ between moment p.at.y r.at.y
  pub height : moment.n *ℤ q.h ≡ between moment p.h r.h

-- of x and the elements behind it, R holds of each and the next
abbrev pub AllNeighbours : {A : Type 0} → (A → A → Type 0) → A → List A → Type 0
AllNeighbours R x [] = ⊤
AllNeighbours R x (y ∷ rest) = R x y × AllNeighbours R y rest

-- of x and the elements behind it, the last
abbrev pub last_from : {A : Type 0} → A → List A → A
last_from x [] = x
last_from x (y ∷ rest) = last_from y rest

-- of the place p and those behind it, each but the last is on the way from the first place to the next
abbrev pub AreOnWay : (first p : GridPlace) → List GridPlace → Type 0
AreOnWay first p rest = AllNeighbours (IsOnWay first) p rest

-- a motion keeps off an edge exactly where its part up to a place on its way does, and its part from there
abbrev pub JoinLaw : Type 0
JoinLaw =
    (cone : Cone) (p q r : GridPlace) (e : Seg) → 1 ≤ cone.sn → IsOnWay p q r
    → KeepsOffBetween cone p r e ↔ (KeepsOffBetween cone p q e × KeepsOffBetween cone q r e)

-- so the motion over places that follow each other on a line keeps off an edge exactly where the motion between each two
-- neighbours does
abbrev pub SuccessiveLaw : Type 0
SuccessiveLaw =
    (cone : Cone) (first p : GridPlace) (rest : List GridPlace) (e : Seg) → 1 ≤ cone.sn → AreOnWay first p rest
    → KeepsOffBetween cone first (last_from p rest) e ↔ AllNeighbours (λ q r. KeepsOffBetween cone q r e) first (p ∷ rest)
