-- What snapping is worth: the points that are left are far from each other, and each end has moved by no more than the tolerance.
use Rattle.std.specs.Prelude.{◌≡◌, ℕ, true, false, List, [], ◌∷◌, All, Any}
use Rattle.std.specs.List.{AllPairs, Contains}
use Rattle.plane_exact.specs.Plane.{GridPoint}
use Rattle.plane_exact.specs.declared.point.Seg.{Seg}
use Rattle.loop_join.specs.Snap.{is_near, keep, snap_of}

-- the points that are kept after the segments
abbrev pub kept_after : ℕ → List GridPoint → List Seg → List GridPoint
kept_after t kept [] = kept
kept_after t kept (s ∷ segs) = kept_after t (keep t (keep t kept s.a) s.b) segs

-- q is a kept point that is near p
pub record IsMovedTo (t : ℕ) (kept : List GridPoint) (p q : GridPoint) : Type 0 where
  pub near : is_near t p q ≡ true
  pub is_kept : Contains kept q

-- both ends of the segment are so
pub record IsSegMovedTo (t : ℕ) (kept : List GridPoint) (s moved : Seg) : Type 0 where
  pub a : IsMovedTo t kept s.a moved.a
  pub b : IsMovedTo t kept s.b moved.b

-- no kept point is near an earlier one, and each segment that is left is one of the segments with its ends moved to kept points
-- near them
pub record AreSnapped (t : ℕ) (segs : List Seg) (kept : List GridPoint) (moved : List Seg) : Type 0 where
  pub apart : AllPairs (λ p q. is_near t q p ≡ false) kept
  pub near : All (λ m. Any (λ s. IsSegMovedTo t kept s m) segs) moved

-- so it is with any segments
abbrev pub SnapLaw : Type 0
SnapLaw = (t : ℕ) (segs : List Seg) → AreSnapped t segs (kept_after t [] segs) (snap_of t segs)
