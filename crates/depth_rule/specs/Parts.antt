-- What a move removes between two of its moments, in 64ths of its way.
use Rattle.std.specs.Prelude.{◌≡◌, ◌⊎◌, ℕ, true, false, Option, None, Some, pos, ◌*ℤ◌, ◌≤ℤ◌}
use Rattle.plane_exact.specs.Cone.{Cone}
use Rattle.plane_exact.specs.Plane.{RationalPoint, IsBetween}
use Rattle.plane_exact.specs.declared.moves.Move.{Move}
use Rattle.plane_exact.specs.declared.point.Seg.{Seg}
use Rattle.engrave_model.specs.Removal.{IsRemoved, Moment}
use Rattle.lane_kernels.specs.Boxes.{is_met}
use Rattle.lane_kernels.specs.declared.boxes.Rect.{Rect}
use Rattle.segment_grid.specs.Near.{box_of}
use Rattle.swept_move.specs.Clear.{PassesEdge}
use Rattle.depth_rule.specs.declared.around.TheConstants.{PARTS}

-- the moment is from first / 64 to last / 64
pub record IsMomentBetween (first last : ℕ) (s : Moment) : Type 0 where
  pub start : (pos first *ℤ s.n) ≤ℤ (pos PARTS *ℤ s.k)
  pub finish : (pos PARTS *ℤ s.k) ≤ℤ (pos last *ℤ s.n)

-- no moment between the two removes a point of the edge
abbrev pub RemovesNoneBetween : Cone → Move → (first last : ℕ) → Seg → Type 0
RemovesNoneBetween cone mv first last e =
    (s : Moment) → IsMomentBetween first last s → (w : RationalPoint) → IsBetween e.a e.b w → ¬ IsRemoved cone mv s w

-- the box of the edge meets the box, where there is one
abbrev pub IsMetBy : Option Rect → Seg → Type 0
IsMetBy None e = ⊥
IsMetBy (Some q) e = is_met q (box_of e) ≡ true

-- the box of the edge misses q, or meets the box before it, or the move passes the tests against the edge
abbrev pub IsSettled : Rect → (before : Option Rect) → Cone → Move → Seg → Type 0
IsSettled q before cone mv e = (is_met q (box_of e) ≡ false) ⊎ (IsMetBy before e ⊎ PassesEdge cone mv e)
