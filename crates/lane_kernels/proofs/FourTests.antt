-- Four comparisons at once: what the lanes of a vector say of two boxes.
use Rattle.std.proofs.Common.{◌≡◌, ℕ, ◌+◌, ◌*◌, ◌%◌, Bool, true, false, cond, ◌&&◌, refl, ℤ, SFits, to_z, of_z, w32, to_z-of_z, nat_eq}
use Rattle.std.specs.Prelude.{if◌then◌else◌, int_le}
use lib.Lanes.{top}
use mir.Val.{bool_byte}
use Rattle.lane_kernels.specs.Boxes.{hit_of, overlap}
use Rattle.lane_kernels.specs.declared.boxes.Rect.{Rect}

-- a lane of all bits where the test holds, and its first bit
abbrev lane : Bool → ℕ
lane b = cond (top 31 (cond b 4294967295 0)) 1 0

-- whether all four hold
all_hold : (a b c d : Bool) → bool_byte (nat_eq ((lane a + 2 * (lane b + 2 * (lane c + 2 * (lane d + 2 * 0)))) % 18446744073709551616) 15) ≡ (if (a && c) && (b && d) then 1 else 0)
all_hold true true true true = refl
all_hold true true true false = refl
all_hold true true false true = refl
all_hold true true false false = refl
all_hold true false true true = refl
all_hold true false true false = refl
all_hold true false false true = refl
all_hold true false false false = refl
all_hold false true true true = refl
all_hold false true true false = refl
all_hold false true false true = refl
all_hold false true false false = refl
all_hold false false true true = refl
all_hold false false true false = refl
all_hold false false false true = refl
all_hold false false false false = refl

-- the corners are 32-bit numbers
abbrev pub AreCorners : Rect → Type 0
AreCorners b = SFits w32 b.x0 × SFits w32 b.y0 × SFits w32 b.x1 × SFits w32 b.y1

-- the test of two 32-bit numbers
abbrev le_32 : ℤ → ℤ → Bool
le_32 a b = int_le (to_z w32 (of_z w32 a)) (to_z w32 (of_z w32 b))

pub box_flag : (q b : Rect) → AreCorners q → AreCorners b
    → bool_byte (nat_eq ((lane (le_32 b.x0 q.x1) + 2 * (lane (le_32 b.y0 q.y1) + 2 * (lane (le_32 q.x0 b.x1) + 2 * (lane (le_32 q.y0 b.y1) + 2 * 0)))) % 18446744073709551616) 15) ≡ hit_of q b
unfolding overlap
box_flag q b f g =
    rw (to_z-of_z g.0, to_z-of_z g.1, to_z-of_z g.2, to_z-of_z g.3, to_z-of_z f.0, to_z-of_z f.1, to_z-of_z f.2, to_z-of_z f.3)
    (all_hold (int_le b.x0 q.x1) (int_le b.y0 q.y1) (int_le q.x0 b.x1) (int_le q.y0 b.y1))
