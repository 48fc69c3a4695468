-- Quadratics over a part of the moments of a motion.
use Rattle.std.specs.Prelude.{◌⊎◌, ℤ, pos, ◌+ℤ◌, ◌*ℤ◌, ◌≤ℤ◌, ◌<ℤ◌}
use Rattle.plane_exact.specs.Distance.{square}

-- a s^2 + b s + c
pub record Quadratic : Type 0 where
  pub a : ℤ
  pub b : ℤ
  pub c : ℤ

-- a s^2 + 2 half s + c
abbrev pub with_half : (a half c : ℤ) → Quadratic
with_half a half c = record { a = a; b = pos 2 *ℤ half; c = c }

-- the moments from first / over to last / over
pub record Part : Type 0 where
  pub first : ℤ
  pub last : ℤ
  pub over : ℤ

-- the part has more than one moment
pub record IsPart (u : Part) : Type 0 where
  pub some : pos 1 ≤ℤ u.over
  pub long : u.first <ℤ u.last

-- the moment k / n, with n above 0, is one of the part
pub record IsInPart (u : Part) (k n : ℤ) : Type 0 where
  pub start : (u.first *ℤ n) ≤ℤ (u.over *ℤ k)
  pub finish : (u.over *ℤ k) ≤ℤ (u.last *ℤ n)

-- the value of a quadratic at the moment k / n, times n^2
abbrev pub value_at : Quadratic → (k n : ℤ) → ℤ
value_at q k n = q.a *ℤ (k *ℤ k) +ℤ q.b *ℤ (k *ℤ n) +ℤ q.c *ℤ (n *ℤ n)

-- its slope at the moment k / over, times over
abbrev pub slope_at : Quadratic → (k over : ℤ) → ℤ
slope_at q k over = over *ℤ q.b +ℤ pos 2 *ℤ (q.a *ℤ k)

-- the parabola opens downwards, or rises from the first moment of the part, or falls up to the last, or its lowest point isn't below 0
abbrev pub HasNoDipIn : Part → Quadratic → Type 0
HasNoDipIn u q =
    (q.a ≤ℤ pos 0) ⊎ ((pos 0 ≤ℤ slope_at q u.first u.over) ⊎ ((slope_at q u.last u.over ≤ℤ pos 0) ⊎ (square q.b ≤ℤ (pos 4 *ℤ (q.a *ℤ q.c)))))

-- the quadratic isn't negative at any moment of the part: neither at the first, nor at the last, nor between
pub record IsNotNegativeIn (u : Part) (q : Quadratic) : Type 0 where
  pub start : pos 0 ≤ℤ value_at q u.first u.over
  pub finish : pos 0 ≤ℤ value_at q u.last u.over
  pub between : HasNoDipIn u q
