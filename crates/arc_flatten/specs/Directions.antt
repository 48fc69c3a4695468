-- Directions in 2^30ths: a quarter turn halved twenty times, and then turned by quarters.
use Rattle.std.specs.Prelude.{ℕ, zero, suc, ◌+◌, ◌*◌, ◌/◌, ◌%◌, ◌^◌, ◌≤◌, ◌==◌, if◌then◌else◌, ℤ, pos, neg_ℤ}
use Rattle.grid_num.specs.Root.{isqrt_of}

-- a direction between the x and the y axis: its components, at most 2^30 each, and not both 0
pub record Heading : Type 0 where
  pub x : ℕ
  pub y : ℕ

-- the ranges of the components of a direction between the axes
pub record AreHeading (x y : ℕ) : Type 0 where
  pub across : x ≤ 1073741824
  pub up : y ≤ 1073741824
  pub some : 1 ≤ x + y

-- the component whose square is to the square of 2^30 as the square of the part is to the whole, rounded down
abbrev pub share_of : (part whole : ℕ) → ℕ
share_of part whole = isqrt_of (1152921504606846976 * (part * part) / whole)

-- the way (x, y) shortened or lengthened to 2^30
abbrev pub on_circle : (x y : ℕ) → Heading
on_circle x y = record { x = share_of x (x * x + y * y); y = share_of y (x * x + y * y) }

-- the half direction of two
abbrev pub halfway_of : Heading → Heading → Heading
halfway_of s t = on_circle (s.x + t.x) (s.y + t.y)

-- the direction that the lowest bits of f, the highest of them first, choose between s and t: a 1 chooses the half from the half
-- direction on, a 0 the half up to it
unfoldable pub towards : (bits f : ℕ) (s t : Heading) → Heading
towards zero f s t = s
towards (suc bits) f s t = if f / 2 ^ bits % 2 == 1 then towards bits f (halfway_of s t) t else towards bits f s (halfway_of s t)

-- along the x axis
abbrev pub x_axis : Heading
x_axis = record { x = 1073741824; y = 0 }

-- along the y axis
abbrev pub y_axis : Heading
y_axis = record { x = 0; y = 1073741824 }

-- the direction at f parts of the first quarter turn, which has 2^20
unfoldable pub in_quarter : ℕ → Heading
in_quarter f = towards 20 f x_axis y_axis

-- the way (x, y) turned by so many quarter turns counterclockwise
abbrev pub quarter_turned : ℕ → ℤ → ℤ → ℤ × ℤ
quarter_turned zero x y = (x, y)
quarter_turned (suc quarters) x y = quarter_turned quarters (neg_ℤ y) x

-- the direction at u parts of a full turn, which has 2^22: its components along x and y
unfoldable pub direction_of : ℕ → ℤ × ℤ
direction_of u = let heading = in_quarter (u % 1048576) in quarter_turned (u / 1048576) (pos heading.x) (pos heading.y)
