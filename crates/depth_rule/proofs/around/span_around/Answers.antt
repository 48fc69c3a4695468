-- Answers the goals of `span_around`.
use mir.Syntax.{w32}
use Rattle.std.specs.Int.{int_div_euclid, int_max, int_min}
use Rattle.std.proofs.Common.{◌≡◌, ℕ, ◌≤◌, ℤ, pos, negsuc, ◌+ℤ◌, ◌-ℤ◌, ◌*ℤ◌, ◌≤ℤ◌, ◌<ℤ◌, FitsSigned, to_z, of_z, arith, lit<, refl, ap, subst, sym, ◌∙◌}
use Rattle.std.proofs.lemmas.Int.{ints, clamps}
use Rattle.integer_algebra.specs.Ranges.{IsUpTo, IsWithin}
use Rattle.swept_move.proofs.Widths.{fits}
use Rattle.depth_rule.proofs.around.span_around.Goals as goal

-- a number as the code keeps it
abbrev kept : ℤ → ℤ
kept z = to_z w32 (of_z w32 z)

-- a place in 640ths
abbrev IsPlace : ℤ → Type 0
IsPlace z = IsUpTo (pos 41943040) z

-- the quotient by 640, rounded down
record IsDivided (z q : ℤ) : Type 0 where
  low : (pos 640 *ℤ q) ≤ℤ z
  high : z <ℤ (pos 640 *ℤ q +ℤ pos 640)

divides : (z : ℤ) → IsDivided z (int_div_euclid z (pos 640))
divides (pos n) = record { low = omega (arith, ints); high = omega (arith, ints) }
divides (negsuc n) = record { low = omega (arith, ints); high = omega (arith, ints) }

-- of a number within 100,000,000 the code's quotient
divided : (z y q : ℤ) → kept z ≡ y → IsWithin (negsuc 99999999) (pos 100000000) y → q ≡ int_div_euclid (kept z) (pos 640) → IsDivided y (kept q)
divided z y q same within is =
    let t = divides y in
    let low = t.low in
    let high = t.high in
    let least = within.low in
    let most = within.high in
    let value : q ≡ int_div_euclid y (pos 640) = is ∙ ap (λ z. int_div_euclid z (pos 640)) same in
    let plain : kept q ≡ int_div_euclid y (pos 640) = omega (arith, ints) in
    subst (IsDivided y) (sym plain) t

-- two coordinates, read from what the code keeps, with the lesser and the greater of them
record AreOrdered (f g l m : ℤ) : Type 0 where
  low_f : l ≤ℤ f
  low_g : l ≤ℤ g
  high_f : f ≤ℤ m
  high_g : g ≤ℤ m
  on_low : IsPlace l
  on_high : IsPlace m

ordered : (f g l m : ℤ) → IsPlace f → IsPlace g → l ≡ int_min (kept f) (kept g) → m ≡ int_max (kept f) (kept g) → AreOrdered f g l m
ordered f g l m on_f on_g least greatest =
    let f_low = on_f.low in
    let f_high = on_f.high in
    let g_low = on_g.low in
    let g_high = on_g.high in
    let f_is : kept f ≡ f = omega (arith, ints) in
    let g_is : kept g ≡ g = omega (arith, ints) in
    record {
      low_f = omega (arith, ints, clamps);
      low_g = omega (arith, ints, clamps);
      high_f = omega (arith, ints, clamps);
      high_g = omega (arith, ints, clamps);
      on_low = record { low = omega (arith, ints, clamps); high = omega (arith, ints, clamps) };
      on_high = record { low = omega (arith, ints, clamps); high = omega (arith, ints, clamps) };
    }

low_side : (m q : ℤ) (r : ℕ) → IsPlace m → r ≤ 5242240 → q ≡ int_div_euclid (kept (kept m -ℤ to_z w32 r)) (pos 640) → (pos 640 *ℤ kept q +ℤ pos r) ≤ℤ m
low_side m q r on small is =
    let low = on.low in
    let high = on.high in
    let t = divided (kept m -ℤ to_z w32 r) (m -ℤ pos r) q (omega (arith, ints)) (record { low = omega (arith, ints); high = omega (arith, ints) }) is in
    let under = t.low in
    omega (arith, ints)

high_side : (m q : ℤ) (r : ℕ) → IsPlace m → r ≤ 5242240 → q ≡ int_div_euclid (kept (kept (kept m +ℤ to_z w32 r) +ℤ pos 639)) (pos 640) → (m +ℤ pos r) ≤ℤ (pos 640 *ℤ kept q)
high_side m q r on small is =
    let low = on.low in
    let high = on.high in
    let t = divided (kept (kept m +ℤ to_z w32 r) +ℤ pos 639) (m +ℤ pos r +ℤ pos 639) q (omega (arith, ints)) (record { low = omega (arith, ints); high = omega (arith, ints) }) is in
    let over = t.high in
    omega (arith, ints)

raised_fits : (m : ℤ) (r : ℕ) → IsPlace m → r ≤ 5242240 → FitsSigned w32 (kept (kept m +ℤ to_z w32 r) +ℤ pos 639)
raised_fits m r on small =
    let low = on.low in
    let high = on.high in
    let sum : kept (kept m +ℤ to_z w32 r) ≡ m +ℤ pos r = omega (arith, ints) in
    fits w32 {m = 100000000} {a = m +ℤ pos r +ℤ pos 639}
    (record { value = ap (λ z. z +ℤ pos 639) sum; within = record { low = omega (arith, ints); high = omega (arith, ints) } }) (lit< tt)

raised_least : (f g m : ℤ) (r : ℕ) → IsPlace f → IsPlace g → m ≡ int_max (kept f) (kept g) → r ≤ 5242240
    → FitsSigned w32 (kept (kept m +ℤ to_z w32 r) +ℤ pos 639)
raised_least f g m r on_f on_g greatest = raised_fits m r (ordered f g (int_min (kept f) (kept g)) m on_f on_g refl greatest).on_high

pub overflow_add-max-2 : goal.overflow_add-max-2
overflow_add-max-2 c = raised_least c.args.from c.args.to c.max.result c.args.reach c.requires.from c.requires.to c.max.ensures.value c.requires.reach

pub returns : goal.returns
returns c =
    let both = ordered c.args.from c.args.to c.min.result c.max.result c.requires.from c.requires.to c.min.ensures.value c.max.ensures.value in
    let left = low_side c.min.result c.div_euclid.result c.args.reach both.on_low c.requires.reach c.div_euclid.ensures in
    let right = high_side c.max.result c.div_euclid-2.result c.args.reach both.on_high c.requires.reach c.div_euclid-2.ensures in
    let low_f = both.low_f in
    let low_g = both.low_g in
    let high_f = both.high_f in
    let high_g = both.high_g in
    record { low_from = omega (arith, ints); low_to = omega (arith, ints); high_from = omega (arith, ints); high_to = omega (arith, ints) }
