-- Answers the goals of `Row::rising`.
use mir.Syntax.{w64}
use Rattle.std.proofs.Common.{◌≡◌, ◌≤◌, pos, ◌-ℤ◌, ◌*ℤ◌, arith, ap, ap₂, refl, ◌∙◌, mul-le-mul}
use Rattle.std.proofs.lemmas.Int.{ints}
use Rattle.plane_exact.proofs.Stored.{read_is}
use Rattle.evenodd_region.proofs.RowMeets.{rising_meets}
use Rattle.evenodd_region.proofs.meeting.Row.rising.Goals as goal

pub invariant_of-result : goal.invariant_of-result
invariant_of-result c = record { some = (let rows : 1 ≤ c.from-2.result = omega (arith, ints, c.rows_up.ensures.up) in let pitch : 1 ≤ c.from.result = omega arith in mul-le-mul pitch rows) }

pub returns : goal.returns
returns c =
    let rows : pos c.from-2.result ≡ c.args.b.y -ℤ c.args.a.y = ap pos c.from-2.ensures ∙ c.rows_up.ensures.up in
    rising_meets c.args.self.now (record { a = c.args.a; b = c.args.b }) _ c.requires.up
    (read_is w64 _ _ (record { sfits = c.cross-from.type_inv }) c.cross-from.ensures.value)
    (ap₂ (λ m n. pos m *ℤ n) c.from.ensures rows)
    c.requires.row.low c.requires.row.high refl c.is_below.ensures
