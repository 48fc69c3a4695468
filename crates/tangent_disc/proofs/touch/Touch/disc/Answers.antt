-- Answers the goals of `Touch::disc`.
use mir.Syntax.{w64}
use Rattle.std.proofs.Common.{◌≡◌, lit<, ◌*ℤ◌, ◌∙◌, arith, ap₂, pos}
use Rattle.std.proofs.lemmas.Int.{ints}
use Rattle.plane_exact.proofs.Ranges.{wide_is}
use Rattle.plane_exact.proofs.Wide.{held, product_fits}
use Rattle.plane_exact.proofs.Stored.{read_is, widest}
use Rattle.plane_exact.specs.Distance.{square}
use Rattle.tangent_disc.proofs.Touches.{number_within, open_disc, size_within}
use Rattle.tangent_disc.proofs.touch.Touch.disc.Goals as goal

pub times-requires : goal.times-requires
times-requires c =
    let t = c.args.self.now in
    let numbers = number_within t.side t.point t.across t.up t.over t.size t.at c.args.j c.requires in
    let sizes = size_within t.side t.point t.across t.up t.over t.size t.at c.args.j c.requires in
    let n_low = numbers.low in
    let n_high = numbers.high in
    let s_low = sizes.low in
    let s_high = sizes.high in
    let number : widest c.from.result ≡ square (pos c.args.j) = omega (arith, ints) in
    let size : widest c.from-2.result ≡ t.size = omega (arith, ints) in
    product_fits 67092481 576449556464533504 _ _ _ _ number size
    (record { low = omega (arith, ints); high = omega (arith, ints) }) (record { low = omega (arith, ints); high = omega (arith, ints) }) (lit< tt)

pub invariant_of-result : goal.invariant_of-result
invariant_of-result c =
    let t = c.args.self.now in
    let sizes = size_within t.side t.point t.across t.up t.over t.size t.at c.args.j c.requires in
    let s_low = sizes.low in
    let s_high = sizes.high in
    let some = t.at.some in
    let small = t.at.small in
    let number : widest c.from.result ≡ square (pos c.args.j) = omega (arith, ints) in
    let size : widest c.from-2.result ≡ t.size = omega (arith, ints) in
    record {
      range = open_disc t.side t.point t.across t.up t.over t.size t.at c.args.j c.requires _ _ _ _
          (read_is w64 _ _ (record { sfits = c.at.type_inv }) c.at.ensures)
          (read_is w64 _ _ (record { sfits = c.at-2.type_inv }) c.at-2.ensures)
          (wide_is t.over (omega (arith, ints)))
          (held _ _ (record { sfits = c.times.type_inv }) (c.times.ensures ∙ ap₂ (λ u v. u *ℤ v) number size));
    }
