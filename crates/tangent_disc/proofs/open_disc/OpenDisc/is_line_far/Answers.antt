-- Answers the goals of `OpenDisc::is_line_far`.
use Rattle.std.proofs.Common.{◌≡◌, lit<, ◌*ℤ◌, ◌∙◌, arith, ap₂}
use Rattle.std.proofs.lemmas.Int.{ints}
use Rattle.plane_exact.proofs.Wide.{held, product_fits, tested}
use Rattle.plane_exact.proofs.Stored.{widest}
use Rattle.tangent_disc.proofs.open_disc.OpenDisc.is_line_far.Goals as goal

pub times-requires : goal.times-requires
times-requires c =
    let reach_low = c.args.self.now.range.reaching.low in
    let reach_high = c.args.self.now.range.reaching.high in
    let low = c.length_squared.ensures.range.low in
    let high = c.length_squared.ensures.range.high in
    let reach : widest c.args.self.now.reach ≡ c.args.self.now.reach = omega (arith, ints) in
    let long : widest c.from.result ≡ c.length_squared.result = omega (arith, ints) in
    product_fits 38675430914555141290983424 8589672450 _ _ c.args.self.now.reach c.length_squared.result reach long
    (record { low = omega (arith, ints); high = omega (arith, ints) })
    (record { low = omega (arith, ints); high = omega (arith, ints) })
    (lit< tt)

pub returns : goal.returns
returns c =
    let reach_low = c.args.self.now.range.reaching.low in
    let reach_high = c.args.self.now.range.reaching.high in
    let low = c.length_squared.ensures.range.low in
    let high = c.length_squared.ensures.range.high in
    let turn_low = c.cross.ensures.range.low in
    let turn_high = c.cross.ensures.range.high in
    let reach : widest c.args.self.now.reach ≡ c.args.self.now.reach = omega (arith, ints) in
    let long : widest c.from.result ≡ c.length_squared.result = omega (arith, ints) in
    let height : widest c.from-height.result ≡ c.cross.result = omega (arith, ints) in
    let turn = height ∙ c.cross.ensures.value in
    tested _ _ _ _
    (held _ _ (record { sfits = c.times.type_inv }) (c.times.ensures ∙ ap₂ (λ u v. u *ℤ v) reach (long ∙ c.length_squared.ensures.value)))
    (held _ _ (record { sfits = c.times-2.type_inv }) (c.times-2.ensures ∙ ap₂ (λ u v. u *ℤ v) turn turn))
