-- Answers the goals of `octagon`.
use Rattle.std.proofs.Common.{◌≡◌, ◌∙◌, ap₂, arith, pos, neg_ℤ, ℤ}
use Rattle.std.proofs.lemmas.Int.{ints}
use Rattle.plane_exact.specs.Plane.{GridPoint}
use Rattle.trial_field.specs.Field.{about}
use Rattle.trial_field.proofs.cell.octagon.Goals as goal

-- the point about m, with the numbers that its own are equal to
at : (m p : GridPoint) (x y x' y' : ℤ) → p ≡ about m x y → x ≡ x' → y ≡ y' → p ≡ about m x' y'
at m p x y x' y' is across up = is ∙ ap₂ (λ x y. about m x y) across up

pub returns : goal.returns
returns c =
    let m = c.args.middle in
    let a = pos c.args.far in
    let b = pos c.args.near in
    let p1 : c.about.result ≡ about m a b = at m _ _ _ a b c.about.ensures (omega (arith, ints)) (omega (arith, ints)) in
    let p2 : c.about-2.result ≡ about m b a = at m _ _ _ b a c.about-2.ensures (omega (arith, ints)) (omega (arith, ints)) in
    let p3 : c.about-3.result ≡ about m (neg_ℤ b) a = at m _ _ _ (neg_ℤ b) a c.about-3.ensures (omega (arith, ints)) (omega (arith, ints)) in
    let p4 : c.about-4.result ≡ about m (neg_ℤ a) b = at m _ _ _ (neg_ℤ a) b c.about-4.ensures (omega (arith, ints)) (omega (arith, ints)) in
    let p5 : c.about-5.result ≡ about m (neg_ℤ a) (neg_ℤ b) = at m _ _ _ (neg_ℤ a) (neg_ℤ b) c.about-5.ensures (omega (arith, ints)) (omega (arith, ints)) in
    let p6 : c.about-6.result ≡ about m (neg_ℤ b) (neg_ℤ a) = at m _ _ _ (neg_ℤ b) (neg_ℤ a) c.about-6.ensures (omega (arith, ints)) (omega (arith, ints)) in
    let p7 : c.about-7.result ≡ about m b (neg_ℤ a) = at m _ _ _ b (neg_ℤ a) c.about-7.ensures (omega (arith, ints)) (omega (arith, ints)) in
    let p8 : c.about-8.result ≡ about m a (neg_ℤ b) = at m _ _ _ a (neg_ℤ b) c.about-8.ensures (omega (arith, ints)) (omega (arith, ints)) in
    cc
