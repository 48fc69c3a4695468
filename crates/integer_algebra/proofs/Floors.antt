-- Quotients rounded down.
use Rattle.std.proofs.Common.{◌≡◌, ◌*◌, ◌/◌, ◌≤◌, ℤ, pos, negsuc, neg_ℤ, ◌+ℤ◌, ◌*ℤ◌, ◌≤ℤ◌, ◌<ℤ◌, arith, ap, subst, sym, ◌∙◌}
use Rattle.std.proofs.lemmas.Int.{ints}
use Rattle.std.specs.Int.{int_div_euclid}
use Rattle.integer_algebra.proofs.Order.{times_neg}
use Rattle.integer_algebra.specs.Floors.{IsFloor}

pub floor_of : (z over : ℤ) → pos 1 ≤ℤ over → IsFloor z over (int_div_euclid z over)
floor_of (pos a) (pos b) some = record { low = omega (arith, ints); high = omega (arith, ints) }
floor_of (negsuc a) (pos b) some =
    let next : negsuc (a / b) +ℤ pos 1 ≡ neg_ℤ (pos (a / b)) = omega (arith, ints) in
    let turned = ap (λ q. pos b *ℤ q) next ∙ times_neg (pos b) (pos (a / b)) in
    let below : b * (a / b) ≤ a = omega arith in
    let less : negsuc a <ℤ neg_ℤ (pos b *ℤ pos (a / b)) = omega (arith, ints) in
    record { low = omega (arith, ints); high = subst (λ z. negsuc a <ℤ z) (sym turned) less }
floor_of z (negsuc b) some = absurd some.le

pub floor_same : {z over x y whole w : ℤ} → x ≡ z → y ≡ over → whole ≡ w → IsFloor x y whole → IsFloor z over w
floor_same {z = z} {over = over} {y = y} {whole = whole} e f g floor = subst (IsFloor z over) g (subst (λ r. IsFloor z r whole) f (subst (λ r. IsFloor r y whole) e floor))
