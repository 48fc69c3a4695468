-- Products of 128 bits, and their comparisons, as the code makes them.
use mir.Syntax.{w128}
use Rattle.std.proofs.Common.{◌≡◌, ◌↔◌, ℕ, ◌*◌, ◌<◌, ◌≤◌, ◌^◌, ℤ, pos, ◌*ℤ◌, ◌≤ℤ◌, int_le, IsTrue, FitsSigned, arith, ap₂, sym, subst, mul-le-mul}
use borrow.Author.Differences.{true_is_le}
use Rattle.std.proofs.lemmas.Int.{ints}
use Rattle.integer_algebra.specs.Ranges.{IsUpTo}
use Rattle.integer_algebra.proofs.Order.{product_up_to}
use Rattle.plane_exact.specs.Product.{IsProduct}
use Rattle.plane_exact.proofs.Stored.{wide, widest, read_is}

pub held : (r a : ℤ) → FitsSigned w128 r → r ≡ a → widest r ≡ a
held r a fits e = read_is w128 r a fits e

-- a cross or dot product as the code widens it
pub widened_product : (r d : ℤ) → IsProduct r → r ≡ d → widest (wide r) ≡ d
widened_product r d range e = omega (arith, ints)

pub product_bounds : (r d : ℤ) → IsProduct r → r ≡ d → IsUpTo (pos 8589672450) d
product_bounds r d range e = subst (IsUpTo (pos 8589672450)) e (record { low = omega (arith, ints); high = omega (arith, ints) })

pub square_bounds : (n most : ℕ) → n ≤ most → IsUpTo (pos (most * most)) (pos n *ℤ pos n)
square_bounds n most h = let p = mul-le-mul h h in record { low = omega (arith, ints); high = omega (arith, ints) }

-- 128 bits hold the product of a and b, which the code has as x and y
pub product_fits : (m n : ℕ) (x y a b : ℤ) → x ≡ a → y ≡ b → IsUpTo (pos m) a → IsUpTo (pos n) b → m * n < 2 ^ 127 → FitsSigned w128 (x *ℤ y)
product_fits m n x y a b e f p q small =
    let bounds : IsUpTo (pos (m * n)) (a *ℤ b) = product_up_to (pos m) (pos n) a b p q in
    let low = bounds.low in
    let high = bounds.high in
    let fits : FitsSigned w128 (a *ℤ b) = omega (arith, ints) in
    subst (FitsSigned w128) (ap₂ (λ u v. u *ℤ v) (sym e) (sym f)) fits

-- the code's test of two numbers that it has as x and y
pub tested : (x y a b : ℤ) → x ≡ a → y ≡ b → IsTrue (int_le x y) ↔ (a ≤ℤ b)
tested x y a b e f = ((λ t. omega (arith, ints)), (λ h. sym (true_is_le x y (omega (arith, ints)))))
