-- A move in tenths and the tests of an edge, as the code puts them together.
use mir.Syntax.{w64}
use Rattle.std.proofs.Common.{◌≡◌, ◌≢◌, ◌↔◌, inl, inr, ℤ, pos, ◌+ℤ◌, ◌-ℤ◌, ◌*ℤ◌, ◌≤ℤ◌, ◌<ℤ◌, [], ◌∷◌, arith, FitsSigned, lit<, ap, ap₂, subst, sym, ◌∙◌}
use Rattle.std.proofs.lemmas.Int.{ints, to_z-of_z}
use Rattle.integer_algebra.proofs.Ring.{ring, Term, V, ◌⊕◌, ◌⊖◌, ◌⊗◌}
use Rattle.integer_algebra.proofs.Order.{square_nonneg, times_nonneg}
use Rattle.plane_exact.specs.Cone.{Cone}
use Rattle.plane_exact.specs.Distance.{square}
use Rattle.plane_exact.specs.Heights.{GridPlace}
use Rattle.plane_exact.specs.Plane.{GridPoint}
use Rattle.plane_exact.specs.Product.{cross_of}
use Rattle.swept_move.specs.Part.{Quadratic}
use Rattle.swept_move.specs.Motion.{IsDeepBetween, deep_part, sweep_between}
use Rattle.swept_move.specs.Part.{Part, IsNotNegativeIn, value_at}
use Rattle.swept_move.specs.Sweep.{Sweep, margin_of, side_by, sweep_margin}
use Rattle.swept_move.specs.Range.{IsFineProduct}
use Rattle.integer_algebra.specs.Ranges.{IsUpTo}
use Rattle.swept_move.specs.declared.moments.Moments.{Moments}
use Rattle.swept_move.proofs.Border.{margin_value}
use Rattle.swept_move.proofs.Motions.{deep_heights, deep_part_is}
use Rattle.swept_move.proofs.Products.{read_product}
use Rattle.swept_move.proofs.Widths.{held, plain, read}

-- ---- where the tip is at the surface, no corner is in its disc

flat_value : (cone : Cone) (sw : Sweep) (v : GridPoint) (k o : ℤ) → o *ℤ sw.z +ℤ k *ℤ sw.descent ≡ pos 0 → pos 0 ≤ℤ value_at (sweep_margin cone sw v) k o
flat_value cone sw v k o level =
    let Q = square (pos cone.sd) in
    let R = square (pos cone.sn) in
    let ux = sw.from.x -ℤ v.x in
    let uy = sw.from.y -ℤ v.y in
    let qx = sw.to.x -ℤ sw.from.x in
    let qy = sw.to.y -ℤ sw.from.y in
    let x = o *ℤ ux +ℤ k *ℤ qx in
    let y = o *ℤ uy +ℤ k *ℤ qy in
    let value = margin_value Q R ux uy qx qy sw.z sw.descent k o in
    let none = ap (λ d. R *ℤ (d *ℤ d)) level in
    let a = square_nonneg x in
    let b = square_nonneg y in
    let far = times_nonneg Q (x *ℤ x +ℤ y *ℤ y) (square_nonneg (pos cone.sd)) (omega (arith, ints)) in
    omega (arith, ints)

pub first_value : (cone : Cone) (p q : GridPlace) (v : GridPoint) → IsDeepBetween p q
    → (deep_part p.h q.h).first ≢ pos 0 → pos 0 ≤ℤ value_at (sweep_margin cone (sweep_between p q) v) (deep_part p.h q.h).first (deep_part p.h q.h).over
first_value cone p q v deep later =
    elim ((deep_part_is p.h q.h (deep_heights p q deep)).start) [
      | inl h ↦ absurd (later h.1)
      | inr h ↦ flat_value cone (sweep_between p q) v (deep_part p.h q.h).first (deep_part p.h q.h).over h.1
    ]

pub last_value : (cone : Cone) (p q : GridPlace) (v : GridPoint) → IsDeepBetween p q
    → (deep_part p.h q.h).last ≢ (deep_part p.h q.h).over → pos 0 ≤ℤ value_at (sweep_margin cone (sweep_between p q) v) (deep_part p.h q.h).last (deep_part p.h q.h).over
last_value cone p q v deep earlier =
    elim ((deep_part_is p.h q.h (deep_heights p q deep)).finish) [
      | inl h ↦ absurd (earlier h.1)
      | inr h ↦ flat_value cone (sweep_between p q) v (deep_part p.h q.h).last (deep_part p.h q.h).over h.1
    ]

-- ---- the same of the part and the quadratic that the code has

module _ (P U : Part) (q r : Quadratic) (e : P ≡ U) (f : q ≡ r) where
  pub first_there : (U.first ≢ pos 0 → pos 0 ≤ℤ value_at r U.first U.over) → P.first ≢ pos 0 → pos 0 ≤ℤ value_at q P.first P.over
  first_there h = subst (λ (p : Part). p.first ≢ pos 0 → pos 0 ≤ℤ value_at q p.first p.over) (sym e) (subst (λ z. U.first ≢ pos 0 → pos 0 ≤ℤ value_at z U.first U.over) (sym f) h)

  pub last_there : (U.last ≢ U.over → pos 0 ≤ℤ value_at r U.last U.over) → P.last ≢ P.over → pos 0 ≤ℤ value_at q P.last P.over
  last_there h = subst (λ (p : Part). p.last ≢ p.over → pos 0 ≤ℤ value_at q p.last p.over) (sym e) (subst (λ z. U.last ≢ U.over → pos 0 ≤ℤ value_at z U.last U.over) (sym f) h)

  pub tested_there : {T : Type 0} → T ↔ IsNotNegativeIn P q → T ↔ IsNotNegativeIn U r
  tested_there {T = T} test = subst (λ p. T ↔ IsNotNegativeIn p r) e (subst (λ z. T ↔ IsNotNegativeIn P z) f test)

pub margin_is : (cone : Cone) {q : Quadratic} {ux uy qx qy z d ux' uy' qx' qy' z' d' : ℤ} → q ≡ margin_of cone ux uy qx qy z d → ux ≡ ux' → uy ≡ uy' → qx ≡ qx' → qy ≡ qy' → z ≡ z' → d ≡ d' → q ≡ margin_of cone ux' uy' qx' qy' z' d'
margin_is cone {qx = qx} {qy = qy} {z = z} {d = d} {ux' = ux'} {uy' = uy'} {qx' = qx'} {qy' = qy'} is a b c e f g =
    is ∙ ap₂ (λ x y. margin_of cone x y qx qy z d) a b ∙ ap₂ (λ x y. margin_of cone ux' uy' x y z d) c e ∙ ap₂ (λ x y. margin_of cone ux' uy' qx' qy' x y) f g

-- ---- sides

pub moment_up_to : (m : Moments) (k : ℤ) → pos 0 ≤ℤ k → k ≤ℤ m.over → IsUpTo (pos 655340) k
moment_up_to m k least most = let range = m.range in record { low = omega (arith, ints); high = omega (arith, ints) }

-- a side that a call answered
pub side_is : {r b t o k : ℤ} (dx dy ex ey qx qy : ℤ) → FitsSigned w64 r → IsUpTo (pos 655340) o → IsUpTo (pos 655340) k → IsFineProduct b → IsFineProduct t
    → r ≡ held w64 o *ℤ held w64 b +ℤ held w64 k *ℤ held w64 t → b ≡ dx *ℤ ey -ℤ dy *ℤ ex → t ≡ dx *ℤ qy -ℤ dy *ℤ qx → held w64 r ≡ side_by o k dx dy ex ey qx qy
side_is {r = r} {o = o} {k = k} dx dy ex ey qx qy fits on_o on_k on_b on_t e f g =
    to_z-of_z w64 r fits ∙ e
    ∙ ap₂ (λ x y. x +ℤ y) (ap₂ (λ x y. x *ℤ y) (read w64 (plain on_o) (lit< tt)).value (read_product on_b ∙ f)) (ap₂ (λ x y. x *ℤ y) (read w64 (plain on_k) (lit< tt)).value (read_product on_t ∙ g))
    ∙ ring (o ∷ k ∷ dx ∷ dy ∷ ex ∷ ey ∷ qx ∷ qy ∷ []) (V 0 ⊗ (V 2 ⊗ V 5 ⊖ V 3 ⊗ V 4) ⊕ V 1 ⊗ (V 2 ⊗ V 7 ⊖ V 3 ⊗ V 6)) (V 2 ⊗ (V 0 ⊗ V 5 ⊕ V 1 ⊗ V 7) ⊖ V 3 ⊗ (V 0 ⊗ V 4 ⊕ V 1 ⊗ V 6)) tt

-- two numbers with the product of two others have it below 0 together
pub opposite_there : {T : Type 0} {a b c d : ℤ} → a ≡ c → b ≡ d → T ↔ ((a *ℤ b) <ℤ pos 0) → T ↔ ((c *ℤ d) <ℤ pos 0)
opposite_there {T = T} e f test = subst (λ z. T ↔ (z <ℤ pos 0)) (ap₂ (λ x y. x *ℤ y) e f) test

pub sides_there : {T : Type 0} {P U : Part} {dx dy ex ey qx qy dx' dy' ex' ey' qx' qy' : ℤ} → P ≡ U → dx ≡ dx' → dy ≡ dy' → ex ≡ ex' → ey ≡ ey' → qx ≡ qx' → qy ≡ qy'
    → T ↔ ((side_by P.over P.first dx dy ex ey qx qy *ℤ side_by P.over P.last dx dy ex ey qx qy) <ℤ pos 0)
    → T ↔ ((side_by U.over U.first dx' dy' ex' ey' qx' qy' *ℤ side_by U.over U.last dx' dy' ex' ey' qx' qy') <ℤ pos 0)
sides_there {T = T} {P = P} {U = U} {ex = ex} {ey = ey} {qx = qx} {qy = qy} {dx' = dx'} {dy' = dy'} {ex' = ex'} {ey' = ey'} {qx' = qx'} {qy' = qy'} e a b c d f g test =
    let both : Part → ℤ → ℤ → ℤ → ℤ → ℤ → ℤ → ℤ = λ (p : Part) u v x y z w. side_by p.over p.first u v x y z w *ℤ side_by p.over p.last u v x y z w in
    subst (λ z. T ↔ (z <ℤ pos 0))
    (ap₂ (λ u v. both P u v ex ey qx qy) a b ∙ ap₂ (λ u v. both P dx' dy' u v qx qy) c d ∙ ap₂ (λ u v. both P dx' dy' ex' ey' u v) f g ∙ ap (λ p. both p dx' dy' ex' ey' qx' qy') e) test

-- the side of the path's line on which an end of the edge lies, turned round
turned_side : (f g a b : GridPoint)
    → ((g.x -ℤ f.x) *ℤ (f.y -ℤ a.y) -ℤ (g.y -ℤ f.y) *ℤ (f.x -ℤ a.x)) *ℤ ((g.x -ℤ f.x) *ℤ (f.y -ℤ b.y) -ℤ (g.y -ℤ f.y) *ℤ (f.x -ℤ b.x)) ≡ cross_of f g a *ℤ cross_of f g b
turned_side f g a b =
    let side = λ (x y : Term). (V 2 ⊖ V 0) ⊗ (V 1 ⊖ y) ⊖ (V 3 ⊖ V 1) ⊗ (V 0 ⊖ x) in
    let back = λ (x y : Term). (V 2 ⊖ V 0) ⊗ (y ⊖ V 1) ⊖ (V 3 ⊖ V 1) ⊗ (x ⊖ V 0) in
    ring (f.x ∷ f.y ∷ g.x ∷ g.y ∷ a.x ∷ a.y ∷ b.x ∷ b.y ∷ []) (side (V 4) (V 5) ⊗ side (V 6) (V 7)) (back (V 4) (V 5) ⊗ back (V 6) (V 7)) tt

-- a cross product that a call answered, of ways that are differences
pub cross_answer : {r qx qy ux uy X Y x y : ℤ} → IsFineProduct r → r ≡ qx *ℤ uy -ℤ qy *ℤ ux → qx ≡ X → qy ≡ Y → ux ≡ x → uy ≡ y → held w64 r ≡ X *ℤ y -ℤ Y *ℤ x
cross_answer {ux = ux} {uy = uy} {X = X} {Y = Y} on e a b c d = read_product on ∙ e ∙ ap₂ (λ x y. x *ℤ uy -ℤ y *ℤ ux) a b ∙ ap₂ (λ x y. X *ℤ y -ℤ Y *ℤ x) c d

pub edge_there : {T : Type 0} {r s : ℤ} (f g a b : GridPoint) → r ≡ (g.x -ℤ f.x) *ℤ (f.y -ℤ a.y) -ℤ (g.y -ℤ f.y) *ℤ (f.x -ℤ a.x) → s ≡ (g.x -ℤ f.x) *ℤ (f.y -ℤ b.y) -ℤ (g.y -ℤ f.y) *ℤ (f.x -ℤ b.x)
    → T ↔ ((r *ℤ s) <ℤ pos 0) → T ↔ ((cross_of f g a *ℤ cross_of f g b) <ℤ pos 0)
edge_there {T = T} f g a b e h test = subst (λ z. T ↔ (z <ℤ pos 0)) (ap₂ (λ x y. x *ℤ y) e h ∙ turned_side f g a b) test
