-- Between two neighbouring good places each point of the way of a flat bit is as far from every edge as they are.
use Rattle.std.proofs.Common.{◌≡◌, ℕ, ◌≤◌, ℤ, pos, ◌+ℤ◌, ◌-ℤ◌, ◌*ℤ◌, ◌≤ℤ◌, ◌<ℤ◌, List, [], ◌∷◌, arith, ap, ap₂, refl, subst, ◌∙◌}
use Rattle.std.proofs.lemmas.Int.{ints, by_lt_z}
use Rattle.std.proofs.Math.IntN.{+ℤ_comm}
use Rattle.std.proofs.Math.Nat.{mul-le-mul_left}
use Rattle.integer_algebra.proofs.Order.{times_pos}
use Rattle.integer_algebra.proofs.Ring.{ring, V, K, ◌⊕◌, ◌⊖◌, ◌⊗◌}
use Rattle.plane_exact.specs.Cone.{Cone}
use Rattle.plane_exact.specs.Distance.{IsCloser, square}
use Rattle.plane_exact.specs.Plane.{IsBetween, RationalPoint, rational}
use Rattle.plane_exact.specs.declared.point.Seg.{Seg}
use Rattle.engrave_model.specs.Inside.{IsOnOutline}
use Rattle.depth_rule.specs.Deepest.{deepest_of}
use Rattle.cleanup_pocket.specs.Floors.{point_on}
use Rattle.cleanup_pocket.specs.declared.axis.Axis.{Axis}
use Rattle.cleanup_pocket.specs.declared.axis.Axis.TheVariants as axis
use Rattle.flat_bit.specs.Apart.{IsApart}
use Rattle.flat_bit.specs.Flat.{IsFlatGood, IsFlatWay, flat_reach}
use Rattle.flat_bit.proofs.Nearer.{shorter_by}
use Rattle.flat_bit.proofs.Passing.{KeepsOff, none_between, part}

-- ---- numbers: along the line of the two places, and across it

-- what isn't nearer to the place c behind x, on the line y, than r / d
keeps_off : (r d c j m ax ay bx by x y place : ℤ) → place ≡ x +ℤ c
    → ¬ (((square (part j m ax bx *ℤ pos 1 -ℤ place *ℤ m) +ℤ square (part j m ay by *ℤ pos 1 -ℤ y *ℤ m)) *ℤ square d) <ℤ (square r *ℤ square (pos 1 *ℤ m)))
    → (square r *ℤ square m) ≤ℤ ((square (part j m (ax -ℤ x) (bx -ℤ x) -ℤ m *ℤ c) +ℤ square (part j m (ay -ℤ y) (by -ℤ y))) *ℤ square d)
keeps_off r d c j m ax ay bx by x y place is far =
    let along : part j m ax bx *ℤ pos 1 -ℤ place *ℤ m ≡ part j m (ax -ℤ x) (bx -ℤ x) -ℤ m *ℤ c =
    ap (λ z. part j m ax bx *ℤ pos 1 -ℤ z *ℤ m) is
    ∙ ring (j ∷ m ∷ ax ∷ bx ∷ x ∷ c ∷ []) ((V 1 ⊗ V 2 ⊕ V 0 ⊗ (V 3 ⊖ V 2)) ⊗ K (pos 1) ⊖ (V 4 ⊕ V 5) ⊗ V 1)
    (V 1 ⊗ (V 2 ⊖ V 4) ⊕ V 0 ⊗ ((V 3 ⊖ V 4) ⊖ (V 2 ⊖ V 4)) ⊖ V 1 ⊗ V 5) tt in
    let across : part j m ay by *ℤ pos 1 -ℤ y *ℤ m ≡ part j m (ay -ℤ y) (by -ℤ y) =
    ring (j ∷ m ∷ ay ∷ by ∷ y ∷ []) ((V 1 ⊗ V 2 ⊕ V 0 ⊗ (V 3 ⊖ V 2)) ⊗ K (pos 1) ⊖ V 4 ⊗ V 1) (V 1 ⊗ (V 2 ⊖ V 4) ⊕ V 0 ⊗ ((V 3 ⊖ V 4) ⊖ (V 2 ⊖ V 4))) tt in
    let same = ap₂ (λ u v. (square u +ℤ square v) *ℤ square d) along across in
    let most = ring (r ∷ m ∷ []) ((V 0 ⊗ V 0) ⊗ ((K (pos 1) ⊗ V 1) ⊗ (K (pos 1) ⊗ V 1))) ((V 0 ⊗ V 0) ⊗ (V 1 ⊗ V 1)) tt in
    by_lt_z ((square (part j m (ax -ℤ x) (bx -ℤ x) -ℤ m *ℤ c) +ℤ square (part j m (ay -ℤ y) (by -ℤ y))) *ℤ square d) (square r *ℤ square m)
    (λ near. absurd (far (omega (arith, ints))))
    (λ l. l)

-- the way along from u / p to w / o, where w is at j / m of the way from a to b, and u at k / n from x to the next place
way_along : (n m p o k j a b x w u : ℤ) → m *ℤ w ≡ o *ℤ part j m a b → n *ℤ u ≡ p *ℤ (n *ℤ x +ℤ k *ℤ (x +ℤ pos 1 -ℤ x))
    → (n *ℤ m) *ℤ (w *ℤ p -ℤ u *ℤ o) ≡ (p *ℤ o) *ℤ (n *ℤ part j m (a -ℤ x) (b -ℤ x) -ℤ k *ℤ m)
way_along n m p o k j a b x w u on at =
    ring (n ∷ m ∷ p ∷ o ∷ w ∷ u ∷ []) ((V 0 ⊗ V 1) ⊗ (V 4 ⊗ V 2 ⊖ V 5 ⊗ V 3)) ((V 0 ⊗ V 2) ⊗ (V 1 ⊗ V 4) ⊖ (V 1 ⊗ V 3) ⊗ (V 0 ⊗ V 5)) tt
    ∙ ap₂ (λ y z. (n *ℤ p) *ℤ y -ℤ (m *ℤ o) *ℤ z) on at
    ∙ ring (n ∷ m ∷ p ∷ o ∷ k ∷ j ∷ a ∷ b ∷ x ∷ [])
    ((V 0 ⊗ V 2) ⊗ (V 3 ⊗ (V 1 ⊗ V 6 ⊕ V 5 ⊗ (V 7 ⊖ V 6))) ⊖ (V 1 ⊗ V 3) ⊗ (V 2 ⊗ (V 0 ⊗ V 8 ⊕ V 4 ⊗ (V 8 ⊕ K (pos 1) ⊖ V 8))))
    ((V 2 ⊗ V 3) ⊗ (V 0 ⊗ (V 1 ⊗ (V 6 ⊖ V 8) ⊕ V 5 ⊗ ((V 7 ⊖ V 8) ⊖ (V 6 ⊖ V 8))) ⊖ V 4 ⊗ V 1)) tt

-- the way across, where u stays on the line y
way_across : (n m p o k j a b y w u : ℤ) → m *ℤ w ≡ o *ℤ part j m a b → n *ℤ u ≡ p *ℤ (n *ℤ y +ℤ k *ℤ (y -ℤ y))
    → (n *ℤ m) *ℤ (w *ℤ p -ℤ u *ℤ o) ≡ (p *ℤ o) *ℤ (n *ℤ part j m (a -ℤ y) (b -ℤ y))
way_across n m p o k j a b y w u on at =
    ring (n ∷ m ∷ p ∷ o ∷ w ∷ u ∷ []) ((V 0 ⊗ V 1) ⊗ (V 4 ⊗ V 2 ⊖ V 5 ⊗ V 3)) ((V 0 ⊗ V 2) ⊗ (V 1 ⊗ V 4) ⊖ (V 1 ⊗ V 3) ⊗ (V 0 ⊗ V 5)) tt
    ∙ ap₂ (λ y z. (n *ℤ p) *ℤ y -ℤ (m *ℤ o) *ℤ z) on at
    ∙ ring (n ∷ m ∷ p ∷ o ∷ k ∷ j ∷ a ∷ b ∷ y ∷ [])
    ((V 0 ⊗ V 2) ⊗ (V 3 ⊗ (V 1 ⊗ V 6 ⊕ V 5 ⊗ (V 7 ⊖ V 6))) ⊖ (V 1 ⊗ V 3) ⊗ (V 2 ⊗ (V 0 ⊗ V 8 ⊕ V 4 ⊗ (V 8 ⊖ V 8))))
    ((V 2 ⊗ V 3) ⊗ (V 0 ⊗ (V 1 ⊗ (V 6 ⊖ V 8) ⊕ V 5 ⊗ ((V 7 ⊖ V 8) ⊖ (V 6 ⊖ V 8))))) tt

-- ---- places

module _ (edges : List Seg) (reach over : ℕ) (some : 1 ≤ over) (wide : over ≤ reach) where
  -- a point of the edge at j / m of its way
  abbrev part_at : (e : Seg) (j m : ℤ) → pos 1 ≤ℤ m → RationalPoint
  part_at e j m positive = record { x = part j m e.a.x e.b.x; y = part j m e.a.y e.b.y; over = m; positive = positive }

  module _ (e : Seg) (of : (v : RationalPoint) → IsBetween e.a e.b v → IsOnOutline edges v) (line place : ℤ) where
    -- the edge keeps off the place c behind
    row_keeps_off : (c there : ℤ) → there ≡ place +ℤ c → IsApart edges reach over (rational (point_on axis.X line there))
        → KeepsOff (pos reach) (pos over) c (e.a.x -ℤ place) (e.a.y -ℤ line) (e.b.x -ℤ place) (e.b.y -ℤ line)
    row_keeps_off c there is apart j m start finish positive =
        keeps_off (pos reach) (pos over) c j m e.a.x e.a.y e.b.x e.b.y place line there is
        (apart (part_at e j m positive) (of (part_at e j m positive) (record {
          at = record { k = j; n = m; start = start; finish = finish; some = positive };
          across = refl;
          up = refl;
        })))

    column_keeps_off : (c there : ℤ) → there ≡ place +ℤ c → IsApart edges reach over (rational (point_on axis.Y line there))
        → KeepsOff (pos reach) (pos over) c (e.a.y -ℤ place) (e.a.x -ℤ line) (e.b.y -ℤ place) (e.b.x -ℤ line)
    column_keeps_off c there is apart j m start finish positive =
        keeps_off (pos reach) (pos over) c j m e.a.y e.a.x e.b.y e.b.x place line there is
        (λ near. apart (part_at e j m positive) (of (part_at e j m positive) (record {
          at = record { k = j; n = m; start = start; finish = finish; some = positive };
          across = refl;
          up = refl;
        })) (subst (λ z. (z *ℤ square (pos over)) <ℤ (square (pos reach) *ℤ square (pos 1 *ℤ m)))
        (+ℤ_comm (square (part j m e.a.y e.b.y *ℤ pos 1 -ℤ there *ℤ m)) (square (part j m e.a.x e.b.x *ℤ pos 1 -ℤ line *ℤ m))) near))

    between_apart : (axis : Axis) → IsApart edges reach over (rational (point_on axis line place)) → IsApart edges reach over (rational (point_on axis line (place +ℤ pos 1)))
        → (u w : RationalPoint) → IsBetween (point_on axis line place) (point_on axis line (place +ℤ pos 1)) u → IsBetween e.a e.b w
        → ¬ IsCloser (pos reach) (pos over) u w
    between_apart axis.X first last u w at on near =
        let k = at.at.k in
        let n = at.at.n in
        let j = on.at.k in
        let m = on.at.n in
        let n_some = at.at.some in
        let m_some = on.at.some in
        none_between (pos reach) (pos over) k n (omega (arith, ints)) (omega (arith, ints)) at.at.start at.at.finish n_some j m on.at.start on.at.finish m_some
        (e.a.x -ℤ place) (e.a.y -ℤ line) (e.b.x -ℤ place) (e.b.y -ℤ line)
        (row_keeps_off (pos 0) place (omega (arith, ints)) first) (row_keeps_off (pos 1) (place +ℤ pos 1) refl last)
        (shorter_by (pos reach) (pos over) (n *ℤ m) (u.over *ℤ w.over) _ _ _ _ (times_pos n m (omega (arith, ints)) (omega (arith, ints)))
        (way_along n m u.over w.over k j e.a.x e.b.x place w.x u.x on.across at.across)
        (way_across n m u.over w.over k j e.a.y e.b.y line w.y u.y on.up at.up) near)
    between_apart axis.Y first last u w at on near =
        let k = at.at.k in
        let n = at.at.n in
        let j = on.at.k in
        let m = on.at.n in
        let n_some = at.at.some in
        let m_some = on.at.some in
        none_between (pos reach) (pos over) k n (omega (arith, ints)) (omega (arith, ints)) at.at.start at.at.finish n_some j m on.at.start on.at.finish m_some
        (e.a.y -ℤ place) (e.a.x -ℤ line) (e.b.y -ℤ place) (e.b.x -ℤ line)
        (column_keeps_off (pos 0) place (omega (arith, ints)) first) (column_keeps_off (pos 1) (place +ℤ pos 1) refl last)
        (shorter_by (pos reach) (pos over) (n *ℤ m) (u.over *ℤ w.over) _ _ _ _ (times_pos n m (omega (arith, ints)) (omega (arith, ints)))
        (way_along n m u.over w.over k j e.a.y e.b.y place w.y u.y on.up at.up)
        (way_across n m u.over w.over k j e.a.x e.b.x line w.x u.x on.across at.across)
        (subst (λ z. (z *ℤ square (pos over)) <ℤ (square (pos reach) *ℤ square (u.over *ℤ w.over)))
        (+ℤ_comm (square (w.x *ℤ u.over -ℤ u.x *ℤ w.over)) (square (w.y *ℤ u.over -ℤ u.y *ℤ w.over))) near))

-- the way from a good place to the next good one keeps the reach
pub neighbours_joined : (edges : List Seg) (cone : Cone) (limit radius : ℕ) (axis : Axis) (line place : ℤ) → 1 ≤ radius → 1 ≤ cone.sd
    → IsFlatGood edges cone limit radius axis line place → IsFlatGood edges cone limit radius axis line (place +ℤ pos 1) → IsFlatWay edges cone limit radius axis line place
neighbours_joined edges cone limit radius axis line place some over good next u at w (k, e, below, same, on) near =
    between_apart edges (flat_reach cone radius (deepest_of cone limit)) cone.sd over
    (let more = mul-le-mul_left cone.sd some in omega arith)
    e (λ v between. (k, e, below, same, between)) line place axis good.apart next.apart u w at on near
