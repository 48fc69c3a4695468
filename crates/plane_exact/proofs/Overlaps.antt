-- Two segments of one line that go the same way: by the feet of the ends of the second along the first.
use Rattle.std.proofs.Common.{◌≡◌, ℤ, pos, ◌+ℤ◌, ◌-ℤ◌, ◌*ℤ◌, neg_ℤ, ◌≤ℤ◌, ◌<ℤ◌, ◌⊎◌, inl, inr, [], ◌∷◌, arith, refl, sym, ap₂, ◌∙◌}
use Rattle.std.proofs.lemmas.Int.{ints, by_lt_z}
use Rattle.integer_algebra.proofs.Ring.{ring, V, M, ◌⊕◌, ◌⊖◌, ◌⊗◌}
use Rattle.integer_algebra.proofs.Order.{squares_zero, times_zero, times_nonneg, times_lt, cancel_le, cancel_same}
use Rattle.plane_exact.specs.Plane.{GridPoint, RationalPoint, rational}
use Rattle.plane_exact.specs.Product.{cross_of, dot_of}
use Rattle.plane_exact.specs.Meet.{IsSame, IsCommon, IsEnd, IsEndOfBoth, HasOne, HasMore}
use Rattle.plane_exact.specs.declared.point.Seg.{Seg}
use Rattle.plane_exact.proofs.Collinear.{foot}
use Rattle.plane_exact.proofs.Places.{at, IsAt, between, by_feet, same_place, IsDirection, direction_of, at_end}

-- a way along which two points differ is some way
long_of : (dx dy fx fy hx hy : ℤ) → (dx *ℤ fx +ℤ dy *ℤ fy) <ℤ (dx *ℤ hx +ℤ dy *ℤ hy) → pos 0 <ℤ (dx *ℤ dx +ℤ dy *ℤ dy)
long_of dx dy fx fy hx hy h = by_lt_z (pos 0) (dx *ℤ dx +ℤ dy *ℤ dy) (λ l. l) (λ short.
    let none = squares_zero dx dy short in
    let f = ap₂ (λ x y. x *ℤ fx +ℤ y *ℤ fy) none.0 none.1 in
    let g = ap₂ (λ x y. x *ℤ hx +ℤ y *ℤ hy) none.0 none.1 in
    absurd (omega (arith, ints)))

-- one coordinate of a place on both segments
laid : (L u v k a b c g : ℤ) → L *ℤ (c -ℤ a) ≡ u *ℤ (b -ℤ a) → L *ℤ (g -ℤ a) ≡ v *ℤ (b -ℤ a) → (v -ℤ u) *ℤ (L *ℤ a +ℤ k *ℤ (b -ℤ a)) ≡ L *ℤ ((v -ℤ u) *ℤ c +ℤ (k -ℤ u) *ℤ (g -ℤ c))
laid L u v k a b c g e f =
    let xs = L ∷ u ∷ v ∷ k ∷ a ∷ b ∷ c ∷ g ∷ [] in
    let d = V 5 ⊖ V 4 in
    ring xs ((V 2 ⊖ V 1) ⊗ (V 0 ⊗ V 4 ⊕ V 3 ⊗ d)) ((V 2 ⊖ V 1) ⊗ (V 0 ⊗ V 4) ⊕ (V 2 ⊖ V 1) ⊗ (V 1 ⊗ d) ⊕ (V 3 ⊖ V 1) ⊗ (V 2 ⊗ d ⊖ V 1 ⊗ d)) tt
    ∙ ap₂ (λ x y. (v -ℤ u) *ℤ (L *ℤ a) +ℤ (v -ℤ u) *ℤ x +ℤ (k -ℤ u) *ℤ (y -ℤ x)) (sym e) (sym f)
    ∙ ring xs ((V 2 ⊖ V 1) ⊗ (V 0 ⊗ V 4) ⊕ (V 2 ⊖ V 1) ⊗ (V 0 ⊗ (V 6 ⊖ V 4)) ⊕ (V 3 ⊖ V 1) ⊗ (V 0 ⊗ (V 7 ⊖ V 4) ⊖ V 0 ⊗ (V 6 ⊖ V 4))) (V 0 ⊗ ((V 2 ⊖ V 1) ⊗ V 6 ⊕ (V 3 ⊖ V 1) ⊗ (V 7 ⊖ V 6))) tt

-- one coordinate of the place of an end
end_there : (L k a d g : ℤ) → L *ℤ (g -ℤ a) ≡ k *ℤ d → (L *ℤ a +ℤ k *ℤ d) *ℤ pos 1 ≡ g *ℤ L
end_there L k a d g e = let split = ring (L ∷ a ∷ g ∷ []) (V 0 ⊗ (V 2 ⊖ V 1)) (V 2 ⊗ V 0 ⊖ V 0 ⊗ V 1) tt in omega (arith, ints)

-- one coordinate of two places that are the same
no_gap : (L k j a d : ℤ) → pos 0 <ℤ L → (L *ℤ a +ℤ k *ℤ d) *ℤ L ≡ (L *ℤ a +ℤ j *ℤ d) *ℤ L → (k -ℤ j) *ℤ d ≡ pos 0
no_gap L k j a d h e =
    let xs = L ∷ k ∷ j ∷ a ∷ d ∷ [] in
    let split = ring xs (V 0 ⊗ ((V 1 ⊖ V 2) ⊗ V 4)) ((V 0 ⊗ V 3 ⊕ V 1 ⊗ V 4) ⊗ V 0 ⊖ (V 0 ⊗ V 3 ⊕ V 2 ⊗ V 4) ⊗ V 0) tt in
    let none = times_zero L in
    cancel_same L ((k -ℤ j) *ℤ d) (pos 0) h (omega (arith, ints))

-- k / n of the length L lies from u to v
record IsFrom (k n L u v : ℤ) : Type 0 where
  low : (n *ℤ u) ≤ℤ (k *ℤ L)
  high : (k *ℤ L) ≤ℤ (n *ℤ v)

from_feet : (k n l m L u v : ℤ) → pos 0 ≤ℤ l → l ≤ℤ m → pos 1 ≤ℤ m → pos 1 ≤ℤ n → u <ℤ v → m *ℤ (k *ℤ L) ≡ n *ℤ (m *ℤ u +ℤ l *ℤ (v -ℤ u)) → IsFrom k n L u v
from_feet k n l m L u v start finish some_m some_n h e =
    let xs = n ∷ l ∷ m ∷ u ∷ v ∷ [] in
    let p = times_nonneg n (l *ℤ (v -ℤ u)) (omega (arith, ints)) (times_nonneg l (v -ℤ u) start (omega (arith, ints))) in
    let q = times_nonneg n ((m -ℤ l) *ℤ (v -ℤ u)) (omega (arith, ints)) (times_nonneg (m -ℤ l) (v -ℤ u) (omega (arith, ints)) (omega (arith, ints))) in
    let below = ring xs (V 0 ⊗ (V 2 ⊗ V 3 ⊕ V 1 ⊗ (V 4 ⊖ V 3))) (V 2 ⊗ (V 0 ⊗ V 3) ⊕ V 0 ⊗ (V 1 ⊗ (V 4 ⊖ V 3))) tt in
    let above = ring xs (V 0 ⊗ (V 2 ⊗ V 3 ⊕ V 1 ⊗ (V 4 ⊖ V 3))) (V 2 ⊗ (V 0 ⊗ V 4) ⊖ V 0 ⊗ ((V 2 ⊖ V 1) ⊗ (V 4 ⊖ V 3))) tt in
    record { low = cancel_le m _ _ (omega (arith, ints)) (omega (arith, ints)); high = cancel_le m _ _ (omega (arith, ints)) (omega (arith, ints)) }

-- the way to a point of the line, by its foot
pub foot_of : (s : Seg) (p : GridPoint) → cross_of s.a s.b p ≡ pos 0
    → (dot_of s.a s.b s.b *ℤ (p.x -ℤ s.a.x) ≡ dot_of s.a s.b p *ℤ (s.b.x -ℤ s.a.x)) × (dot_of s.a s.b s.b *ℤ (p.y -ℤ s.a.y) ≡ dot_of s.a s.b p *ℤ (s.b.y -ℤ s.a.y))
foot_of s p level = foot (s.b.x -ℤ s.a.x) (s.b.y -ℤ s.a.y) (p.x -ℤ s.a.x) (p.y -ℤ s.a.y) level

module _ (s t : Seg) (start_level : cross_of s.a s.b t.a ≡ pos 0) (finish_level : cross_of s.a s.b t.b ≡ pos 0) (forward : dot_of s.a s.b t.a <ℤ dot_of s.a s.b t.b) where
  long : pos 1 ≤ℤ dot_of s.a s.b s.b
  long = let h = long_of (s.b.x -ℤ s.a.x) (s.b.y -ℤ s.a.y) (t.a.x -ℤ s.a.x) (t.a.y -ℤ s.a.y) (t.b.x -ℤ s.a.x) (t.b.y -ℤ s.a.y) forward in omega (arith, ints)

  abbrev place : ℤ → RationalPoint
  place k = at s.a s.b k (dot_of s.a s.b s.b) long

  on_first : (k : ℤ) → IsAt s.a s.b k (place k)
  on_first k = record { across = refl; up = refl }

  end_place : (p : GridPoint) → cross_of s.a s.b p ≡ pos 0 → IsSame (place (dot_of s.a s.b p)) (rational p)
  end_place p level = record {
    across = end_there (dot_of s.a s.b s.b) (dot_of s.a s.b p) s.a.x (s.b.x -ℤ s.a.x) p.x (foot_of s p level).0;
    up = end_there (dot_of s.a s.b s.b) (dot_of s.a s.b p) s.a.y (s.b.y -ℤ s.a.y) p.y (foot_of s p level).1;
  }

  -- k is along both
  record IsAlong (k : ℤ) : Type 0 where
    start : pos 0 ≤ℤ k
    finish : k ≤ℤ dot_of s.a s.b s.b
    after : dot_of s.a s.b t.a ≤ℤ k
    before : k ≤ℤ dot_of s.a s.b t.b

  common : (k : ℤ) → IsAlong k → IsCommon s t (place k)
  common k along =
      let after = along.after in
      let before = along.before in
      record {
        first = between s.a s.b k (place k) along.start along.finish (on_first k);
        second = record {
          at = record {
            k = k -ℤ dot_of s.a s.b t.a;
            n = dot_of s.a s.b t.b -ℤ dot_of s.a s.b t.a;
            start = omega (arith, ints);
            finish = omega (arith, ints);
            some = omega (arith, ints);
          };
          across = laid (dot_of s.a s.b s.b) (dot_of s.a s.b t.a) (dot_of s.a s.b t.b) k s.a.x s.b.x t.a.x t.b.x (foot_of s t.a start_level).0 (foot_of s t.b finish_level).0;
          up = laid (dot_of s.a s.b s.b) (dot_of s.a s.b t.a) (dot_of s.a s.b t.b) k s.a.y s.b.y t.a.y t.b.y (foot_of s t.a start_level).1 (foot_of s t.b finish_level).1;
        };
      }

  within : (w : RationalPoint) (on : IsCommon s t w) → IsFrom on.first.at.k on.first.at.n (dot_of s.a s.b s.b) (dot_of s.a s.b t.a) (dot_of s.a s.b t.b)
  within w on = let q = on.second in from_feet on.first.at.k on.first.at.n q.at.k q.at.n _ _ _ q.at.start q.at.finish q.at.some on.first.at.some forward (by_feet s.a s.b t.a t.b w on.first on.second)

  -- and from end to end of the first, of which it is a point
  whole : (w : RationalPoint) (on : IsCommon s t w) → IsFrom on.first.at.k on.first.at.n (dot_of s.a s.b s.b) (pos 0) (dot_of s.a s.b s.b)
  whole w on =
      let some = long in
      let start = times_nonneg on.first.at.k (dot_of s.a s.b s.b) on.first.at.start (omega (arith, ints)) in
      let finish = times_nonneg (on.first.at.n -ℤ on.first.at.k) (dot_of s.a s.b s.b) (let most = on.first.at.finish in omega (arith, ints)) (omega (arith, ints)) in
      let split = ring (dot_of s.a s.b s.b ∷ on.first.at.k ∷ on.first.at.n ∷ []) ((V 2 ⊖ V 1) ⊗ V 0) (V 2 ⊗ V 0 ⊖ V 1 ⊗ V 0) tt in
      let none = times_zero on.first.at.n in
      record { low = omega (arith, ints); high = omega (arith, ints) }

  pub none_before : dot_of s.a s.b t.b <ℤ pos 0 → (w : RationalPoint) → ¬ IsCommon s t w
  none_before h w on =
      let some = on.first.at.some in
      let high = (within w on).high in
      let low = (whole w on).low in
      let q = times_lt on.first.at.n (dot_of s.a s.b t.b) (pos 0) (omega (arith, ints)) h in
      omega (arith, ints)

  pub none_after : dot_of s.a s.b s.b <ℤ dot_of s.a s.b t.a → (w : RationalPoint) → ¬ IsCommon s t w
  none_after h w on =
      let some = on.first.at.some in
      let low = (within w on).low in
      let high = (whole w on).high in
      let q = times_lt on.first.at.n (dot_of s.a s.b s.b) (dot_of s.a s.b t.a) (omega (arith, ints)) h in
      omega (arith, ints)

  -- each common point is at this one end of the first, which is an end of the second
  one_at : (k : ℤ) → IsAlong k → ((v : RationalPoint) (on : IsCommon s t v) → IsFrom on.first.at.k on.first.at.n (dot_of s.a s.b s.b) k k)
      → (k ≡ pos 0) ⊎ (k ≡ dot_of s.a s.b s.b) → IsEnd t (place k) → HasOne s t (IsEndOfBoth s t)
  one_at k along here first second = record {
    point = place k;
    common = common k along;
    only = (λ v on. same_place s.a s.b v on.first k _ long (let low = (here v on).low in let high = (here v on).high in omega (arith, ints)));
    these = (at_end s.a s.b k (place k) (on_first k) first, second);
  }

  pub one_at_start : dot_of s.a s.b t.b ≡ pos 0 → HasOne s t (IsEndOfBoth s t)
  one_at_start h =
      let some = long in
      one_at (dot_of s.a s.b t.b) (record { start = omega (arith, ints); finish = omega (arith, ints); after = omega (arith, ints); before = omega (arith, ints) })
      (λ v on. record { low = rw h (whole v on).low; high = (within v on).high }) (inl h) (inr (end_place t.b finish_level))

  pub one_at_finish : dot_of s.a s.b t.a ≡ dot_of s.a s.b s.b → HasOne s t (IsEndOfBoth s t)
  one_at_finish h =
      let some = long in
      one_at (dot_of s.a s.b t.a) (record { start = omega (arith, ints); finish = omega (arith, ints); after = omega (arith, ints); before = omega (arith, ints) })
      (λ v on. record { low = (within v on).low; high = rw h (whole v on).high }) (inr h) (inl (end_place t.a start_level))

  way : IsDirection (s.b.x -ℤ s.a.x) (s.b.y -ℤ s.a.y)
  way = direction_of (s.b.x -ℤ s.a.x) (s.b.y -ℤ s.a.y) (neg_ℤ (s.b.y -ℤ s.a.y)) (s.b.x -ℤ s.a.x) (λ e.
      let some = long in
      let same = ring ((s.b.x -ℤ s.a.x) ∷ (s.b.y -ℤ s.a.y) ∷ []) (V 0 ⊗ V 0 ⊖ V 1 ⊗ M (V 1)) (V 0 ⊗ V 0 ⊕ V 1 ⊗ V 1) tt in
      omega (arith, ints))

  -- two places, the first not before the start of either segment and the second not after the finish of either
  two : (k j : ℤ) → pos 0 ≤ℤ k → dot_of s.a s.b t.a ≤ℤ k → k <ℤ j → j ≤ℤ dot_of s.a s.b s.b → j ≤ℤ dot_of s.a s.b t.b → HasMore s t
  two k j after_first after_second h before_first before_second = record {
    point = place k;
    other = place j;
    common = common k (record { start = after_first; finish = omega (arith, ints); after = after_second; before = omega (arith, ints) });
    also = common j (record { start = omega (arith, ints); finish = before_first; after = omega (arith, ints); before = before_second });
    differ = (λ same.
        let some = long in
        let no_more = way (k -ℤ j) (no_gap _ k j s.a.x _ (omega (arith, ints)) same.across) (no_gap _ k j s.a.y _ (omega (arith, ints)) same.up) in
        omega (arith, ints));
  }

  pub more : pos 0 <ℤ dot_of s.a s.b t.b → dot_of s.a s.b t.a <ℤ dot_of s.a s.b s.b → HasMore s t
  more h k =
      let some = long in
      let first = dot_of s.a s.b t.a in
      let last = dot_of s.a s.b t.b in
      let L = dot_of s.a s.b s.b in
      by_lt_z (pos 0) first
      (λ l. by_lt_z last L (λ m. two first last (omega (arith, ints)) (omega (arith, ints)) forward (omega (arith, ints)) (omega (arith, ints))) (λ m. two first L (omega (arith, ints)) (omega (arith, ints)) k (omega (arith, ints)) (omega (arith, ints))))
      (λ l. by_lt_z last L (λ m. two (pos 0) last (omega (arith, ints)) (omega (arith, ints)) h (omega (arith, ints)) (omega (arith, ints))) (λ m. two (pos 0) L (omega (arith, ints)) (omega (arith, ints)) (omega (arith, ints)) (omega (arith, ints)) (omega (arith, ints))))
