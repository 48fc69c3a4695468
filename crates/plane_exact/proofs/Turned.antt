-- How two segments meet doesn't change where the second is turned round; and the feet of two ends on a line differ as the ends do.
use Rattle.std.proofs.Common.{◌≡◌, ◌≢◌, ℤ, pos, ◌+ℤ◌, ◌-ℤ◌, ◌*ℤ◌, ◌<ℤ◌, inl, inr, [], ◌∷◌, arith, sym, subst, ap, ap₂, ◌∙◌}
use Rattle.std.proofs.lemmas.Int.{ints, by_lt_z}
use Rattle.integer_algebra.proofs.Ring.{ring, V, ◌⊕◌, ◌⊖◌, ◌⊗◌}
use Rattle.integer_algebra.proofs.Order.{squares_zero, cancel_same}
use Rattle.plane_exact.specs.Plane.{GridPoint, RationalPoint, IsBetween, rational}
use Rattle.plane_exact.specs.Product.{cross_of, dot_of}
use Rattle.plane_exact.specs.Meet.{IsSame, IsCommon, IsEnd, IsMeet}
use Rattle.plane_exact.specs.declared.point.Seg.{Seg}
use Rattle.plane_exact.specs.declared.meet.Meet.{Meet}
use Rattle.plane_exact.specs.declared.meet.Meet.TheVariants.{Apart, AtEnds, Crosses, Overlaps}
use Rattle.plane_exact.proofs.Fractions.{turned}
use Rattle.plane_exact.proofs.Overlaps.{foot_of}

turned_coordinate : (n k o z a b : ℤ) → n *ℤ z ≡ o *ℤ (n *ℤ b +ℤ k *ℤ (a -ℤ b)) → n *ℤ z ≡ o *ℤ (n *ℤ a +ℤ (n -ℤ k) *ℤ (b -ℤ a))
turned_coordinate n k o z a b e = e ∙ ring (n ∷ k ∷ o ∷ a ∷ b ∷ []) (V 2 ⊗ (V 0 ⊗ V 4 ⊕ V 1 ⊗ (V 3 ⊖ V 4))) (V 2 ⊗ (V 0 ⊗ V 3 ⊕ (V 0 ⊖ V 1) ⊗ (V 4 ⊖ V 3))) tt

turned_between : (a b : GridPoint) (w : RationalPoint) → IsBetween b a w → IsBetween a b w
turned_between a b w on =
    record {
      at = turned on.at;
      across = turned_coordinate on.at.n on.at.k w.over w.x a.x b.x on.across;
      up = turned_coordinate on.at.n on.at.k w.over w.y a.y b.y on.up;
    }

module _ (s t r : Seg) (e : r.a ≡ t.b) (f : r.b ≡ t.a) where
  there : (w : RationalPoint) → IsCommon s r w → IsCommon s t w
  there w on = record { first = on.first; second = turned_between t.a t.b w (subst (λ q. IsBetween q t.a w) e (subst (λ q. IsBetween r.a q w) f on.second)) }

  back : (w : RationalPoint) → IsCommon s t w → IsCommon s r w
  back w on = record { first = on.first; second = turned_between r.a r.b w (subst (λ q. IsBetween q r.a w) (sym f) (subst (λ q. IsBetween t.a q w) (sym e) on.second)) }

  end_there : (w : RationalPoint) → IsEnd r w → IsEnd t w
  end_there w (inl same) = inr (subst (λ q. IsSame w (rational q)) e same)
  end_there w (inr same) = inl (subst (λ q. IsSame w (rational q)) f same)

  end_back : (w : RationalPoint) → IsEnd t w → IsEnd r w
  end_back w (inl same) = inr (subst (λ q. IsSame w (rational q)) (sym f) same)
  end_back w (inr same) = inl (subst (λ q. IsSame w (rational q)) (sym e) same)

  pub turned_meet : (m : Meet) → IsMeet s r m → IsMeet s t m
  turned_meet Apart h = (λ w on. h w (back w on))
  turned_meet AtEnds h = record { point = h.point; common = there h.point h.common; only = (λ v on. h.only v (back v on)); these = (h.these.0, end_there h.point h.these.1) }
  turned_meet Crosses h = record { point = h.point; common = there h.point h.common; only = (λ v on. h.only v (back v on)); these = (λ ends. h.these (ends.0, end_back h.point ends.1)) }
  turned_meet Overlaps h = record { point = h.point; other = h.other; common = there h.point h.common; also = there h.other h.also; differ = h.differ }

  pub turned_less : dot_of s.a s.b t.b <ℤ dot_of s.a s.b t.a → dot_of s.a s.b r.a <ℤ dot_of s.a s.b r.b
  turned_less h = subst (λ q. dot_of s.a s.b r.a <ℤ dot_of s.a s.b q) (sym f) (subst (λ q. dot_of s.a s.b q <ℤ dot_of s.a s.b t.a) (sym e) h)

same_point : (p q : GridPoint) → p.x ≡ q.x → p.y ≡ q.y → p ≡ q
same_point p q e f = ap₂ {C = GridPoint} (λ x y. record { x = x; y = y }) e f

same_end : (L u v d a p q : ℤ) → pos 0 <ℤ L → u ≡ v → L *ℤ (p -ℤ a) ≡ u *ℤ d → L *ℤ (q -ℤ a) ≡ v *ℤ d → p ≡ q
same_end L u v d a p q h e f g =
    let same = ap (λ z. z *ℤ d) e in
    let level = cancel_same L (p -ℤ a) (q -ℤ a) h (f ∙ same ∙ sym g) in
    omega (arith, ints)

long : (s : Seg) → s.a ≢ s.b → pos 0 <ℤ dot_of s.a s.b s.b
long s apart = by_lt_z (pos 0) (dot_of s.a s.b s.b) (λ l. l) (λ short.
    let none = squares_zero (s.b.x -ℤ s.a.x) (s.b.y -ℤ s.a.y) short in
    let no_x = none.0 in
    let no_y = none.1 in
    absurd (apart (same_point s.a s.b (omega (arith, ints)) (omega (arith, ints)))))

pub feet_differ : (s t : Seg) → s.a ≢ s.b → t.a ≢ t.b → cross_of s.a s.b t.a ≡ pos 0 → cross_of s.a s.b t.b ≡ pos 0 → ¬ (dot_of s.a s.b t.a ≡ dot_of s.a s.b t.b)
feet_differ s t first second start finish same =
    second (same_point t.a t.b
    (same_end (dot_of s.a s.b s.b) (dot_of s.a s.b t.a) (dot_of s.a s.b t.b) (s.b.x -ℤ s.a.x) s.a.x t.a.x t.b.x (long s first) same (foot_of s t.a start).0 (foot_of s t.b finish).0)
    (same_end (dot_of s.a s.b s.b) (dot_of s.a s.b t.a) (dot_of s.a s.b t.b) (s.b.y -ℤ s.a.y) s.a.y t.a.y t.b.y (long s first) same (foot_of s t.a start).1 (foot_of s t.b finish).1))
