-- The least box that holds the ends of strokes.
use Rattle.std.specs.Prelude.{Any}
use Rattle.std.specs.Int.{int_max, int_min}
use Rattle.std.specs.List.{AllWithin}
use Rattle.std.proofs.Common.{◌≡◌, ◌⊎◌, ℕ, ◌+◌, ◌<◌, ◌≤◌, List, [], ◌∷◌, length, get_or, ℤ, All, refl, sym, ◌∙◌, inl, inr, arith}
use Rattle.std.proofs.lemmas.Int.{ints, clamps, by_lt_z}
use Rattle.std.proofs.lemmas.List.Elements.{All-cons, All-head, All-nil, All-tail, AllWithin-more, AllWithin-upto, All-from_all_within, at_read}
use Rattle.plane_exact.specs.Plane.{GridPoint}
use Rattle.plane_exact.specs.declared.point.Seg.{Seg}
use Rattle.evenodd_region.specs.Bounds.{IsBoxOf, IsInBox}
use Rattle.stroke_engrave.specs.Bounds.{ends_of}
use Rattle.gcode_text.proofs.Anys.{any_first, any_joined, any_later}

-- both ends are in the box
pub record IsHeld (low high : GridPoint) (stroke : Seg) : Type 0 where
  pub start : IsInBox low high stroke.a
  pub finish : IsInBox low high stroke.b

-- the box of the first so many strokes
pub record IsBoxSoFar (strokes : List Seg) (n : ℕ) (low high : GridPoint) : Type 0 where
  pub within : AllWithin (IsHeld low high) strokes 0 n
  pub left : Any (λ p. p.x ≡ low.x) (ends_of strokes)
  pub right : Any (λ p. p.x ≡ high.x) (ends_of strokes)
  pub bottom : Any (λ p. p.y ≡ low.y) (ends_of strokes)
  pub top : Any (λ p. p.y ≡ high.y) (ends_of strokes)

-- ---- the ends

ends_held : (P : GridPoint → Type 0) (strokes : List Seg) → All (λ (s : Seg). P s.a × P s.b) strokes → All P (ends_of strokes)
ends_held P [] all = All-nil P
ends_held P (stroke ∷ strokes) all =
    let here = All-head (λ (s : Seg). P s.a × P s.b) stroke strokes all in
    All-cons P stroke.a (stroke.b ∷ ends_of strokes) here.0 (All-cons P stroke.b (ends_of strokes) here.1 (ends_held P strokes (All-tail (λ (s : Seg). P s.a × P s.b) stroke strokes all)))

-- a number that a stroke's end has
has_start : (axis : GridPoint → ℤ) (strokes : List Seg) (n : ℕ) (s : Seg) → n < length strokes → s ≡ get_or strokes n s → Any (λ q. axis q ≡ axis s.a) (ends_of strokes)
has_start axis strokes n s below is =
    (any_joined (λ q. axis q ≡ axis s.a) (λ stroke. stroke.a ∷ stroke.b ∷ []) strokes).0
    (n, s, below, sym is, any_first (λ q. axis q ≡ axis s.a) s.a (s.b ∷ []) refl)

has_finish : (axis : GridPoint → ℤ) (strokes : List Seg) (n : ℕ) (s : Seg) → n < length strokes → s ≡ get_or strokes n s → Any (λ q. axis q ≡ axis s.b) (ends_of strokes)
has_finish axis strokes n s below is =
    (any_joined (λ q. axis q ≡ axis s.b) (λ stroke. stroke.a ∷ stroke.b ∷ []) strokes).0
    (n, s, below, sym is, any_later (λ q. axis q ≡ axis s.b) s.a (s.b ∷ []) (any_first (λ q. axis q ≡ axis s.b) s.b [] refl))

-- one of three numbers that ends have
one_of : (axis : GridPoint → ℤ) (c d : ℤ) (p q : GridPoint) (points : List GridPoint) → ((d ≡ c) ⊎ (d ≡ axis p)) ⊎ (d ≡ axis q)
    → Any (λ r. axis r ≡ c) points → Any (λ r. axis r ≡ axis p) points → Any (λ r. axis r ≡ axis q) points → Any (λ r. axis r ≡ d) points
one_of axis c d p q points (inl (inl is)) old new more = (old.0, old.1, old.2, old.3, old.4 ∙ sym is)
one_of axis c d p q points (inl (inr is)) old new more = (new.0, new.1, new.2, new.3, new.4 ∙ sym is)
one_of axis c d p q points (inr is) old new more = (more.0, more.1, more.2, more.3, more.4 ∙ sym is)

least : (d c a b : ℤ) → d ≡ int_min (int_min c a) b → ((d ≡ c) ⊎ (d ≡ a)) ⊎ (d ≡ b)
least d c a b is = by_lt_z b (int_min c a)
    (λ l. inr (omega (arith, ints, clamps)))
    (λ l. inl (by_lt_z a c (λ m. inr (omega (arith, ints, clamps))) (λ m. inl (omega (arith, ints, clamps)))))

greatest : (d c a b : ℤ) → d ≡ int_max (int_max c a) b → ((d ≡ c) ⊎ (d ≡ a)) ⊎ (d ≡ b)
greatest d c a b is = by_lt_z b (int_max c a)
    (λ l. inl (by_lt_z a c (λ m. inl (omega (arith, ints, clamps))) (λ m. inr (omega (arith, ints, clamps)))))
    (λ l. inr (omega (arith, ints, clamps)))

-- ---- the box made wider for a stroke

module _ (strokes : List Seg) (n : ℕ) (low high low' high' : GridPoint) (s : Seg) (below : n < length strokes) (is : s ≡ get_or strokes n s)
    (left : low'.x ≡ int_min (int_min low.x s.a.x) s.b.x) (bottom : low'.y ≡ int_min (int_min low.y s.a.y) s.b.y)
    (right : high'.x ≡ int_max (int_max high.x s.a.x) s.b.x) (top : high'.y ≡ int_max (int_max high.y s.a.y) s.b.y) where
  wider : (p : GridPoint) → IsInBox low high p → IsInBox low' high' p
  wider p box =
      let across = box.across in
      let up = box.up in
      record {
        across = record { low = omega (arith, ints, clamps); high = omega (arith, ints, clamps) };
        up = record { low = omega (arith, ints, clamps); high = omega (arith, ints, clamps) };
      }

  here : IsHeld low' high' s
  here = record {
    start = record {
      across = record { low = omega (arith, ints, clamps); high = omega (arith, ints, clamps) };
      up = record { low = omega (arith, ints, clamps); high = omega (arith, ints, clamps) };
    };
    finish = record {
      across = record { low = omega (arith, ints, clamps); high = omega (arith, ints, clamps) };
      up = record { low = omega (arith, ints, clamps); high = omega (arith, ints, clamps) };
    };
  }

  pub box_more : IsBoxSoFar strokes n low high → IsBoxSoFar strokes (n + 1) low' high'
  box_more box =
      let points = ends_of strokes in record {
        within = AllWithin-more (IsHeld low' high') strokes 0 n
            (λ k d from to. let was = box.within k d from to in record { start = wider _ was.start; finish = wider _ was.finish })
            (at_read strokes (IsHeld low' high') n s below is here);
        left = one_of (λ p. p.x) low.x low'.x s.a s.b points (least _ _ _ _ left) box.left (has_start (λ p. p.x) strokes n s below is) (has_finish (λ p. p.x) strokes n s below is);
        right = one_of (λ p. p.x) high.x high'.x s.a s.b points (greatest _ _ _ _ right) box.right (has_start (λ p. p.x) strokes n s below is) (has_finish (λ p. p.x) strokes n s below is);
        bottom = one_of (λ p. p.y) low.y low'.y s.a s.b points (least _ _ _ _ bottom) box.bottom (has_start (λ p. p.y) strokes n s below is) (has_finish (λ p. p.y) strokes n s below is);
        top = one_of (λ p. p.y) high.y high'.y s.a s.b points (greatest _ _ _ _ top) box.top (has_start (λ p. p.y) strokes n s below is) (has_finish (λ p. p.y) strokes n s below is);
      }

-- all ends are in the box of as many as there are
pub box_of_all : (strokes : List Seg) (n : ℕ) (low high : GridPoint) → length strokes ≤ n → IsBoxSoFar strokes n low high → IsBoxOf (ends_of strokes) low high
box_of_all strokes n low high whole box =
    let each = All-from_all_within (IsHeld low high) strokes (AllWithin-upto (IsHeld low high) strokes 0 n (length strokes) whole box.within) in record {
      within = ends_held (IsInBox low high) strokes (λ k d below. let both = each k d below in (both.start, both.finish));
      left = box.left;
      right = box.right;
      bottom = box.bottom;
      top = box.top;
    }

-- before the first stroke, about its start
pub box_of_none : (first : Seg) (others : List Seg) → IsBoxSoFar (first ∷ others) 0 first.a first.a
box_of_none first others =
    let points = ends_of others in record {
      within = λ k d from to. absurd (omega arith);
      left = any_first (λ p. p.x ≡ first.a.x) first.a (first.b ∷ points) refl;
      right = any_first (λ p. p.x ≡ first.a.x) first.a (first.b ∷ points) refl;
      bottom = any_first (λ p. p.y ≡ first.a.y) first.a (first.b ∷ points) refl;
      top = any_first (λ p. p.y ≡ first.a.y) first.a (first.b ∷ points) refl;
    }
