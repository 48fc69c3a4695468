-- Points that are one, and the tests of it.
use Rattle.std.proofs.Common.{◌≡◌, ◌≢◌, Bool, true, false, ◌||◌, ◌⊎◌, inl, inr, cond, ap, ap₂, ◌∙◌, refl, sym}
use Rattle.std.specs.Ordering.{int_eq}
use Rattle.std.proofs.lemmas.Bool.{and_from, and_parts, false_from_ne_true}
use Rattle.std.proofs.lemmas.Bool.Decides.{Decides-int_eq}
use Rattle.plane_exact.specs.Plane.{GridPoint}
use Rattle.plane_exact.specs.declared.point.Seg.{Seg}
use Rattle.plane_exact.specs.Same.{same_point}
use Rattle.loop_join.specs.Ends.{has_end, other_end}
use Rattle.loop_join.specs.Even.{at}

pub same_point-true : (p q : GridPoint) → same_point p q ≡ true → p ≡ q
same_point-true p q same =
    let parts = and_parts (int_eq p.x q.x) (int_eq p.y q.y) same in
    ap₂ (λ u v. let r : GridPoint = record { x = u; y = v } in r) ((Decides-int_eq p.x q.x).0 parts.0) ((Decides-int_eq p.y q.y).0 parts.1)

pub same_point_itself : (p : GridPoint) → same_point p p ≡ true
same_point_itself p = and_from (int_eq p.x p.x) (int_eq p.y p.y) ((Decides-int_eq p.x p.x).1 refl) ((Decides-int_eq p.y p.y).1 refl)

pub same_point-ne : (p q : GridPoint) → p ≢ q → same_point p q ≡ false
same_point-ne p q differ = false_from_ne_true (same_point p q) (λ same. differ (same_point-true p q same))

pub at_itself : (p : GridPoint) → at p p ≡ 1
at_itself p = ap (λ b. cond b 1 0) (same_point_itself p)

pub at_other : (p q : GridPoint) → p ≢ q → at p q ≡ 0
at_other p q differ = ap (λ b. cond b 1 0) (same_point-ne p q differ)

-- the ends of a segment, seen from its end at p
pub ends_from : (p : GridPoint) (s : Seg) → has_end p s ≡ true → ((p ≡ s.a) × (other_end p s ≡ s.b)) ⊎ ((p ≡ s.b) × (other_end p s ≡ s.a))
ends_from p s has = let e : same_point p s.a ≡ same_point p s.a = refl in by_test (same_point p s.a) e has
  where
    by_test : (b : Bool) → same_point p s.a ≡ b → (b || same_point p s.b) ≡ true → ((p ≡ s.a) × (cond b s.b s.a ≡ s.b)) ⊎ ((p ≡ s.b) × (cond b s.b s.a ≡ s.a))
    by_test true here has = inl (same_point-true p s.a here, refl)
    by_test false here has = inr (same_point-true p s.b has, refl)
