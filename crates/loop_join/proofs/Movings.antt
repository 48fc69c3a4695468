-- Where snapping moves points: to kept points that are near, which are far from each other.
use Rattle.std.specs.Prelude.{Any, find, is_some, unwrap_or, unsigned_abs, ◌-ℤ◌, ℤ}
use Rattle.std.proofs.Common.{◌≡◌, ℕ, ◌<◌, ◌≤◌, Bool, true, false, cond, Option, None, Some, List, [], ◌∷◌, ◌++◌, length, suc, All, ap, subst, ◌∙◌, refl, arith}
use Rattle.std.specs.List.{AllPairs, Contains}
use Rattle.std.proofs.lemmas.Bool.{and_from, le-leb}
use Rattle.std.proofs.lemmas.Int.{ints}
use Rattle.std.proofs.lemmas.List.Elements.{All-cons, All-from_recursion, All-get_or, All-nil, All-weaker, Contains-append_left, Contains-push}
use Rattle.std.proofs.lemmas.List.Quantifiers.{all_pairs_push}
use Rattle.plane_exact.specs.Plane.{GridPoint}
use Rattle.plane_exact.specs.declared.point.Seg.{Seg}
use Rattle.plane_exact.specs.Same.{same_point}
use Rattle.loop_join.specs.SnapLaw.{AreSnapped, IsMovedTo, IsSegMovedTo, kept_after}
use Rattle.loop_join.specs.Snap.{earliest_near, is_near, keep, snap_from, snap_of, snapped, unless_dropped}
use Rattle.loop_join.proofs.Places.{none_found}

-- ---- one point

record IsFound (passes : GridPoint → Bool) (points : List GridPoint) (q : GridPoint) : Type 0 where
  passing : passes q ≡ true
  among : Contains points q

found : (passes : GridPoint → Bool) (points : List GridPoint) (q : GridPoint) → find passes points ≡ Some q → IsFound passes points q
found passes [] q is = absurd (cc)
found passes (p ∷ points) q is = by (passes p) refl is (found passes points q)
  where
    by : (here : Bool) → passes p ≡ here → cond here (Some p) (find passes points) ≡ Some q → (find passes points ≡ Some q → IsFound passes points q) → IsFound passes (p ∷ points) q
    by true is_here now later =
        let same : p ≡ q = cc in
        subst (IsFound passes (p ∷ points)) same (record { passing = is_here; among = (0, omega arith, refl) })
    by false is_here now later =
        let other = later now in
        let among = other.among in
        record { passing = other.passing; among = (suc among.0, omega (arith, among.1), among.2) }

near_itself : (t : ℕ) (p : GridPoint) → is_near t p p ≡ true
near_itself t p =
    let across : unsigned_abs (p.x -ℤ p.x) ≤ t = omega (arith, ints) in
    let up : unsigned_abs (p.y -ℤ p.y) ≤ t = omega (arith, ints) in
    and_from _ _ (le-leb _ _ across) (le-leb _ _ up)

moved_to : (t : ℕ) (kept : List GridPoint) (p : GridPoint) → IsMovedTo t (keep t kept p) p (snapped t kept p)
moved_to t kept p = by (earliest_near t kept p) refl
  where
    by : (earliest : Option GridPoint) → earliest_near t kept p ≡ earliest → IsMovedTo t (cond (is_some earliest) kept (kept ++ p ∷ [])) p (unwrap_or earliest p)
    by None is = record { near = near_itself t p; is_kept = Contains-push kept p }
    by (Some q) is =
        let there = found (is_near t p) kept q is in
        record { near = there.passing; is_kept = there.among }

stays : (t : ℕ) (kept : List GridPoint) (p q : GridPoint) → Contains kept q → Contains (keep t kept p) q
stays t kept p q among = by (is_some (earliest_near t kept p))
  where
    by : (near : Bool) → Contains (cond near kept (kept ++ p ∷ [])) q
    by true = among
    by false = Contains-append_left kept (p ∷ []) q among

abbrev AreApart : ℕ → List GridPoint → Type 0
AreApart t points = AllPairs (λ p q. is_near t q p ≡ false) points

stay_apart : (t : ℕ) (kept : List GridPoint) (p : GridPoint) → AreApart t kept → AreApart t (keep t kept p)
stay_apart t kept p apart = by (earliest_near t kept p) refl
  where
    by : (earliest : Option GridPoint) → earliest_near t kept p ≡ earliest → AreApart t (cond (is_some earliest) kept (kept ++ p ∷ []))
    by None is =
        all_pairs_push (λ p q. is_near t q p ≡ false) kept p apart
        (λ k d inside. All-get_or (λ q. is_near t p q ≡ false) kept k d inside (All-from_recursion (λ q. is_near t p q ≡ false) kept (none_found (is_near t p) kept is)))
    by (Some q) is = apart

-- ---- all segments

stay_after : (t : ℕ) (kept : List GridPoint) (segs : List Seg) (q : GridPoint) → Contains kept q → Contains (kept_after t kept segs) q
stay_after t kept [] q among = among
stay_after t kept (s ∷ segs) q among = stay_after t (keep t (keep t kept s.a) s.b) segs q (stays t (keep t kept s.a) s.b q (stays t kept s.a q among))

apart_after : (t : ℕ) (kept : List GridPoint) (segs : List Seg) → AreApart t kept → AreApart t (kept_after t kept segs)
apart_after t kept [] apart = apart
apart_after t kept (s ∷ segs) apart = apart_after t (keep t (keep t kept s.a) s.b) segs (stay_apart t (keep t kept s.a) s.b (stay_apart t kept s.a apart))

any_first : (P : Seg → Type 0) (s : Seg) (segs : List Seg) → P s → Any P (s ∷ segs)
any_first P s segs here = (0, s, omega arith, refl, here)

any_later : (P : Seg → Type 0) (s : Seg) (segs : List Seg) → Any P segs → Any P (s ∷ segs)
any_later P s segs there = (suc there.0, there.1, omega (arith, there.2), there.3, there.4)

all_unless : (P : Seg → Type 0) (s : Seg) (segs : List Seg) → P s → All P segs → All P (unless_dropped s segs)
all_unless P s segs here others = by (same_point s.a s.b)
  where
    by : (same : Bool) → All P (cond same segs (s ∷ segs))
    by true = others
    by false = All-cons P s segs here others

-- the first segment
first_moved : (t : ℕ) (kept : List GridPoint) (s : Seg) (segs : List Seg)
    → IsSegMovedTo t (kept_after t kept (s ∷ segs)) s (record { a = snapped t kept s.a; b = snapped t (keep t kept s.a) s.b })
first_moved t kept s segs =
    let with_a = keep t kept s.a in
    let with_b = keep t with_a s.b in
    let a = moved_to t kept s.a in
    let b = moved_to t with_a s.b in
    record {
      a = record { near = a.near; is_kept = stay_after t with_b segs (snapped t kept s.a) (stays t with_a s.b (snapped t kept s.a) a.is_kept) };
      b = record { near = b.near; is_kept = stay_after t with_b segs (snapped t with_a s.b) b.is_kept };
    }

all_moved : (t : ℕ) (kept : List GridPoint) (segs : List Seg) → All (λ m. Any (λ s. IsSegMovedTo t (kept_after t kept segs) s m) segs) (snap_from t kept segs)
all_moved t kept [] = All-nil (λ m. Any (λ s. IsSegMovedTo t kept s m) [])
all_moved t kept (s ∷ segs) =
    let last = kept_after t kept (s ∷ segs) in
    let with_b = keep t (keep t kept s.a) s.b in
    let moved : Seg = record { a = snapped t kept s.a; b = snapped t (keep t kept s.a) s.b } in
    all_unless (λ m. Any (λ e. IsSegMovedTo t last e m) (s ∷ segs)) moved (snap_from t with_b segs)
    (any_first (λ e. IsSegMovedTo t last e moved) s segs (first_moved t kept s segs))
    (All-weaker (λ m. Any (λ e. IsSegMovedTo t last e m) segs) (λ m. Any (λ e. IsSegMovedTo t last e m) (s ∷ segs)) (λ m. any_later (λ e. IsSegMovedTo t last e m) s segs) (snap_from t with_b segs) (all_moved t with_b segs))

none_apart : (t : ℕ) → AreApart t []
none_apart t = λ i j d before inside. absurd (omega arith)

pub are_snapped : (t : ℕ) (segs : List Seg) → AreSnapped t segs (kept_after t [] segs) (snap_of t segs)
unfolding snap_of
are_snapped t segs = record { apart = apart_after t [] segs (none_apart t); near = all_moved t [] segs }
