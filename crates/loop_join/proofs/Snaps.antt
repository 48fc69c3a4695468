-- What snapping makes of segments: none has equal ends, and there are no more than before.
use Rattle.std.proofs.Common.{◌≡◌, ◌≢◌, ℕ, ◌≤◌, Bool, true, false, cond, List, [], ◌∷◌, ◌++◌, length, drop, suc, All, sym, ap, ◌∙◌, refl, arith}
use Rattle.std.proofs.lemmas.List.{append-nil, drop_all}
use Rattle.std.proofs.lemmas.List.Elements.{All-cons, All-nil}
use Rattle.plane_exact.specs.Plane.{GridPoint}
use Rattle.plane_exact.specs.declared.point.Seg.{Seg}
use Rattle.plane_exact.specs.Same.{same_point}
use Rattle.plane_exact.proofs.Differing.{same_point-false}
use Rattle.loop_join.specs.Snap.{keep, snap_from, snap_of, snapped, unless_dropped}

apart_unless : (s : Seg) (segs : List Seg) → All (λ e. e.a ≢ e.b) segs → All (λ e. e.a ≢ e.b) (unless_dropped s segs)
apart_unless s segs all = by (same_point s.a s.b) refl
  where
    by : (same : Bool) → same_point s.a s.b ≡ same → All (λ e. e.a ≢ e.b) (cond same segs (s ∷ segs))
    by true is = all
    by false is = All-cons (λ e. e.a ≢ e.b) s segs (same_point-false s.a s.b is) all

few_unless : (s : Seg) (segs : List Seg) → length (unless_dropped s segs) ≤ suc (length segs)
few_unless s segs = by (same_point s.a s.b)
  where
    by : (same : Bool) → length (cond same segs (s ∷ segs)) ≤ suc (length segs)
    by true = omega arith
    by false = omega arith

snap_from_apart : (t : ℕ) (kept : List GridPoint) (segs : List Seg) → All (λ e. e.a ≢ e.b) (snap_from t kept segs)
snap_from_apart t kept [] = All-nil (λ e. e.a ≢ e.b)
snap_from_apart t kept (s ∷ segs) =
    let others = snap_from t (keep t (keep t kept s.a) s.b) segs in
    apart_unless (record { a = snapped t kept s.a; b = snapped t (keep t kept s.a) s.b }) others (snap_from_apart t (keep t (keep t kept s.a) s.b) segs)

snap_from_few : (t : ℕ) (kept : List GridPoint) (segs : List Seg) → length (snap_from t kept segs) ≤ length segs
snap_from_few t kept [] = omega arith
snap_from_few t kept (s ∷ segs) =
    let others = snap_from t (keep t (keep t kept s.a) s.b) segs in
    omega (arith, few_unless (record { a = snapped t kept s.a; b = snapped t (keep t kept s.a) s.b }) others, snap_from_few t (keep t (keep t kept s.a) s.b) segs)

pub snap_of_apart : (t : ℕ) (segs : List Seg) → All (λ e. e.a ≢ e.b) (snap_of t segs)
unfolding snap_of
snap_of_apart t segs = snap_from_apart t [] segs

pub snap_of_few : (t : ℕ) (segs : List Seg) → length (snap_of t segs) ≤ length segs
unfolding snap_of
snap_of_few t segs = snap_from_few t [] segs

-- behind the last segment
pub snap_done : (t : ℕ) (moved : List Seg) (kept : List GridPoint) (segs : List Seg) (i : ℕ) → length segs ≤ i → moved ++ snap_from t kept (drop i segs) ≡ snap_of t segs → moved ≡ snap_of t segs
snap_done t moved kept segs i past is =
    sym (append-nil moved) ∙ ap (λ rest. moved ++ snap_from t kept rest) (sym (drop_all i segs past)) ∙ is
