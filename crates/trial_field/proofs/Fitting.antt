-- Each loop of a cell breaks no rule of a drawing.
use Rattle.std.proofs.Common.{◌≡◌, ◌≢◌, ℕ, ◌+◌, ◌<◌, ◌≤◌, Bool, true, false, ◌&&◌, List, length, None, pos, neg_ℤ, refl, arith, sum_by}
use Rattle.std.specs.List.{AllByRecursion, list_any}
use Rattle.std.specs.Ordering.{int_eq}
use Rattle.std.proofs.lemmas.Bool.Decides.{Decides-int_eq}
use Rattle.std.proofs.lemmas.Int.{ints}
use Rattle.std.proofs.lemmas.List.Elements.{All-from_recursion}
use Rattle.std.proofs.lemmas.List.Folds.{list_any_none}
use Rattle.plane_exact.specs.Plane.{GridPoint}
use Rattle.plane_exact.specs.Same.{same_point}
use Rattle.plane_exact.specs.declared.point.Seg.{Seg}
use Rattle.engrave_model.specs.Drawing.{edges_of_loop, most_edges}
use Rattle.loops_text.specs.Edges.{push_fault}
use Rattle.loops_text.proofs.Drawings.{push_fault-None}
use Rattle.trial_field.specs.Field.{about, octagon, square}

-- points that differ across or up are two
other_across : (p q : GridPoint) → p.x ≢ q.x → same_point p q ≡ false
other_across p q apart = go (int_eq p.x q.x) (Decides-int_eq p.x q.x).0
  where
    go : (b : Bool) → (b ≡ true → p.x ≡ q.x) → (b && int_eq p.y q.y) ≡ false
    go true same = absurd (apart (same refl))
    go false same = refl

other_up : (p q : GridPoint) → p.y ≢ q.y → same_point p q ≡ false
other_up p q apart = go (int_eq p.x q.x) (int_eq p.y q.y) (Decides-int_eq p.y q.y).0
  where
    go : (a b : Bool) → (b ≡ true → p.y ≡ q.y) → (a && b) ≡ false
    go false b same = refl
    go true false same = refl
    go true true same = absurd (apart (same refl))

-- no edge of the loop begins and ends at one point
abbrev IsApart : Seg → Type 0
IsApart e = same_point e.a e.b ≡ false

abbrev repeats : List GridPoint → Bool
repeats points = list_any (λ e. same_point e.a e.b) (edges_of_loop points)

none_repeats : (points : List GridPoint) → AllByRecursion IsApart (edges_of_loop points) → repeats points ≡ false
none_repeats points apart = list_any_none (λ e. same_point e.a e.b) (edges_of_loop points) (All-from_recursion IsApart (edges_of_loop points) apart)

octagon_apart : (m : GridPoint) (a b : ℕ) → b < a → 1 ≤ b → repeats (octagon m (pos a) (pos b)) ≡ false
octagon_apart m a b less some =
    none_repeats (octagon m (pos a) (pos b)) (
      other_across (about m (pos a) (pos b)) (about m (pos b) (pos a)) (λ e. omega (arith, ints, e)),
      (
        other_across (about m (pos b) (pos a)) (about m (neg_ℤ (pos b)) (pos a)) (λ e. omega (arith, ints, e)),
        (
          other_across (about m (neg_ℤ (pos b)) (pos a)) (about m (neg_ℤ (pos a)) (pos b)) (λ e. omega (arith, ints, e)),
          (
            other_up (about m (neg_ℤ (pos a)) (pos b)) (about m (neg_ℤ (pos a)) (neg_ℤ (pos b))) (λ e. omega (arith, ints, e)),
            (
              other_across (about m (neg_ℤ (pos a)) (neg_ℤ (pos b))) (about m (neg_ℤ (pos b)) (neg_ℤ (pos a))) (λ e. omega (arith, ints, e)),
              (
                other_across (about m (neg_ℤ (pos b)) (neg_ℤ (pos a))) (about m (pos b) (neg_ℤ (pos a))) (λ e. omega (arith, ints, e)),
                (
                  other_across (about m (pos b) (neg_ℤ (pos a))) (about m (pos a) (neg_ℤ (pos b))) (λ e. omega (arith, ints, e)),
                  (other_up (about m (pos a) (neg_ℤ (pos b))) (about m (pos a) (pos b)) (λ e. omega (arith, ints, e)), tt),
                ),
              ),
            ),
          ),
        ),
      ),
    )

square_apart : (m : GridPoint) (a : ℕ) → 1 ≤ a → repeats (square m (pos a)) ≡ false
square_apart m a some =
    none_repeats (square m (pos a)) (
      other_across (about m (pos a) (pos a)) (about m (neg_ℤ (pos a)) (pos a)) (λ e. omega (arith, ints, e)),
      (
        other_up (about m (neg_ℤ (pos a)) (pos a)) (about m (neg_ℤ (pos a)) (neg_ℤ (pos a))) (λ e. omega (arith, ints, e)),
        (
          other_across (about m (neg_ℤ (pos a)) (neg_ℤ (pos a))) (about m (pos a) (neg_ℤ (pos a))) (λ e. omega (arith, ints, e)),
          (other_up (about m (pos a) (neg_ℤ (pos a))) (about m (pos a) (pos a)) (λ e. omega (arith, ints, e)), tt),
        ),
      ),
    )

pub octagon_fits : (loops : List (List GridPoint)) (m : GridPoint) (a b : ℕ) → b < a → 1 ≤ b → sum_by length loops + 8 ≤ most_edges
    → push_fault loops (octagon m (pos a) (pos b)) ≡ None
octagon_fits loops m a b less some few = push_fault-None loops (octagon m (pos a) (pos b)) (omega arith) (octagon_apart m a b less some) few

pub square_fits : (loops : List (List GridPoint)) (m : GridPoint) (a : ℕ) → 1 ≤ a → sum_by length loops + 4 ≤ most_edges
    → push_fault loops (square m (pos a)) ≡ None
square_fits loops m a some few = push_fault-None loops (square m (pos a)) (omega arith) (square_apart m a some) few
