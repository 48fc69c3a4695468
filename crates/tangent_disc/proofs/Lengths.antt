-- Lengths of edges, rounded up, and the pieces that a step divides an edge into.
use Rattle.std.proofs.Common.{◌≡◌, ◌≢◌, ℕ, ◌+◌, ◌*◌, ◌<◌, ◌≤◌, max, Some, List, [], ◌∷◌, All, ℤ, pos, ◌-ℤ◌, ◌≤ℤ◌, arith, ap₂, subst, mul-le-mul, inl, inr}
use Rattle.std.proofs.lemmas.Int.{ints, by_lt_z}
use Rattle.std.proofs.lemmas.Bool.{cases_lt}
use Rattle.std.proofs.lemmas.Grind.{div_ceil_times}
use Rattle.std.proofs.lemmas.List.Elements.{All-append, All-head, All-nil, All-tail}
use Rattle.std.proofs.lemmas.Option.{get_or_from_slice_get, slice_get_within}
use Rattle.std.specs.Int.{div_ceil}
use Rattle.std.specs.List.{slice_get}
use Rattle.integer_algebra.proofs.Order.{square_le, squares_zero}
use Rattle.plane_exact.specs.Plane.{GridPoint}
use Rattle.plane_exact.specs.declared.point.Seg.{Seg}
use Rattle.engrave_model.specs.Drawing.{IsLoop, edges_of, edges_of_loop}
use Rattle.tangent_disc.specs.Contacts.{IsAtMostLong, IsLengthUp, IsPieces}

-- the ends of each edge of a drawing differ
edges_distinct : (loops : List (List GridPoint)) → All IsLoop loops → All (λ (e : Seg). e.a ≢ e.b) (edges_of loops)
edges_distinct [] each = All-nil (λ (e : Seg). e.a ≢ e.b)
edges_distinct (points ∷ loops) each =
    All-append (λ (e : Seg). e.a ≢ e.b) (edges_of_loop points) (edges_of loops) (All-head IsLoop points loops each).distinct (edges_distinct loops (All-tail IsLoop points loops each))

same_point : (p q : GridPoint) → p.x ≡ q.x → p.y ≡ q.y → p ≡ q
same_point p q x y = ap₂ (λ u v. let r : GridPoint = record { x = u; y = v } in r) x y

-- an edge of a drawing is at least 1 long
pub length_some : (loops : List (List GridPoint)) → All IsLoop loops → (i : ℕ) (e : Seg) → slice_get (edges_of loops) i ≡ Some e → (rounded : ℤ) → IsLengthUp e rounded → pos 1 ≤ℤ rounded
length_some loops each i e there rounded up = by_lt_z rounded (pos 1) (λ short. absurd (apart (same (omega (arith, ints))))) (λ some. some)
  where
    apart : e.a ≢ e.b
    apart = subst (λ (d : Seg). d.a ≢ d.b) (get_or_from_slice_get (edges_of loops) i e e there) (edges_distinct loops each i e (slice_get_within (edges_of loops) i e there))

    same : rounded ≤ℤ pos 0 → e.a ≡ e.b
    same none =
        let positive = up.positive in
        let zero : rounded ≡ pos 0 = omega (arith, ints) in
        let enough = subst (λ z. IsAtMostLong e z) zero up.enough in
        let parts = squares_zero (e.b.x -ℤ e.a.x) (e.b.y -ℤ e.a.y) enough in
        let x = parts.0 in
        let y = parts.1 in
        same_point e.a e.b (omega (arith, ints)) (omega (arith, ints))

le_self : (n : ℕ) → n ≤ n
le_self n = omega arith

above : {m q : ℕ} → m < q → m + 1 ≤ q
above {m} {q} h = omega arith

enough_pieces : (rounded step q n : ℕ) → rounded ≤ q * step → q ≤ n → rounded ≤ n * step
enough_pieces rounded step q n h more = let m : q * step ≤ n * step = mul-le-mul more (le_self step) in omega arith

least_pieces : (rounded step q n m : ℕ) → q * step < rounded + step → n ≡ max q 1 → 1 ≤ m → rounded ≤ m * step → n ≤ m
least_pieces rounded step q n m high is one h = elim (cases_lt m q) [
  | inl less ↦ let p : (m + 1) * step ≤ q * step = mul-le-mul (above less) (le_self step) in absurd (omega arith)
  | inr more ↦ omega arith
]

-- the pieces, by the rounded length
pub pieces_by_length : (e : Seg) (step rounded n : ℕ) → 1 ≤ step → IsLengthUp e (pos rounded) → n ≡ max (div_ceil rounded step) 1 → IsPieces step e n
pieces_by_length e step rounded n some up is =
    let near = div_ceil_times rounded step some in
    let long = enough_pieces rounded step (div_ceil rounded step) n near.0 (omega arith) in
    record {
      some = omega arith;
      enough = long_enough e rounded (n * step) up.enough long;
      least = λ m one h. least_pieces rounded step (div_ceil rounded step) n m near.1 is one (below (up.least (pos (m * step)) (omega (arith, ints)) h));
    }
  where
    long_enough : (e : Seg) (a b : ℕ) → IsAtMostLong e (pos a) → a ≤ b → IsAtMostLong e (pos b)
    long_enough e a b h more = let p = square_le (pos a) (pos b) (omega (arith, ints)) (omega (arith, ints)) in omega (arith, ints)

    below : {a b : ℕ} → pos a ≤ℤ pos b → a ≤ b
    below {a} {b} h = omega (arith, ints)
