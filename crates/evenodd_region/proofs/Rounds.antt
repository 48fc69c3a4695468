-- The parity law round a loop, and over all loops of a drawing: a sum over the edges, modulo 2.
--
-- On each edge the tests at both ends of the path are as even as those of the edge's ends. Round a loop each of its points is
-- the end of two edges, and so its test drops out.
use Rattle.std.specs.Prelude.{All, count_by, if◌then◌else◌}
use Rattle.std.proofs.Common.{◌≡◌, ℕ, ◌+◌, ◌%◌, Bool, true, false, refl, List, [], ◌∷◌, ◌++◌, pos, ℤ, ◌+ℤ◌, ◌-ℤ◌, ◌*ℤ◌, arith, ap, sym, ◌∙◌, get_or}
use Rattle.std.proofs.lemmas.List.{get_or_default}
use Rattle.std.proofs.lemmas.List.Elements.{All-nil, All-cons, All-head, All-tail}
use Rattle.std.proofs.lemmas.List.Sums.{sum_by-append, sum_by-cons}
use Rattle.integer_algebra.proofs.Ring.{ring, V, K, ◌⊕◌, ◌⊖◌, ◌⊗◌}
use Rattle.plane_exact.specs.Plane.{GridPoint, RationalPoint}
use Rattle.plane_exact.specs.declared.point.Seg.{Seg}
use Rattle.engrave_model.specs.Drawing.{edges_back_to, edges_of_loop, edges_of}
use Rattle.engrave_model.specs.Inside.{is_counted}
use Rattle.plane_exact.proofs.Fractions.{first, last}
use Rattle.plane_exact.specs.Plane.{IsOnPath}
use Rattle.evenodd_region.specs.Parity.{IsPathFree, IsPathOff, ParityLaw, exactly_one, is_right_of_path}
use Rattle.evenodd_region.proofs.OneEdge.{edge_law}

-- 1 where a test holds
abbrev one : Bool → ℕ
one test = if test then 1 else 0

-- two counts are as even as two others
abbrev IsAsEven : ℕ → ℕ → ℕ → ℕ → Type 0
IsAsEven m n k l = (m + n) % 2 ≡ (k + l) % 2

parity_of : (k l : Bool) → (one k + one l) % 2 ≡ one (exactly_one k l)
parity_of true true = refl
parity_of true false = refl
parity_of false true = refl
parity_of false false = refl

as_even : (k l m n : Bool) → exactly_one k l ≡ exactly_one m n → IsAsEven (one k) (one l) (one m) (one n)
as_even k l m n same = parity_of k l ∙ ap one same ∙ sym (parity_of m n)

-- from p by way of q to r
linked : (c d m n p q r : ℕ) → IsAsEven c d p q → IsAsEven m n q r → IsAsEven (c + m) (d + n) p r
linked c d m n p q r first second = omega arith

joined : (c d m n : ℕ) → (c + d) % 2 ≡ 0 → (m + n) % 2 ≡ 0 → ((c + m) + (d + n)) % 2 ≡ 0
joined c d m n first second = omega arith

same_parity : (m n : ℕ) → (m + n) % 2 ≡ 0 → m % 2 ≡ n % 2
same_parity m n even = omega arith

closed : (m n p : ℕ) → IsAsEven m n p p → (m + n) % 2 ≡ 0
closed m n p even = omega arith

pub split : {X : Type 0} (P : X → Type 0) (xs ys : List X) → All P (xs ++ ys) → All P xs × All P ys
split P [] ys all = (All-nil P, all)
split P (x ∷ xs) ys all =
    let rest = split P xs ys (All-tail P x (xs ++ ys) all) in
    (All-cons P x xs (All-head P x (xs ++ ys) all) rest.0, rest.1)

module _ (v w : RationalPoint) where
  abbrev Off : Seg → Type 0
  Off e = IsPathOff e v w

  -- how many edges are counted at v, and at w
  abbrev at_v : List Seg → ℕ
  at_v edges = count_by (is_counted v) edges

  abbrev at_w : List Seg → ℕ
  at_w edges = count_by (is_counted w) edges

  abbrev right : GridPoint → ℕ
  right p = one (is_right_of_path v w p)

  edge_even : (e : Seg) → Off e → IsAsEven (one (is_counted v e)) (one (is_counted w e)) (right e.a) (right e.b)
  edge_even e off = as_even _ _ _ _ (edge_law e v w off)

  more : (e : Seg) (edges : List Seg) (p q r : ℕ)
      → IsAsEven (one (is_counted v e)) (one (is_counted w e)) p q
      → IsAsEven (at_v edges) (at_w edges) q r
      → IsAsEven (at_v (e ∷ edges)) (at_w (e ∷ edges)) p r
  more e edges p q r first rest =
      rw (sum_by-cons (λ e. one (is_counted v e)) e edges, sum_by-cons (λ e. one (is_counted w e)) e edges)
      (linked _ _ (at_v edges) (at_w edges) p q r first rest)

  back_to : (first p : GridPoint) (points : List GridPoint)
      → All Off (edges_back_to first (p ∷ points))
      → IsAsEven (at_v (edges_back_to first (p ∷ points))) (at_w (edges_back_to first (p ∷ points))) (right p) (right first)
  back_to first p [] off =
      let e : Seg = record { a = p; b = first } in
      more e [] (right p) (right first) (right first) (edge_even e (All-head Off e [] off)) (omega arith)
  back_to first p (q ∷ points) off =
      let e : Seg = record { a = p; b = q } in
      let rest = edges_back_to first (q ∷ points) in
      more e rest (right p) (right q) (right first) (edge_even e (All-head Off e rest off)) (back_to first q points (All-tail Off e rest off))

  loop_even : (points : List GridPoint) → All Off (edges_of_loop points)
      → (at_v (edges_of_loop points) + at_w (edges_of_loop points)) % 2 ≡ 0
  loop_even [] off = refl
  loop_even (p ∷ points) off = closed _ _ (right p) (back_to p p points off)

  loops_even : (loops : List (List GridPoint)) → All Off (edges_of loops) → (at_v (edges_of loops) + at_w (edges_of loops)) % 2 ≡ 0
  loops_even [] off = refl
  loops_even (points ∷ loops) off =
      let parts = split Off (edges_of_loop points) (edges_of loops) off in
      rw (
        sum_by-append (λ e. one (is_counted v e)) (edges_of_loop points) (edges_of loops),
        sum_by-append (λ e. one (is_counted w e)) (edges_of_loop points) (edges_of loops),
      )
      (joined (at_v (edges_of_loop points)) (at_w (edges_of_loop points)) _ _ (loop_even points parts.0) (loops_even loops parts.1))

-- one coordinate of the path's ends, as points of it
at_start : (v m w o : ℤ) → (pos 1 *ℤ (m *ℤ o)) *ℤ v ≡ m *ℤ ((pos 1 -ℤ pos 0) *ℤ (o *ℤ v) +ℤ pos 0 *ℤ (m *ℤ w))
at_start v m w o =
    ring (v ∷ m ∷ w ∷ o ∷ []) ((K (pos 1) ⊗ (V 1 ⊗ V 3)) ⊗ V 0) (V 1 ⊗ ((K (pos 1) ⊖ K (pos 0)) ⊗ (V 3 ⊗ V 0) ⊕ K (pos 0) ⊗ (V 1 ⊗ V 2))) tt

at_end : (v m w o : ℤ) → (pos 1 *ℤ (m *ℤ o)) *ℤ w ≡ o *ℤ ((pos 1 -ℤ pos 1) *ℤ (o *ℤ v) +ℤ pos 1 *ℤ (m *ℤ w))
at_end v m w o =
    ring (v ∷ m ∷ w ∷ o ∷ []) ((K (pos 1) ⊗ (V 1 ⊗ V 3)) ⊗ V 2) (V 3 ⊗ ((K (pos 1) ⊖ K (pos 1)) ⊗ (V 3 ⊗ V 0) ⊕ K (pos 1) ⊗ (V 1 ⊗ V 2))) tt

module _ (v w : RationalPoint) where
  starts_path : IsOnPath v w v
  starts_path = record {
    at = first;
    across = at_start v.x v.over w.x w.over;
    up = at_start v.y v.over w.y w.over;
  }

  ends_path : IsOnPath v w w
  ends_path = record {
    at = last;
    across = at_end v.x v.over w.x w.over;
    up = at_end v.y v.over w.y w.over;
  }

  each_off : (edges : List Seg) → IsPathFree edges v w → All (λ e. IsPathOff e v w) edges
  each_off edges free k d below u on between =
      free u on (k, get_or edges k d, below, get_or_default edges k (get_or edges k d) d below, between)

pub parity : ParityLaw
parity loops v w free =
    let edges = edges_of loops in
    let same = same_parity _ _ (loops_even v w loops (each_off v w edges free)) in (
      (λ inside. record { off_outline = free w (ends_path v w); odd = sym same ∙ inside.odd }),
      (λ inside. record { off_outline = free v (starts_path v w); odd = same ∙ inside.odd }),
    )
