-- A point between two places of a line is between two neighbouring ones.
use Rattle.std.specs.Int.{int_div_euclid}
use Rattle.std.proofs.Common.{◌≡◌, ℤ, pos, ◌+ℤ◌, ◌-ℤ◌, ◌*ℤ◌, ◌≤ℤ◌, ◌<ℤ◌, [], ◌∷◌, arith, ap, sym, ◌∙◌}
use Rattle.std.proofs.lemmas.Int.{ints, by_lt_z}
use Rattle.integer_algebra.proofs.Floors.{floor_of}
use Rattle.integer_algebra.proofs.Order.{times_le, times_nonneg, times_zero}
use Rattle.integer_algebra.proofs.Ring.{ring, V, K, ◌⊕◌, ◌⊖◌, ◌⊗◌}
use Rattle.plane_exact.specs.Plane.{IsBetween, RationalPoint}
use Rattle.cleanup_pocket.specs.Floors.{point_on}
use Rattle.cleanup_pocket.specs.declared.axis.Axis.{Axis}
use Rattle.cleanup_pocket.specs.declared.axis.Axis.TheVariants as axis

-- ---- numbers: along the line, and across it

goes_on : (n k o u first last place j : ℤ) → n *ℤ place +ℤ j ≡ n *ℤ first +ℤ k *ℤ (last -ℤ first) → n *ℤ u ≡ o *ℤ (n *ℤ first +ℤ k *ℤ (last -ℤ first))
    → n *ℤ u ≡ o *ℤ (n *ℤ place +ℤ j *ℤ (place +ℤ pos 1 -ℤ place))
goes_on n k o u first last place j same is =
    is ∙ ap (λ z. o *ℤ z) (sym same) ∙ ring (n ∷ o ∷ place ∷ j ∷ []) (V 1 ⊗ (V 0 ⊗ V 2 ⊕ V 3)) (V 1 ⊗ (V 0 ⊗ V 2 ⊕ V 3 ⊗ (V 2 ⊕ K (pos 1) ⊖ V 2))) tt

stays : (n k o u line j : ℤ) → n *ℤ u ≡ o *ℤ (n *ℤ line +ℤ k *ℤ (line -ℤ line)) → n *ℤ u ≡ o *ℤ (n *ℤ line +ℤ j *ℤ (line -ℤ line))
stays n k o u line j is =
    is ∙ ring (n ∷ k ∷ o ∷ line ∷ j ∷ []) (V 2 ⊗ (V 0 ⊗ V 3 ⊕ V 1 ⊗ (V 3 ⊖ V 3))) (V 2 ⊗ (V 0 ⊗ V 3 ⊕ V 4 ⊗ (V 3 ⊖ V 3))) tt

-- j / n of the way from the place to the next is k / n of the way from the first to the last
record IsStep (k n first last : ℤ) : Type 0 where
  place : ℤ
  from : first ≤ℤ place
  to : place <ℤ last
  j : ℤ
  start : pos 0 ≤ℤ j
  finish : j ≤ℤ n
  same : n *ℤ place +ℤ j ≡ n *ℤ first +ℤ k *ℤ (last -ℤ first)

step_of : (k n first last : ℤ) → pos 0 ≤ℤ k → k ≤ℤ n → pos 1 ≤ℤ n → first <ℤ last → IsStep k n first last
step_of k n first last start finish some several =
    let length = last -ℤ first in
    let gone = k *ℤ length in
    let whole = int_div_euclid gone n in
    let floor = floor_of gone n some in
    let low = floor.low in
    let high = floor.high in
    let nonneg = times_nonneg k length start (omega (arith, ints)) in
    let next = ring (n ∷ whole ∷ []) (V 0 ⊗ (V 1 ⊕ K (pos 1))) (V 0 ⊗ V 1 ⊕ V 0) tt in
    let whole_sign : pos 0 ≤ℤ whole = by_lt_z whole (pos 0)
    (λ l. let p = times_le n (whole +ℤ pos 1) (pos 0) (omega (arith, ints)) (omega (arith, ints)) in absurd (let none = times_zero n in omega (arith, ints)))
    (λ l. l) in
    let most = times_le length k n (omega (arith, ints)) finish in
    let turn = ring (length ∷ k ∷ []) (V 0 ⊗ V 1) (V 1 ⊗ V 0) tt in
    let turned = ring (length ∷ n ∷ []) (V 0 ⊗ V 1) (V 1 ⊗ V 0) tt in
    by_lt_z whole length
    (λ inner. record {
      place = first +ℤ whole;
      from = omega (arith, ints);
      to = omega (arith, ints);
      j = gone -ℤ n *ℤ whole;
      start = omega (arith, ints);
      finish = omega (arith, ints);
      same = (let e = ring (n ∷ first ∷ whole ∷ []) (V 0 ⊗ (V 1 ⊕ V 2)) (V 0 ⊗ V 1 ⊕ V 0 ⊗ V 2) tt in omega (arith, ints));
    })
    (λ outer.
    let least = times_le n length whole (omega (arith, ints)) outer in record {
      place = last -ℤ pos 1;
      from = omega (arith, ints);
      to = omega (arith, ints);
      j = n;
      start = omega (arith, ints);
      finish = omega (arith, ints);
      same = (let e = ring (n ∷ first ∷ last ∷ []) (V 0 ⊗ (V 2 ⊖ K (pos 1)) ⊕ V 0) (V 0 ⊗ V 1 ⊕ V 0 ⊗ (V 2 ⊖ V 1)) tt in omega (arith, ints));
    })

-- ---- points

pub record IsOnStep (axis : Axis) (line first last : ℤ) (u : RationalPoint) : Type 0 where
  pub place : ℤ
  pub from : first ≤ℤ place
  pub to : place <ℤ last
  pub on : IsBetween (point_on axis line place) (point_on axis line (place +ℤ pos 1)) u

pub on_step : (axis : Axis) (line first last : ℤ) (u : RationalPoint) → first <ℤ last → IsBetween (point_on axis line first) (point_on axis line last) u
    → IsOnStep axis line first last u
on_step axis.X line first last u several on =
    let n = on.at.n in
    let k = on.at.k in
    let step = step_of k n first last on.at.start on.at.finish on.at.some several in record {
      place = step.place;
      from = step.from;
      to = step.to;
      on = record {
        at = record { k = step.j; n = n; start = step.start; finish = step.finish; some = on.at.some };
        across = goes_on n k u.over u.x first last step.place step.j step.same on.across;
        up = stays n k u.over u.y line step.j on.up;
      };
    }
on_step axis.Y line first last u several on =
    let n = on.at.n in
    let k = on.at.k in
    let step = step_of k n first last on.at.start on.at.finish on.at.some several in record {
      place = step.place;
      from = step.from;
      to = step.to;
      on = record {
        at = record { k = step.j; n = n; start = step.start; finish = step.finish; some = on.at.some };
        across = stays n k u.over u.x line step.j on.across;
        up = goes_on n k u.over u.y first last step.place step.j step.same on.up;
      };
    }
