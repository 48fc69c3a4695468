-- What a move removes of one row lies together: what is between two removed points of it is removed.
use Rattle.std.proofs.Common.{◌≡◌, ◌↔◌, ℤ, pos, negsuc, ◌+ℤ◌, ◌-ℤ◌, ◌*ℤ◌, ◌≤ℤ◌, ◌<ℤ◌, ℕ, ◌≤◌, [], ◌∷◌, arith, ap, subst, sym, ◌∙◌, Option, Some, None}
use Rattle.std.specs.Prelude.{MatchOption}
use Rattle.std.proofs.lemmas.Int.{ints, by_lt_z}
use Rattle.integer_algebra.proofs.Ring.{ring, V, K, ◌⊕◌, ◌⊖◌, ◌⊗◌}
use Rattle.integer_algebra.proofs.Order.{cancel_same, times_le}
use Rattle.plane_exact.specs.Cone.{Cone}
use Rattle.plane_exact.specs.Plane.{GridPoint, RationalPoint, rational}
use Rattle.plane_exact.specs.declared.moves.Move.{Move}
use Rattle.engrave_model.specs.Removal.{Removes}
use Rattle.swept_move.specs.Band.{IsColumnBand}
use Rattle.swept_move.specs.Middle.{IsMiddle}
use Rattle.swept_move.specs.Row.{IsRowCut, IsRowSpared, RemovesAt}
use Rattle.swept_move.specs.Search.{IsFirst, IsLast, RemovesBehind}
use Rattle.swept_move.proofs.Convex.{convex}

module _ (cone : Cone) (mv : Move) (w : RationalPoint) (y : ℤ) (up : w.y ≡ w.over *ℤ y) (removed : Removes cone mv w) where
  at_row : (n k : ℤ) → (n *ℤ (w.over *ℤ pos 1)) *ℤ y ≡ pos 1 *ℤ ((n -ℤ k) *ℤ (pos 1 *ℤ w.y) +ℤ k *ℤ (w.over *ℤ y))
  at_row n k =
      ring (n ∷ k ∷ w.over ∷ y ∷ []) ((V 0 ⊗ (V 2 ⊗ K (pos 1))) ⊗ V 3) (K (pos 1) ⊗ ((V 0 ⊖ V 1) ⊗ (K (pos 1) ⊗ (V 2 ⊗ V 3)) ⊕ V 1 ⊗ (V 2 ⊗ V 3))) tt
      ∙ ap (λ z. pos 1 *ℤ ((n -ℤ k) *ℤ (pos 1 *ℤ z) +ℤ k *ℤ (w.over *ℤ y))) (sym up)

  same_place : (x z : ℤ) → w.over *ℤ x ≡ w.over *ℤ z → RemovesAt cone mv y z → RemovesAt cone mv y x
  same_place x z e there =
      let positive = w.positive in
      subst (RemovesAt cone mv y) (sym (cancel_same w.over x z (omega (arith, ints)) e)) there

  -- between w and a removed point to the right of it
  pub between_right : (x z : ℤ) → w.x ≤ℤ (w.over *ℤ x) → x ≤ℤ z → RemovesAt cone mv y z → RemovesAt cone mv y x
  between_right x z from to there =
      let positive = w.positive in
      let order = times_le w.over x z (omega (arith, ints)) to in
      by_lt_z w.x (w.over *ℤ z)
      (λ apart. convex cone mv w (rational (record { x = z; y = y })) (rational (record { x = x; y = y })) (record {
        at = record { k = w.over *ℤ x -ℤ w.x; n = w.over *ℤ z -ℤ w.x; start = omega (arith, ints); finish = omega (arith, ints); some = omega (arith, ints) };
        across = ring (w.over ∷ w.x ∷ x ∷ z ∷ []) (((V 0 ⊗ V 3 ⊖ V 1) ⊗ (V 0 ⊗ K (pos 1))) ⊗ V 2)
            (K (pos 1) ⊗ (((V 0 ⊗ V 3 ⊖ V 1) ⊖ (V 0 ⊗ V 2 ⊖ V 1)) ⊗ (K (pos 1) ⊗ V 1) ⊕ (V 0 ⊗ V 2 ⊖ V 1) ⊗ (V 0 ⊗ V 3))) tt;
        up = at_row (w.over *ℤ z -ℤ w.x) (w.over *ℤ x -ℤ w.x);
      }) removed there)
      (λ close. same_place x z (omega (arith, ints)) there)

  -- and to the left
  pub between_left : (x z : ℤ) → (w.over *ℤ x) ≤ℤ w.x → z ≤ℤ x → RemovesAt cone mv y z → RemovesAt cone mv y x
  between_left x z to from there =
      let positive = w.positive in
      let order = times_le w.over z x (omega (arith, ints)) from in
      by_lt_z (w.over *ℤ z) w.x
      (λ apart. convex cone mv w (rational (record { x = z; y = y })) (rational (record { x = x; y = y })) (record {
        at = record { k = w.x -ℤ w.over *ℤ x; n = w.x -ℤ w.over *ℤ z; start = omega (arith, ints); finish = omega (arith, ints); some = omega (arith, ints) };
        across = ring (w.over ∷ w.x ∷ x ∷ z ∷ []) (((V 1 ⊖ V 0 ⊗ V 3) ⊗ (V 0 ⊗ K (pos 1))) ⊗ V 2)
            (K (pos 1) ⊗ (((V 1 ⊖ V 0 ⊗ V 3) ⊖ (V 1 ⊖ V 0 ⊗ V 2)) ⊗ (K (pos 1) ⊗ V 1) ⊕ (V 1 ⊖ V 0 ⊗ V 2) ⊗ (V 0 ⊗ V 3))) tt;
        up = at_row (w.x -ℤ w.over *ℤ z) (w.x -ℤ w.over *ℤ x);
      }) removed there)
      (λ close. same_place x z (omega (arith, ints)) there)

-- ---- grid points of the row, by how far they are behind its start

module _ (cone : Cone) (mv : Move) (p : GridPoint) where
  pub removes_between : (i j k : ℕ) → i ≤ j → j ≤ k → RemovesBehind cone mv p i → RemovesBehind cone mv p k → RemovesBehind cone mv p j
  removes_between i j k from to first last =
      between_right cone mv (rational (record { x = p.x +ℤ pos i; y = p.y })) p.y (one p.y) first (p.x +ℤ pos j) (p.x +ℤ pos k) (omega (arith, ints)) (omega (arith, ints)) last
    where
      one : (y : ℤ) → y ≡ pos 1 *ℤ y
      one y = omega (arith, ints)

  -- a point right of the middle is removed where one beyond it is
  pub removes_right : (i : ℤ) (h j : ℕ) → IsMiddle cone mv p i → i <ℤ pos h → h ≤ j → RemovesBehind cone mv p j → RemovesBehind cone mv p h
  removes_right i h j middle right beyond there =
      let w = middle.point in
      let positive = w.positive in
      let high = middle.high in
      let order = times_le w.over (p.x +ℤ i +ℤ pos 1) (p.x +ℤ pos h) (omega (arith, ints)) (omega (arith, ints)) in
      between_right cone mv w p.y middle.up middle.removed (p.x +ℤ pos h) (p.x +ℤ pos j) (omega (arith, ints)) (omega (arith, ints)) there

  -- and so is one that isn't right of it
  pub removes_left : (i : ℤ) (h j : ℕ) → IsMiddle cone mv p i → pos h ≤ℤ i → j ≤ h → RemovesBehind cone mv p j → RemovesBehind cone mv p h
  removes_left i h j middle left beyond there =
      let w = middle.point in
      let positive = w.positive in
      let low = middle.low in
      let order = times_le w.over (p.x +ℤ pos h) (p.x +ℤ i) (omega (arith, ints)) (omega (arith, ints)) in
      between_left cone mv w p.y middle.up middle.removed (p.x +ℤ pos h) (p.x +ℤ pos j) (omega (arith, ints)) (omega (arith, ints)) there

  -- a point that the code has made
  pub made : {q : GridPoint} (i : ℕ) → q ≡ record { x = p.x +ℤ pos i; y = p.y } → Removes cone mv (rational q) ↔ RemovesBehind cone mv p i
  made i is = (subst (λ q. Removes cone mv (rational q)) is, subst (λ q. Removes cone mv (rational q)) (sym is))

-- ---- a stretch of the row, from a first point p = (x0, y) to (x1, y), that is `last` behind it

-- how far a point is behind the first
behind : (x0 x : ℤ) → x0 ≤ℤ x → (j : ℕ) × (x ≡ x0 +ℤ pos j)
behind x0 x order = split (x -ℤ x0) (omega (arith, ints)) (omega (arith, ints))
  where
    split : (z : ℤ) → pos 0 ≤ℤ z → x ≡ x0 +ℤ z → (j : ℕ) × (x ≡ x0 +ℤ pos j)
    split (pos n) some e = (n, e)
    split (negsuc n) some e = absurd some.le

module _ (cone : Cone) (mv : Move) (p : GridPoint) (last : ℕ) (y x0 x1 : ℤ) (start : p ≡ record { x = x0; y = y }) (finish : x0 +ℤ pos last ≡ x1) where
  at_x : (x : ℤ) → x0 ≤ℤ x → x ≤ℤ x1 → RemovesAt cone mv y x → (j : ℕ) × (j ≤ last) × (x ≡ x0 +ℤ pos j) × RemovesBehind cone mv p j
  at_x x low high removed =
      let (j, is) = behind x0 x low in
      let there : p.x +ℤ pos j ≡ x = (let e = ap (λ (q : GridPoint). q.x) start in omega (arith, ints)) in
      (j, omega (arith, ints), is, subst (λ z. RemovesAt cone mv p.y z) (sym there) (subst (λ z. RemovesAt cone mv z x) (sym (ap (λ (q : GridPoint). q.y) start)) removed))

  pub row_spared : ((j : ℕ) → j ≤ last → ¬ RemovesBehind cone mv p j) → IsRowSpared cone mv y x0 x1
  row_spared none x low high removed = let at = at_x x low high removed in none at.0 at.1 at.3

  pub row_is_cut : (i k : ℕ) {u v : ℤ} → u ≡ x0 +ℤ pos i → v ≡ x0 +ℤ pos k → IsFirst (RemovesBehind cone mv p) last i → RemovesBehind cone mv p i → IsLast (RemovesBehind cone mv p) last k
      → IsRowCut cone mv y x0 x1 u v
  row_is_cut i k first_is last_is first removed end =
      let within = end.within in
      let least = first.least k end.within end.holds in
      record {
        low = omega (arith, ints);
        some = omega (arith, ints);
        high = omega (arith, ints);
        removes = λ x low high.
            let (j, is) = behind x0 x (omega (arith, ints)) in
            let there : p.x +ℤ pos j ≡ x = (let e = ap (λ (q : GridPoint). q.x) start in omega (arith, ints)) in
            let between = removes_between cone mv p i j k (omega (arith, ints)) (omega (arith, ints)) removed end.holds in
            subst (λ z. RemovesAt cone mv z x) (ap (λ (q : GridPoint). q.y) start) (subst (λ z. RemovesAt cone mv p.y z) there between);
        first_least = λ x low high there. let at = at_x x low high there in let least = first.least at.0 at.1 at.3 in let is = at.2 in omega (arith, ints);
        last_greatest = λ x low high there. let at = at_x x low high there in let most = end.greatest at.0 at.1 at.3 in let is = at.2 in omega (arith, ints);
      }

-- ---- a row of which only the columns that the move can reach are looked at

-- the points from a to b are those from x0 to x1 in the columns from low to high
pub record IsClipped (x0 x1 low high a b : ℤ) : Type 0 where
  pub first : x0 ≤ℤ a
  pub last : b ≤ℤ x1
  pub least : (x : ℤ) → x0 ≤ℤ x → low ≤ℤ x → a ≤ℤ x
  pub most : (x : ℤ) → x ≤ℤ x1 → x ≤ℤ high → x ≤ℤ b

module _ {cone : Cone} {mv : Move} {low high : ℤ} (columns : IsColumnBand cone mv low high) {y x0 x1 a b : ℤ} (clipped : IsClipped x0 x1 low high a b) where
  pub clipped_spared : IsRowSpared cone mv y a b → IsRowSpared cone mv y x0 x1
  clipped_spared spared x from to removed =
      let on = columns (record { x = x; y = y }) removed in
      spared x (clipped.least x from on.0) (clipped.most x to on.1) removed

  pub none_between : b <ℤ a → IsRowSpared cone mv y x0 x1
  none_between empty = clipped_spared (λ x from to _. omega (arith, ints))

  pub clipped_cut : {first last : ℤ} → IsRowCut cone mv y a b first last → IsRowCut cone mv y x0 x1 first last
  clipped_cut cut =
      let low = cut.low in
      let high = cut.high in
      let from = clipped.first in
      let to = clipped.last in
      record {
        low = omega (arith, ints);
        some = cut.some;
        high = omega (arith, ints);
        removes = cut.removes;
        first_least = λ x from to removed. let on = columns (record { x = x; y = y }) removed in cut.first_least x (clipped.least x from on.0) (clipped.most x to on.1) removed;
        last_greatest = λ x from to removed. let on = columns (record { x = x; y = y }) removed in cut.last_greatest x (clipped.least x from on.0) (clipped.most x to on.1) removed;
      }

  pub clipped_match : {z : ℤ} → z ≡ y → (cut : Option (ℤ × ℤ)) → MatchOption cut (IsRowSpared cone mv z a b) (λ cut. IsRowCut cone mv z a b cut.0 cut.1)
      → MatchOption cut (IsRowSpared cone mv y x0 x1) (λ cut. IsRowCut cone mv y x0 x1 cut.0 cut.1)
  clipped_match same None spared = clipped_spared (subst (λ z. IsRowSpared cone mv z a b) same spared)
  clipped_match same (Some (first, last)) cut = clipped_cut (subst (λ z. IsRowCut cone mv z a b first last) same cut)
