-- Two ways, each with a depth: when a sum of them, neither weight negative, is inside the bit's cone.
use Rattle.std.proofs.Common.{◌≡◌, ◌↔◌, inl, inr, zero, suc, ℤ, pos, negsuc, neg_ℤ, ◌+ℤ◌, ◌-ℤ◌, ◌*ℤ◌, ◌≤ℤ◌, ◌<ℤ◌, [], ◌∷◌, arith, ap, ap₂, sym, subst, ◌∙◌}
use Rattle.std.proofs.lemmas.Int.{ints, by_lt_z}
use Rattle.integer_algebra.proofs.Ring.{ring, V, K, M, ◌⊕◌, ◌⊖◌, ◌⊗◌}
use Rattle.integer_algebra.proofs.Order.{square_nonneg, times_le, times_negative, times_nonneg, times_nonpos, times_of_negative, times_pos, times_zero, zero_times}
use Rattle.swept_move.specs.Dip.{IsDip, IsMet}
use Rattle.swept_move.proofs.Hits.{IsNear}
use Rattle.swept_move.proofs.Nappe.{lean, lean_negative, near_same, some_depth}

-- some sum of the two ways, with its depth, is near
pub record Reaches (Q R x y d x' y' d' : ℤ) : Type 0 where
  pub l : ℤ
  pub m : ℤ
  pub start : pos 0 ≤ℤ l
  pub finish : pos 0 ≤ℤ m
  pub near : IsNear Q R (l *ℤ x +ℤ m *ℤ x') (l *ℤ y +ℤ m *ℤ y') (l *ℤ d +ℤ m *ℤ d')

-- the product of two such sums, with the weights l, m and j, k; C, H and E are the products of the two ways
abbrev pub mixed : (C H E l m j k : ℤ) → ℤ
mixed C H E l m j k = C *ℤ (l *ℤ j) +ℤ H *ℤ (l *ℤ k +ℤ m *ℤ j) +ℤ E *ℤ (m *ℤ k)

-- ---- the form

start_form : (C H E : ℤ) → mixed C H E (pos 1) (pos 0) (pos 1) (pos 0) ≡ C
start_form C H E =
    ring (C ∷ H ∷ E ∷ []) (V 0 ⊗ (K (pos 1) ⊗ K (pos 1)) ⊕ V 1 ⊗ (K (pos 1) ⊗ K (pos 0) ⊕ K (pos 0) ⊗ K (pos 1)) ⊕ V 2 ⊗ (K (pos 0) ⊗ K (pos 0))) (V 0) tt

finish_form : (C H E m : ℤ) → mixed C H E (pos 0) m (pos 0) m ≡ (m *ℤ m) *ℤ E
finish_form C H E m =
    ring (C ∷ H ∷ E ∷ m ∷ []) (V 0 ⊗ (K (pos 0) ⊗ K (pos 0)) ⊕ V 1 ⊗ (K (pos 0) ⊗ V 3 ⊕ V 3 ⊗ K (pos 0)) ⊕ V 2 ⊗ (V 3 ⊗ V 3)) ((V 3 ⊗ V 3) ⊗ V 2) tt

lowest_form : (C H E : ℤ) → mixed C H E (neg_ℤ H) C (neg_ℤ H) C ≡ C *ℤ (C *ℤ E -ℤ H *ℤ H)
lowest_form C H E =
    ring (C ∷ H ∷ E ∷ []) (V 0 ⊗ (M (V 1) ⊗ M (V 1)) ⊕ V 1 ⊗ (M (V 1) ⊗ V 0 ⊕ V 0 ⊗ M (V 1)) ⊕ V 2 ⊗ (V 0 ⊗ V 0)) (V 0 ⊗ (V 0 ⊗ V 2 ⊖ V 1 ⊗ V 1)) tt

turned_form : (C H E : ℤ) → mixed C H E H (neg_ℤ C) H (neg_ℤ C) ≡ C *ℤ (C *ℤ E -ℤ H *ℤ H)
turned_form C H E =
    ring (C ∷ H ∷ E ∷ []) (V 0 ⊗ (V 1 ⊗ V 1) ⊕ V 1 ⊗ (V 1 ⊗ M (V 0) ⊕ M (V 0) ⊗ V 1) ⊕ V 2 ⊗ (M (V 0) ⊗ M (V 0))) (V 0 ⊗ (V 0 ⊗ V 2 ⊖ V 1 ⊗ V 1)) tt

-- the weights H, -C are square to the first way
across_first : (C H E l m : ℤ) → mixed C H E l m H (neg_ℤ C) ≡ m *ℤ (H *ℤ H -ℤ C *ℤ E)
across_first C H E l m =
    ring (C ∷ H ∷ E ∷ l ∷ m ∷ []) (V 0 ⊗ (V 3 ⊗ V 1) ⊕ V 1 ⊗ (V 3 ⊗ M (V 0) ⊕ V 4 ⊗ V 1) ⊕ V 2 ⊗ (V 4 ⊗ M (V 0))) (V 4 ⊗ (V 1 ⊗ V 1 ⊖ V 0 ⊗ V 2)) tt

back_form : (C H E l m : ℤ) → mixed C H E l m (pos 0) (negsuc 0) ≡ neg_ℤ (l *ℤ H +ℤ m *ℤ E)
back_form C H E l m =
    ring (C ∷ H ∷ E ∷ l ∷ m ∷ []) (V 0 ⊗ (V 3 ⊗ K (pos 0)) ⊕ V 1 ⊗ (V 3 ⊗ K (negsuc 0) ⊕ V 4 ⊗ K (pos 0)) ⊕ V 2 ⊗ (V 4 ⊗ K (negsuc 0))) (M (V 3 ⊗ V 1 ⊕ V 4 ⊗ V 2)) tt

-- C times the form is a square and a multiple of a square
form_square : (C H E l m : ℤ) → C *ℤ mixed C H E l m l m ≡ (C *ℤ l +ℤ H *ℤ m) *ℤ (C *ℤ l +ℤ H *ℤ m) +ℤ (m *ℤ m) *ℤ (C *ℤ E -ℤ H *ℤ H)
form_square C H E l m =
    ring (C ∷ H ∷ E ∷ l ∷ m ∷ []) (V 0 ⊗ (V 0 ⊗ (V 3 ⊗ V 3) ⊕ V 1 ⊗ (V 3 ⊗ V 4 ⊕ V 4 ⊗ V 3) ⊕ V 2 ⊗ (V 4 ⊗ V 4)))
    ((V 0 ⊗ V 3 ⊕ V 1 ⊗ V 4) ⊗ (V 0 ⊗ V 3 ⊕ V 1 ⊗ V 4) ⊕ (V 4 ⊗ V 4) ⊗ (V 0 ⊗ V 2 ⊖ V 1 ⊗ V 1)) tt

form_split : (C H E l m : ℤ) → mixed C H E l m l m ≡ C *ℤ (l *ℤ l) +ℤ m *ℤ (l *ℤ H) +ℤ m *ℤ (l *ℤ H +ℤ m *ℤ E)
form_split C H E l m =
    ring (C ∷ H ∷ E ∷ l ∷ m ∷ []) (V 0 ⊗ (V 3 ⊗ V 3) ⊕ V 1 ⊗ (V 3 ⊗ V 4 ⊕ V 4 ⊗ V 3) ⊕ V 2 ⊗ (V 4 ⊗ V 4))
    (V 0 ⊗ (V 3 ⊗ V 3) ⊕ V 4 ⊗ (V 3 ⊗ V 1) ⊕ V 4 ⊗ (V 3 ⊗ V 1 ⊕ V 4 ⊗ V 2)) tt

-- where a form that isn't negative along either way is negative, both weights count, the ways face each other, and it dips
module _ (C H E l m : ℤ) (c : pos 0 ≤ℤ C) (e : pos 0 ≤ℤ E) (start : pos 0 ≤ℤ l) (finish : pos 0 ≤ℤ m) (low : mixed C H E l m l m <ℤ pos 0) where
  first_part : pos 0 ≤ℤ (C *ℤ (l *ℤ l))
  first_part = times_nonneg C (l *ℤ l) c (square_nonneg l)

  last_part : pos 0 ≤ℤ (E *ℤ (m *ℤ m))
  last_part = times_nonneg E (m *ℤ m) e (square_nonneg m)

  both : pos 0 ≤ℤ (l *ℤ m +ℤ m *ℤ l)
  both = let p = times_nonneg l m start finish in let q = times_nonneg m l finish start in omega (arith, ints)

  form_faces : H <ℤ pos 0
  form_faces = by_lt_z H (pos 0) (λ l. l) (λ far.
      let p = times_nonneg H (l *ℤ m +ℤ m *ℤ l) far both in
      let q = first_part in
      let r = last_part in
      absurd (omega (arith, ints)))

  some_last : pos 0 <ℤ m
  some_last = by_lt_z (pos 0) m (λ l. l) (λ none.
      let zero_m : m ≡ pos 0 = omega (arith, ints) in
      let split = form_split C H E l m in
      let p : m *ℤ (l *ℤ H) ≡ pos 0 = ap (λ z. z *ℤ (l *ℤ H)) zero_m ∙ zero_times (l *ℤ H) in
      let q : m *ℤ (l *ℤ H +ℤ m *ℤ E) ≡ pos 0 = ap (λ z. z *ℤ (l *ℤ H +ℤ m *ℤ E)) zero_m ∙ zero_times (l *ℤ H +ℤ m *ℤ E) in
      let r = first_part in
      absurd (omega (arith, ints)))

  form_dips : (C *ℤ E) <ℤ (H *ℤ H)
  form_dips = by_lt_z (C *ℤ E) (H *ℤ H) (λ l. l) (λ high.
      let s = form_square C H E l m in
      let p = square_nonneg (C *ℤ l +ℤ H *ℤ m) in
      let q = times_nonneg (m *ℤ m) (C *ℤ E -ℤ H *ℤ H) (square_nonneg m) (omega (arith, ints)) in
      let t = times_of_negative H H form_faces form_faces in
      absurd (by_lt_z (pos 0) C
      (λ some. let n = times_negative C (mixed C H E l m l m) some low in omega (arith, ints))
      (λ none. let z : C *ℤ E ≡ pos 0 = ap (λ z. z *ℤ E) (let h : C ≡ pos 0 = omega (arith, ints) in h) ∙ zero_times E in omega (arith, ints))))

-- ---- the same numbers

pub dip_same : (C H E : ℤ) {d d' e e' : ℤ} → d ≡ d' → e ≡ e' → IsDip C H E d e → IsDip C H E d' e'
dip_same C H E {d' = d'} {e = e} first last is = subst (λ z. IsDip C H E d' z) last (subst (λ z. IsDip C H E z e) first is)

pub met_same : (d e C H E C' H' E' : ℤ) → C ≡ C' → H ≡ H' → E ≡ E' → IsMet C H E d e → IsMet C' H' E' d e
met_same d e C H E C' H' E' first both last is =
    subst (λ z. IsMet C' H' z d e) last (subst (λ z. IsMet C' z E d e) both (subst (λ z. IsMet z H E d e) first is))

-- ---- weights large enough

small : (a : ℤ) → (a ≤ℤ (a *ℤ a)) × (neg_ℤ a ≤ℤ (a *ℤ a))
small (pos zero) = (omega (arith, ints), omega (arith, ints))
small (pos (suc n)) = (omega (arith, ints), omega (arith, ints))
small (negsuc n) = (omega (arith, ints), omega (arith, ints))

abbrev many : (E e : ℤ) → ℤ
many E e = E *ℤ E +ℤ e *ℤ e +ℤ pos 1

-- ---- two ways

module _ (Q R x y d x' y' d' : ℤ) (q : pos 0 ≤ℤ Q) where
  abbrev C : ℤ
  C = lean Q R x y d x y d

  abbrev H : ℤ
  H = lean Q R x y d x' y' d'

  abbrev E : ℤ
  E = lean Q R x' y' d' x' y' d'

  abbrev IsNearBy : (l m : ℤ) → Type 0
  IsNearBy l m = IsNear Q R (l *ℤ x +ℤ m *ℤ x') (l *ℤ y +ℤ m *ℤ y') (l *ℤ d +ℤ m *ℤ d')

  lean_mixed : (l m j k : ℤ) → lean Q R (l *ℤ x +ℤ m *ℤ x') (l *ℤ y +ℤ m *ℤ y') (l *ℤ d +ℤ m *ℤ d') (j *ℤ x +ℤ k *ℤ x') (j *ℤ y +ℤ k *ℤ y') (j *ℤ d +ℤ k *ℤ d') ≡ mixed C H E l m j k
  lean_mixed l m j k =
      let first = V 0 ⊗ (V 2 ⊗ V 2 ⊕ V 3 ⊗ V 3) ⊖ V 1 ⊗ (V 4 ⊗ V 4) in
      let mid = V 0 ⊗ (V 2 ⊗ V 5 ⊕ V 3 ⊗ V 6) ⊖ V 1 ⊗ (V 4 ⊗ V 7) in
      let last = V 0 ⊗ (V 5 ⊗ V 5 ⊕ V 6 ⊗ V 6) ⊖ V 1 ⊗ (V 7 ⊗ V 7) in
      ring (Q ∷ R ∷ x ∷ y ∷ d ∷ x' ∷ y' ∷ d' ∷ l ∷ m ∷ j ∷ k ∷ [])
      (V 0 ⊗ ((V 8 ⊗ V 2 ⊕ V 9 ⊗ V 5) ⊗ (V 10 ⊗ V 2 ⊕ V 11 ⊗ V 5) ⊕ (V 8 ⊗ V 3 ⊕ V 9 ⊗ V 6) ⊗ (V 10 ⊗ V 3 ⊕ V 11 ⊗ V 6))
      ⊖ V 1 ⊗ ((V 8 ⊗ V 4 ⊕ V 9 ⊗ V 7) ⊗ (V 10 ⊗ V 4 ⊕ V 11 ⊗ V 7)))
      (first ⊗ (V 8 ⊗ V 10) ⊕ mid ⊗ (V 8 ⊗ V 11 ⊕ V 9 ⊗ V 10) ⊕ last ⊗ (V 9 ⊗ V 11)) tt

  -- near is where the form is negative, from the surface down
  pub near_of : (l m : ℤ) → mixed C H E l m l m <ℤ pos 0 → pos 0 ≤ℤ (l *ℤ d +ℤ m *ℤ d') → IsNearBy l m
  near_of l m low below =
      let e = lean_mixed l m l m in
      some_depth Q R (l *ℤ x +ℤ m *ℤ x') (l *ℤ y +ℤ m *ℤ y') (l *ℤ d +ℤ m *ℤ d') q (subst (λ z. z <ℤ pos 0) (sym e) low) below

  near_both : (l m j k : ℤ) → IsNearBy l m → IsNearBy j k → mixed C H E l m j k <ℤ pos 0
  near_both l m j k near near' =
      subst (λ z. z <ℤ pos 0) (lean_mixed l m j k)
      (lean_negative Q R (l *ℤ x +ℤ m *ℤ x') (l *ℤ y +ℤ m *ℤ y') (l *ℤ d +ℤ m *ℤ d') (j *ℤ x +ℤ k *ℤ x') (j *ℤ y +ℤ k *ℤ y') (j *ℤ d +ℤ k *ℤ d') q near near')

  reaches_by : (l m : ℤ) → pos 0 ≤ℤ l → pos 0 ≤ℤ m → mixed C H E l m l m <ℤ pos 0 → pos 0 ≤ℤ (l *ℤ d +ℤ m *ℤ d') → Reaches Q R x y d x' y' d'
  reaches_by l m start finish low below = record { l = l; m = m; start = start; finish = finish; near = near_of l m low below }

  reaches_start : C <ℤ pos 0 → pos 0 <ℤ d → Reaches Q R x y d x' y' d'
  reaches_start low below =
      reaches_by (pos 1) (pos 0) (record { le = tt }) (record { le = tt }) (subst (λ z. z <ℤ pos 0) (sym (start_form C H E)) low)
      (let e = zero_times d' in omega (arith, ints))

  reaches_finish : E <ℤ pos 0 → pos 0 <ℤ d' → Reaches Q R x y d x' y' d'
  reaches_finish low below =
      reaches_by (pos 0) (pos 1) (record { le = tt }) (record { le = tt })
      (subst (λ z. z <ℤ pos 0) (sym (finish_form C H E (pos 1))) (let e : (pos 1 *ℤ pos 1) *ℤ E ≡ E = ring (E ∷ []) ((K (pos 1) ⊗ K (pos 1)) ⊗ V 0) (V 0) tt in subst (λ z. z <ℤ pos 0) (sym e) low))
      (let e = zero_times d in omega (arith, ints))

  reaches_between : pos 0 ≤ℤ C → pos 0 <ℤ d → IsDip C H E d d' → Reaches Q R x y d x' y' d'
  reaches_between c below dip = dips C H E c dip (reaches_by)
    where
      dips : (C H E : ℤ) → pos 0 ≤ℤ C → IsDip C H E d d' → ((l m : ℤ) → pos 0 ≤ℤ l → pos 0 ≤ℤ m → mixed C H E l m l m <ℤ pos 0 → pos 0 ≤ℤ (l *ℤ d +ℤ m *ℤ d') → Reaches Q R x y d x' y' d')
          → Reaches Q R x y d x' y' d'
      dips C H E c dip by =
          let facing = dip.facing in
          let low = dip.low in
          let clip = dip.below in
          by_lt_z (pos 0) C
          (λ some.
          let n = times_negative C (C *ℤ E -ℤ H *ℤ H) some (omega (arith, ints)) in
          let f = lowest_form C H E in
          let depth = ring (C ∷ H ∷ d ∷ d' ∷ []) (M (V 1) ⊗ V 2 ⊕ V 0 ⊗ V 3) (V 0 ⊗ V 3 ⊖ V 1 ⊗ V 2) tt in
          by (neg_ℤ H) C (omega (arith, ints)) c (omega (arith, ints)) (omega (arith, ints)))
          (λ none.
          let L = many E d' in
          let first = small E in
          let last = small d' in
          let first_low = first.0 in
          let last_low = last.1 in
          let e_square = square_nonneg E in
          let d_square = square_nonneg d' in
          let zero_c : C ≡ pos 0 = omega (arith, ints) in
          let f : mixed C H E L (pos 1) L (pos 1) ≡ (L *ℤ L) *ℤ C +ℤ pos 2 *ℤ (L *ℤ H) +ℤ E =
          ring (C ∷ H ∷ E ∷ L ∷ []) (V 0 ⊗ (V 3 ⊗ V 3) ⊕ V 1 ⊗ (V 3 ⊗ K (pos 1) ⊕ K (pos 1) ⊗ V 3) ⊕ V 2 ⊗ (K (pos 1) ⊗ K (pos 1)))
          ((V 3 ⊗ V 3) ⊗ V 0 ⊕ K (pos 2) ⊗ (V 3 ⊗ V 1) ⊕ V 2) tt in
          let g : (L *ℤ L) *ℤ C ≡ pos 0 = ap (λ z. (L *ℤ L) *ℤ z) zero_c ∙ times_zero (L *ℤ L) in
          let L_some : pos 0 ≤ℤ L = omega (arith, ints) in
          let p = times_le L H (negsuc 0) L_some (omega (arith, ints)) in
          let r = times_le L (pos 1) d L_some (omega (arith, ints)) in
          by L (pos 1) L_some (record { le = tt }) (omega (arith, ints)) (omega (arith, ints)))

  -- a last place above the surface, at which the point would be inside the other half of the cone
  reaches_none : pos 0 ≤ℤ C → E <ℤ pos 0 → d' ≤ℤ pos 0 → ¬ Reaches Q R x y d x' y' d'
  reaches_none c low above reached =
      let l = reached.l in
      let m = reached.m in
      let form = near_both l m l m reached.near reached.near in
      let back = near_of (pos 0) (negsuc 0)
      (subst (λ z. z <ℤ pos 0) (sym (finish_form C H E (negsuc 0))) (let e : (negsuc 0 *ℤ negsuc 0) *ℤ E ≡ E = ring (E ∷ []) ((K (negsuc 0) ⊗ K (negsuc 0)) ⊗ V 0) (V 0) tt in subst (λ z. z <ℤ pos 0) (sym e) low))
      (let e = zero_times d in omega (arith, ints)) in
      let both = near_both l m (pos 0) (negsuc 0) reached.near back in
      contradiction C H E l m c low reached.start reached.finish form both
    where
      contradiction : (C H E l m : ℤ) → pos 0 ≤ℤ C → E <ℤ pos 0 → pos 0 ≤ℤ l → pos 0 ≤ℤ m → mixed C H E l m l m <ℤ pos 0 → mixed C H E l m (pos 0) (negsuc 0) <ℤ pos 0 → ⊥
      contradiction C H E l m c low start finish form both =
          let back = back_form C H E l m in
          let split = form_split C H E l m in
          let first = times_nonneg C (l *ℤ l) c (square_nonneg l) in
          let share = times_nonpos m E finish (omega (arith, ints)) in
          let p = times_nonneg m (l *ℤ H) finish (omega (arith, ints)) in
          let r = times_nonneg m (l *ℤ H +ℤ m *ℤ E) finish (omega (arith, ints)) in
          omega (arith, ints)

  reaches_dip : pos 0 ≤ℤ C → pos 0 ≤ℤ E → pos 0 <ℤ d → Reaches Q R x y d x' y' d' → IsDip C H E d d'
  reaches_dip c e below reached =
      dips C H E c e (near_both reached.l reached.m reached.l reached.m reached.near reached.near)
      (λ low deep. near_both reached.l reached.m H (neg_ℤ C) reached.near (near_of H (neg_ℤ C) low deep))
    where
      dips : (C H E : ℤ) → pos 0 ≤ℤ C → pos 0 ≤ℤ E → mixed C H E reached.l reached.m reached.l reached.m <ℤ pos 0
          → (mixed C H E H (neg_ℤ C) H (neg_ℤ C) <ℤ pos 0 → pos 0 ≤ℤ (H *ℤ d +ℤ neg_ℤ C *ℤ d') → mixed C H E reached.l reached.m H (neg_ℤ C) <ℤ pos 0) → IsDip C H E d d'
      dips C H E c e low turned =
          let l = reached.l in
          let m = reached.m in
          let facing = form_faces C H E l m c e reached.start reached.finish low in
          let deep = form_dips C H E l m c e reached.start reached.finish low in
          let some = some_last C H E l m c e reached.start reached.finish low in
          let down = times_negative d H below facing in
          let swapped = ring (H ∷ d ∷ []) (V 0 ⊗ V 1) (V 1 ⊗ V 0) tt in
          record {
            facing = facing;
            low = deep;
            below = by_lt_z (H *ℤ d) (C *ℤ d') (λ l. l) (λ far. absurd (by_lt_z (pos 0) C
                (λ wide.
                let n = times_negative C (C *ℤ E -ℤ H *ℤ H) wide (omega (arith, ints)) in
                let f = turned_form C H E in
                let depth = ring (C ∷ H ∷ d ∷ d' ∷ []) (V 1 ⊗ V 2 ⊕ M (V 0) ⊗ V 3) (V 1 ⊗ V 2 ⊖ V 0 ⊗ V 3) tt in
                let p = turned (omega (arith, ints)) (omega (arith, ints)) in
                let g = across_first C H E l m in
                let r = times_pos m (H *ℤ H -ℤ C *ℤ E) some (omega (arith, ints)) in
                omega (arith, ints))
                (λ none. let z : C *ℤ d' ≡ pos 0 = ap (λ z. z *ℤ d') (let h : C ≡ pos 0 = omega (arith, ints) in h) ∙ zero_times d' in omega (arith, ints))));
          }

  pub met : pos 0 <ℤ d → Reaches Q R x y d x' y' d' ↔ IsMet C H E d d'
  met below = (
    (λ reached. by_lt_z C (pos 0) inl (λ c. inr (by_lt_z E (pos 0)
        (λ low. by_lt_z (pos 0) d' (λ deep. inl (low, deep)) (λ above. absurd (reaches_none c low above reached)))
        (λ e. inr (reaches_dip c e below reached))))),
    (λ some. elim some [
      | inl low ↦ reaches_start low below
      | inr (inl both) ↦ reaches_finish both.0 both.1
      | inr (inr dip) ↦ by_lt_z C (pos 0) (λ low. reaches_start low below) (λ c. reaches_between c below dip)
    ]),
  )

-- ---- the same two ways

pub reaches_same : (Q R : ℤ) {x y d x' y' d' a b c a' b' c' : ℤ} → x ≡ a → y ≡ b → d ≡ c → x' ≡ a' → y' ≡ b' → d' ≡ c' → Reaches Q R x y d x' y' d' → Reaches Q R a b c a' b' c'
reaches_same Q R across up depth across' up' depth' reached =
    record {
      l = reached.l;
      m = reached.m;
      start = reached.start;
      finish = reached.finish;
      near = near_same Q R _ _ _ _ _ _ (sum across across') (sum up up') (sum depth depth') reached.near;
    }
  where
    sum : {u v s t : ℤ} → u ≡ s → v ≡ t → reached.l *ℤ u +ℤ reached.m *ℤ v ≡ reached.l *ℤ s +ℤ reached.m *ℤ t
    sum e f = ap₂ (λ u v. reached.l *ℤ u +ℤ reached.m *ℤ v) e f

-- in the other order

pub reaches_turned : (Q R x y d x' y' d' : ℤ) → Reaches Q R x y d x' y' d' → Reaches Q R x' y' d' x y d
reaches_turned Q R x y d x' y' d' reached =
    let l = reached.l in
    let m = reached.m in
    let swap : (a b : ℤ) → l *ℤ a +ℤ m *ℤ b ≡ m *ℤ b +ℤ l *ℤ a = λ a b. omega (arith, ints) in
    record {
      l = m;
      m = l;
      start = reached.finish;
      finish = reached.start;
      near = near_same Q R _ _ _ _ _ _ (swap x x') (swap y y') (swap d d') reached.near;
    }
