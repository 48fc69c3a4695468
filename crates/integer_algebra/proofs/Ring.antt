-- Identities of polynomials over the integers, proved by computation.
--
-- A call names the atoms, writes both sides as terms over them, and ends in `tt`:
--
--     use Rattle.integer_algebra.proofs.Ring.{ring, V, K, ◌⊕◌, ◌⊖◌, ◌⊗◌}
--
--     square_of_sum : (a b : ℤ) → (a +ℤ b) *ℤ (a +ℤ b) ≡ a *ℤ a +ℤ pos 2 *ℤ (a *ℤ b) +ℤ b *ℤ b
--     square_of_sum a b = ring (a ∷ b ∷ []) ((V 0 ⊕ V 1) ⊗ (V 0 ⊕ V 1)) (V 0 ⊗ V 0 ⊕ K (pos 2) ⊗ (V 0 ⊗ V 1) ⊕ V 1 ⊗ V 1) tt
--
-- `V i` is the i-th atom, any integer at all; `K c` a number; `M e` is `neg_ℤ e`; `e ⊖ f` is `e -ℤ f`. Each side has to be
-- the goal's own term, with its brackets. `let d = V 1 ⊖ V 0 in ..` shortens a side that repeats a part.
-- An identity that does not hold is a type error at `tt`, which is "expected type `⊥`": look for a wrong sign first.
-- A side that is not the goal's term is a type error at the whole call, which shows both terms.
use mathlib.Core.Path.{◌≡◌, refl, sym, ap, ap₂, ◌∙◌}
use mathlib.Core.Bool.{Bool, true, false, ◌&&◌}
use mathlib.Core.List.{List, [], ◌∷◌}
use Prim.Native.Nat.{ℕ, zero, suc, ◌*◌}
use native.Mathlib.Omega.{arith}
use lib.Dec.{T}
use lib.IntN.{ℤ, pos, negsuc, ◌+ℤ◌, ◌-ℤ◌, ◌*ℤ◌, neg_ℤ, *ℤ_comm}
use borrow.Author.Differences.{up, down, sum_is_lem, product_is}
use Rattle.std.proofs.lemmas.Int.{ints}

-- ---- terms

infixl 6 ◌⊕◌ ◌⊖◌
infixl 7 ◌⊗◌
pub data Term : Type 0 where
  V : ℕ → Term
  K : ℤ → Term
  M : Term → Term
  ◌⊕◌ ◌⊖◌ ◌⊗◌ : Term → Term → Term

-- the first atom, 0 where there is none, and the atoms after it
abbrev pub first : List ℤ → ℤ
first [] = pos 0
first (x ∷ xs) = x

abbrev pub later : List ℤ → List ℤ
later [] = []
later (x ∷ xs) = xs

abbrev pub atom : List ℤ → ℕ → ℤ
atom xs zero = first xs
atom xs (suc i) = atom (later xs) i

-- the integer that a term stands for
abbrev pub eval : List ℤ → Term → ℤ
eval xs (V i) = atom xs i
eval xs (K c) = c
eval xs (M e) = neg_ℤ (eval xs e)
eval xs (e ⊕ f) = eval xs e +ℤ eval xs f
eval xs (e ⊖ f) = eval xs e -ℤ eval xs f
eval xs (e ⊗ f) = eval xs e *ℤ eval xs f

-- ---- polynomials

-- `horner p q` is p x + q, where x is the first atom and q speaks of the later ones alone
pub data Poly : Type 0 where
  const : ℤ → Poly
  horner : Poly → Poly → Poly

abbrev pub value : List ℤ → Poly → ℤ
value xs (const c) = c
value xs (horner p q) = value xs p *ℤ first xs +ℤ value (later xs) q

-- `horner p q`, short where it is a number
abbrev pub join : Poly → Poly → Poly
join (const (pos zero)) (const d) = const d
join p q = horner p q

abbrev pub variable : ℕ → Poly
variable zero = horner (const (pos 1)) (const (pos 0))
variable (suc i) = horner (const (pos 0)) (variable i)

abbrev pub shift : ℤ → Poly → Poly
shift c (const d) = const (c +ℤ d)
shift c (horner p q) = horner p (shift c q)

abbrev pub add : Poly → Poly → Poly
add (const c) r = shift c r
add (horner p q) (const d) = horner p (shift d q)
add (horner p q) (horner r s) = join (add p r) (add q s)

abbrev pub scale : ℤ → Poly → Poly
scale c (const d) = const (c *ℤ d)
scale c (horner p q) = join (scale c p) (scale c q)

-- a product with a polynomial in the later atoms, where `f` multiplies by it
abbrev pub over : (Poly → Poly) → Poly → Poly
over f (const c) = join (const (pos 0)) (f (const c))
over f (horner p q) = join (over f p) (f q)

abbrev pub multiply : Poly → Poly → Poly
multiply (const c) r = scale c r
multiply (horner p q) r = add (join (multiply p r) (const (pos 0))) (over (multiply q) r)

abbrev pub norm : Term → Poly
norm (V i) = variable i
norm (K c) = const c
norm (M e) = scale (negsuc 0) (norm e)
norm (e ⊕ f) = add (norm e) (norm f)
norm (e ⊖ f) = add (norm e) (scale (negsuc 0) (norm f))
norm (e ⊗ f) = multiply (norm e) (norm f)

abbrev pub is_zero : ℤ → Bool
is_zero (pos zero) = true
is_zero (pos (suc n)) = false
is_zero (negsuc n) = false

abbrev pub all_zero : Poly → Bool
all_zero (const c) = is_zero c
all_zero (horner p q) = all_zero p && all_zero q

-- ---- the laws of the product that the libraries lack

pub times_plus : (a b c : ℤ) → a *ℤ (b +ℤ c) ≡ a *ℤ b +ℤ a *ℤ c
times_plus a b c =
    let above = ap (λ n. up a * n) (sum_is_lem b c) in
    let below = ap (λ n. down a * n) (sum_is_lem b c) in
    omega (arith, ints)

pub plus_times : (a b c : ℤ) → (a +ℤ b) *ℤ c ≡ a *ℤ c +ℤ b *ℤ c
plus_times a b c = *ℤ_comm (a +ℤ b) c ∙ times_plus c a b ∙ ap₂ (λ x y. x +ℤ y) (*ℤ_comm c a) (*ℤ_comm c b)

pub times_assoc : (a b c : ℤ) → (a *ℤ b) *ℤ c ≡ a *ℤ (b *ℤ c)
times_assoc a b c =
    let p = product_is a b in
    let q = product_is b c in
    let p₁ = ap (λ n. n * up c) p.0 in
    let p₂ = ap (λ n. n * down c) p.0 in
    let p₃ = ap (λ n. n * up c) p.1 in
    let p₄ = ap (λ n. n * down c) p.1 in
    let q₁ = ap (λ n. up a * n) q.0 in
    let q₂ = ap (λ n. down a * n) q.0 in
    let q₃ = ap (λ n. up a * n) q.1 in
    let q₄ = ap (λ n. down a * n) q.1 in
    omega (arith, ints)

-- ---- each operation means what it says

join-value : (xs : List ℤ) (p q : Poly) → value xs (join p q) ≡ value xs p *ℤ first xs +ℤ value (later xs) q
join-value xs (const (pos zero)) (const d) = omega (arith, ints)
join-value xs (const (pos zero)) (horner r s) = refl
join-value xs (const (pos (suc n))) q = refl
join-value xs (const (negsuc n)) q = refl
join-value xs (horner p r) q = refl

variable-value : (xs : List ℤ) (i : ℕ) → atom xs i ≡ value xs (variable i)
variable-value xs zero = omega (arith, ints)
variable-value xs (suc i) = variable-value (later xs) i ∙ none (first xs) (value (later xs) (variable i))
  where
    none : (x y : ℤ) → y ≡ pos 0 *ℤ x +ℤ y
    none x y = omega (arith, ints)

carried : (c m y z : ℤ) → z ≡ c +ℤ y → m +ℤ z ≡ c +ℤ (m +ℤ y)
carried c m y z e = omega (arith, ints)

shift-value : (xs : List ℤ) (c : ℤ) (p : Poly) → value xs (shift c p) ≡ c +ℤ value xs p
shift-value xs c (const d) = refl
shift-value xs c (horner p q) = carried c (value xs p *ℤ first xs) (value (later xs) q) (value (later xs) (shift c q)) (shift-value (later xs) c q)

shifted : (d m y z : ℤ) → z ≡ d +ℤ y → m +ℤ z ≡ m +ℤ y +ℤ d
shifted d m y z e = omega (arith, ints)

added : (x p q r s u v : ℤ) → u ≡ p +ℤ r → v ≡ q +ℤ s → u *ℤ x +ℤ v ≡ (p *ℤ x +ℤ q) +ℤ (r *ℤ x +ℤ s)
added x p q r s u v e f = let g = ap (λ z. z *ℤ x) e ∙ plus_times p r x in omega (arith, ints)

add-value : (xs : List ℤ) (p q : Poly) → value xs (add p q) ≡ value xs p +ℤ value xs q
add-value xs (const c) r = shift-value xs c r
add-value xs (horner p q) (const d) = shifted d (value xs p *ℤ first xs) (value (later xs) q) (value (later xs) (shift d q)) (shift-value (later xs) d q)
add-value xs (horner p q) (horner r s) =
    join-value xs (add p r) (add q s)
    ∙ added (first xs) (value xs p) (value (later xs) q) (value xs r) (value (later xs) s) _ _ (add-value xs p r) (add-value (later xs) q s)

scaled : (c x p q u v : ℤ) → u ≡ c *ℤ p → v ≡ c *ℤ q → u *ℤ x +ℤ v ≡ c *ℤ (p *ℤ x +ℤ q)
scaled c x p q u v e f = ap₂ (λ y z. y +ℤ z) (ap (λ z. z *ℤ x) e ∙ times_assoc c p x) f ∙ sym (times_plus c (p *ℤ x) q)

scale-value : (xs : List ℤ) (c : ℤ) (p : Poly) → value xs (scale c p) ≡ c *ℤ value xs p
scale-value xs c (const d) = refl
scale-value xs c (horner p q) =
    join-value xs (scale c p) (scale c q)
    ∙ scaled c (first xs) (value xs p) (value (later xs) q) _ _ (scale-value xs c p) (scale-value (later xs) c q)

alone : (x v : ℤ) → pos 0 *ℤ x +ℤ v ≡ v
alone x v = omega (arith, ints)

over-value : (xs : List ℤ) (f : Poly → Poly) (v : ℤ) → ((s : Poly) → value (later xs) (f s) ≡ v *ℤ value (later xs) s) → (r : Poly) → value xs (over f r) ≡ v *ℤ value xs r
over-value xs f v means (const c) = join-value xs (const (pos 0)) (f (const c)) ∙ alone (first xs) _ ∙ means (const c)
over-value xs f v means (horner p q) =
    join-value xs (over f p) (f q)
    ∙ scaled v (first xs) (value xs p) (value (later xs) q) _ _ (over-value xs f v means p) (means q)

multiplied : (x p q r u : ℤ) → u ≡ p *ℤ r → (u *ℤ x +ℤ pos 0) +ℤ q *ℤ r ≡ (p *ℤ x +ℤ q) *ℤ r
multiplied x p q r u e =
    let moved : u *ℤ x ≡ (p *ℤ x) *ℤ r = ap (λ z. z *ℤ x) e ∙ times_assoc p r x ∙ ap (λ z. p *ℤ z) (*ℤ_comm r x) ∙ sym (times_assoc p x r) in
    let split = plus_times (p *ℤ x) q r in
    omega (arith, ints)

multiply-value : (xs : List ℤ) (p r : Poly) → value xs (multiply p r) ≡ value xs p *ℤ value xs r
multiply-value xs (const c) r = scale-value xs c r
multiply-value xs (horner p q) r =
    add-value xs (join (multiply p r) (const (pos 0))) (over (multiply q) r)
    ∙ ap₂ (λ y z. y +ℤ z) (join-value xs (multiply p r) (const (pos 0))) (over-value xs (multiply q) (value (later xs) q) (multiply-value (later xs) q) r)
    ∙ multiplied (first xs) (value xs p) (value (later xs) q) (value xs r) _ (multiply-value xs p r)

minus_one : (z : ℤ) → neg_ℤ z ≡ negsuc 0 *ℤ z
minus_one z = omega (arith, ints)

norm-value : (xs : List ℤ) (e : Term) → eval xs e ≡ value xs (norm e)
norm-value xs (V i) = variable-value xs i
norm-value xs (K c) = refl
norm-value xs (M e) = ap neg_ℤ (norm-value xs e) ∙ minus_one _ ∙ sym (scale-value xs (negsuc 0) (norm e))
norm-value xs (e ⊕ f) = ap₂ (λ y z. y +ℤ z) (norm-value xs e) (norm-value xs f) ∙ sym (add-value xs (norm e) (norm f))
norm-value xs (e ⊖ f) =
    ap₂ (λ y z. y +ℤ z) (norm-value xs e) (ap neg_ℤ (norm-value xs f) ∙ minus_one _ ∙ sym (scale-value xs (negsuc 0) (norm f)))
    ∙ sym (add-value xs (norm e) (scale (negsuc 0) (norm f)))
norm-value xs (e ⊗ f) = ap₂ (λ y z. y *ℤ z) (norm-value xs e) (norm-value xs f) ∙ sym (multiply-value xs (norm e) (norm f))

-- ---- what computes to zero is zero

is_zero-value : (c : ℤ) → T (is_zero c) → c ≡ pos 0
is_zero-value (pos zero) t = refl
is_zero-value (pos (suc n)) t = absurd t
is_zero-value (negsuc n) t = absurd t

both : (a b : Bool) → T (a && b) → T a × T b
both true b t = (tt, t)
both false b t = absurd t

all_zero-value : (xs : List ℤ) (p : Poly) → T (all_zero p) → value xs p ≡ pos 0
all_zero-value xs (const c) t = is_zero-value c t
all_zero-value xs (horner p q) t =
    let parts = both (all_zero p) (all_zero q) t in
    ap₂ (λ y z. y *ℤ first xs +ℤ z) (all_zero-value xs p parts.0) (all_zero-value (later xs) q parts.1) ∙ alone (first xs) (pos 0)

equal : (a b : ℤ) → a -ℤ b ≡ pos 0 → a ≡ b
equal a b e = omega (arith, ints)

-- two terms whose difference computes to zero are equal, whatever the atoms are
pub ring : (xs : List ℤ) (e f : Term) → T (all_zero (norm (e ⊖ f))) → eval xs e ≡ eval xs f
ring xs e f t = equal (eval xs e) (eval xs f) (norm-value xs (e ⊖ f) ∙ all_zero-value xs (norm (e ⊖ f)) t)
