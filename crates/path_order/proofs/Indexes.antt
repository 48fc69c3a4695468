-- The tree of boxes: halving leads from a slot's node up to the first node, a box holds what is below it, and boxes are drawn anew.
use Rattle.std.proofs.Common.{◌≡◌, ◌≢◌, ℕ, zero, suc, ◌+◌, ◌*◌, ◌/◌, ◌<◌, ◌≤◌, ◌⊎◌, inl, inr, ℤ, List, [], ◌∷◌, ◌++◌, length, get_or, set, Option, None, Some, arith, sym, ap, ◌∙◌, subst}
use Rattle.std.proofs.lemmas.Bool.{cases_lt}
use Rattle.std.proofs.lemmas.Int.{ints}
use Rattle.std.proofs.lemmas.List.{get_or-set_other, get_or-set_same, get_or_append_left, get_or_push, get_or_read, length_push}
use Rattle.std.proofs.Math.ListN.{length-set}
use Rattle.integer_algebra.specs.Ranges.{IsWithin}
use Rattle.path_order.specs.Extents.{Holds, IsInside, IsInsideSpan}
use Rattle.path_order.specs.Index.{HaveLeaves, HoldsSlot, IsBelow, IsIndex, IsIndexFrom, halved}
use Rattle.path_order.specs.declared.entry.Entry.{Entry}
use Rattle.path_order.specs.declared.extent.Extent.{Extent}
use Rattle.path_order.specs.declared.span.Span.{Span}
use Rattle.plane_exact.specs.declared.node.TheConstants.{MOST_CHAINS}

halved_le : (k i : ℕ) → halved k i ≤ i
halved_le zero i = omega arith
halved_le (suc k) i = let below = halved_le k (i / 2) in omega arith

-- two numbers are the same or not
cases_same : (m n : ℕ) → (m ≡ n) ⊎ (m ≢ n)
cases_same m n = elim (cases_lt m n) [ inl less ↦ inr (λ e. absurd (omega arith)) | inr low ↦ elim (cases_lt n m) [ inl more ↦ inr (λ e. absurd (omega arith)) | inr high ↦ inl (omega arith) ] ]

-- each number comes to 1
pub halved_root : (fuel i : ℕ) → i ≤ fuel → 1 ≤ i → (k : ℕ) × (halved k i ≡ 1)
halved_root zero i few some = absurd (omega arith)
halved_root (suc fuel) i few some =
    elim (cases_lt i 2) [
      | inl one ↦ (0, omega arith)
      | inr more ↦ (let up = halved_root fuel (i / 2) (omega arith) (omega arith) in (suc up.0, up.1))
    ]

-- it comes to a node as great as half of it or more only if it is that node
pub halved_leaf : (k i n node : ℕ) → halved k i ≡ node → n ≤ node → i < 2 * n → i ≡ node
halved_leaf zero i n node is low high = is
halved_leaf (suc k) i n node is low high = let below = halved_le k (i / 2) in absurd (omega (arith, is))

-- it comes to any other node by way of one of the two below
pub halved_child : (k i node : ℕ) → halved k i ≡ node → i ≢ node → 1 ≤ node → ((m : ℕ) × (halved m i ≡ 2 * node)) ⊎ ((m : ℕ) × (halved m i ≡ 2 * node + 1))
halved_child zero i node is other some = absurd (other is)
halved_child (suc k) i node is other some =
    elim (cases_lt node (i / 2)) [
      | inl above ↦ (let ne : i / 2 ≢ node = omega arith in
          elim (halved_child k (i / 2) node is ne some) [ inl first ↦ inl (suc first.0, first.1) | inr second ↦ inr (suc second.0, second.1) ])
      | inr low ↦ (let below = halved_le k (i / 2) in let same : i / 2 ≡ node = omega (arith, is) in
          elim (cases_lt i (2 * node + 1)) [ inl even ↦ inl (0, omega arith) | inr odd ↦ inr (0, omega arith) ])
    ]

span_holds : (a b : Span) (t : ℤ) → IsInsideSpan a b → IsWithin a.low a.high t → IsWithin b.low b.high t
span_holds a b t inside within = record { low = omega (arith, ints); high = omega (arith, ints) }

inside_holds : (a b : Extent) (e : Entry) → IsInside a b → Holds a e → Holds b e
inside_holds a b e inside holds =
    let low = inside.least in
    let number = holds.number in
    record { across = span_holds a.across b.across e.at.x inside.across holds.across; up = span_holds a.up b.up e.at.y inside.up holds.up; number = omega arith }

span_on : (a b c : Span) → IsInsideSpan a b → IsInsideSpan b c → IsInsideSpan a c
span_on a b c one two = record { low = omega (arith, ints); high = omega (arith, ints) }

inside_on : (a b c : Extent) → IsInside a b → IsInside b c → IsInside a c
inside_on a b c one two =
    let low = one.least in
    let high = two.least in
    record { least = omega arith; across = span_on a.across b.across c.across one.across two.across; up = span_on a.up b.up c.up one.up two.up }

module _ (slots : List (Option Entry)) (extents : List Extent) where
  -- what a box holds, those above it hold
  holds_up : IsIndex slots extents → (k i : ℕ) (d : Extent) (e : Entry) → i < length extents → 1 ≤ halved k i → Holds (get_or extents i d) e → Holds (get_or extents (halved k i) d) e
  holds_up index zero i d e there some holds = holds
  holds_up index (suc k) i d e there some holds =
      let below = halved_le k (i / 2) in
      let half : 1 ≤ i / 2 = omega (arith, some) in
      holds_up index k (i / 2) d e (omega arith) some (inside_holds (get_or extents i d) (get_or extents (i / 2) d) e (index.inner i d half there) holds)

  -- the box of a node holds what is in the slots below it
  pub node_holds : IsIndex slots extents → (node j : ℕ) (d : Extent) (e : Entry) → 1 ≤ node → IsBelow (length slots) node j → j < length slots → get_or slots j None ≡ Some e
      → Holds (get_or extents node d) e
  node_holds index node j d e some below there is =
      let i = length slots + j in
      let size = index.at.size in
      let leaf : Holds (get_or extents i d) e = subst (HoldsSlot (get_or extents i d)) is (index.at.leaves j d there) in
      subst (λ m. Holds (get_or extents m d) e) below.1 (holds_up index below.0 i d e (omega arith) (omega (arith, below.1)) leaf)

  -- the first node is above all slots
  pub root_above : (j : ℕ) → 1 ≤ length slots → IsBelow (length slots) 1 j
  root_above j some = halved_root (length slots + j) (length slots + j) (omega arith) (omega arith)

  -- a box is drawn anew, at a node with others below it
  redrawn : (from to h : ℕ) (v : Extent) → IsIndexFrom from slots extents → 1 ≤ h → h < length slots → ((i : ℕ) (d : Extent) → i / 2 ≡ h → i < length extents → IsInside (get_or extents i d) v)
      → ((d : Extent) → to ≤ h / 2 → IsInside v (get_or extents (h / 2) d)) → ((i : ℕ) → to ≤ i / 2 → i / 2 ≢ h → from ≤ i / 2) → IsIndexFrom to slots (set extents h v)
  redrawn from to h v index some inner below above others =
      let size = index.at.size in
      let same : length (set extents h v) ≡ length extents = length-set extents h v in
      record {
        at = record {
          few = index.at.few;
          size = same ∙ size;
          leaves = λ j d there. let ne : length slots + j ≢ h = omega arith in
              subst (λ x. HoldsSlot x (get_or slots j None)) (sym (get_or-set_other extents h (length slots + j) v d ne)) (index.at.leaves j d there);
        };
        inner = λ i d low there. let within : i < length extents = omega arith in
            elim (cases_same (i / 2) h) [
              | inl half ↦ (let ne : i ≢ h = omega arith in let fits : h < length extents = omega arith in
                  subst (λ x. IsInside (get_or (set extents h v) i d) x) (sym (ap (λ m. get_or (set extents h v) m d) half ∙ get_or-set_same extents h v d fits))
                  (subst (λ x. IsInside x v) (sym (get_or-set_other extents h i v d ne)) (below i d half within)))
              | inr apart ↦ (
                  subst (λ x. IsInside (get_or (set extents h v) i d) x) (sym (get_or-set_other extents h (i / 2) v d apart))
                  (elim (cases_same i h) [
                    | inl at ↦ (let fits : h < length extents = omega arith in
                        subst (λ m. IsInside (get_or (set extents h v) m d) (get_or extents (m / 2) d)) (sym at)
                        (subst (λ x. IsInside x (get_or extents (h / 2) d)) (sym (get_or-set_same extents h v d fits)) (above d (subst (λ m. to ≤ m / 2) at low))))
                    | inr ne ↦ subst (λ x. IsInside x (get_or extents (i / 2) d)) (sym (get_or-set_other extents h i v d ne)) (index.inner i d (others i low apart) within)
                  ]))
            ];
      }

  -- what is drawn round the two boxes below a node
  record IsRoundBoth (h : ℕ) (a b v : Extent) : Type 0 where
    read_a : a ≡ get_or extents (2 * h) a
    read_b : b ≡ get_or extents (2 * h + 1) b
    first : IsInside a v
    second : IsInside b v

  below_inside : (h : ℕ) (a b v : Extent) → IsRoundBoth h a b v → (i : ℕ) (d : Extent) → i / 2 ≡ h → i < length extents → 2 * h + 1 < length extents → IsInside (get_or extents i d) v
  below_inside h a b v round i d half there fits =
      elim (cases_lt i (2 * h + 1)) [
        | inl even ↦ (let is : i ≡ 2 * h = omega arith in
            subst (λ m. IsInside (get_or extents m d) v) (sym is) (subst (λ x. IsInside x v) (get_or_read extents (2 * h) a (omega arith) round.read_a d) round.first))
        | inr odd ↦ (let is : i ≡ 2 * h + 1 = omega arith in
            subst (λ m. IsInside (get_or extents m d) v) (sym is) (subst (λ x. IsInside x v) (get_or_read extents (2 * h + 1) b fits round.read_b d) round.second))
      ]

  -- the tree is drawn from one node more on
  pub drawn_more : (node h : ℕ) (a b v : Extent) → IsIndexFrom node slots extents → node ≡ h + 1 → 1 ≤ h → node ≤ length slots → a ≡ get_or extents (2 * h) a → b ≡ get_or extents (2 * h + 1) b
      → IsInside a v → IsInside b v → IsIndexFrom h slots (set extents h v)
  drawn_more node h a b v index next some few read_a read_b first second =
      let size = index.at.size in
      redrawn node h h v index some (omega arith)
      (λ i d half there. below_inside h a b v (record { read_a = read_a; read_b = read_b; first = first; second = second }) i d half there (omega arith))
      (λ d low. absurd (omega arith)) (λ i low apart. omega arith)

  -- a box is drawn in to what is below it
  pub drawn_in : (h : ℕ) (a b v : Extent) → IsIndex slots extents → 1 ≤ h → h < length slots → a ≡ get_or extents (2 * h) a → b ≡ get_or extents (2 * h + 1) b
      → IsInside a v → IsInside b v → ((e : Extent) → IsInside a e → IsInside b e → IsInside v e) → IsIndex slots (set extents h v)
  drawn_in h a b v index some inner read_a read_b first second least =
      let size = index.at.size in
      let even : 2 * h / 2 ≡ h = omega arith in
      let odd : (2 * h + 1) / 2 ≡ h = omega arith in
      redrawn 1 1 h v index some inner
      (λ i d half there. below_inside h a b v (record { read_a = read_a; read_b = read_b; first = first; second = second }) i d half there (omega arith))
      (λ d low. let e = get_or extents (h / 2) d in
      least e
      (inside_on a (get_or extents h d) e
      (subst (λ x. IsInside x (get_or extents h d)) (sym (get_or_read extents (2 * h) a (omega arith) read_a d))
      (subst (λ m. IsInside (get_or extents (2 * h) d) (get_or extents m d)) even (index.inner (2 * h) d (omega arith) (omega arith))))
      (index.inner h d low (omega arith)))
      (inside_on b (get_or extents h d) e
      (subst (λ x. IsInside x (get_or extents h d)) (sym (get_or_read extents (2 * h + 1) b (omega arith) read_b d))
      (subst (λ m. IsInside (get_or extents (2 * h + 1) d) (get_or extents m d)) odd (index.inner (2 * h + 1) d (omega arith) (omega arith))))
      (index.inner h d low (omega arith))))
      (λ i low apart. low)

  -- a slot is emptied, and its box with it
  pub emptied : (slot : ℕ) (v : Extent) → IsIndex slots extents → slot < length slots → ((e : Extent) → IsInside v e) → IsIndex (set slots slot None) (set extents (length slots + slot) v)
  emptied slot v index there empty =
      let size = index.at.size in
      let few = index.at.few in
      let n = length slots in
      let h = n + slot in
      let same : length (set extents h v) ≡ length extents = length-set extents h v in
      let kept : length (set slots slot None) ≡ n = length-set slots slot None in
      record {
        at = record {
          few = omega arith;
          size = omega arith;
          leaves = λ j d low. let within : j < n = omega arith in
              subst (λ m. HoldsSlot (get_or (set extents h v) (m + j) d) (get_or (set slots slot None) j None)) (sym kept)
              (elim (cases_same j slot) [
                | inl at ↦ subst (HoldsSlot (get_or (set extents h v) (n + j) d)) (sym (ap (λ m. get_or (set slots slot None) m None) at ∙ get_or-set_same slots slot None None there)) tt
                | inr apart ↦ (let ne : n + j ≢ h = omega arith in
                    subst (λ x. HoldsSlot x (get_or (set slots slot None) j None)) (sym (get_or-set_other extents h (n + j) v d ne))
                    (subst (HoldsSlot (get_or extents (n + j) d)) (sym (get_or-set_other slots slot j None None apart)) (index.at.leaves j d within)))
              ]);
        };
        inner = λ i d low far. let within : i < length extents = omega arith in
            let up : i / 2 ≢ h = omega arith in
            subst (λ x. IsInside (get_or (set extents h v) i d) x) (sym (get_or-set_other extents h (i / 2) v d up))
            (elim (cases_same i h) [
              | inl at ↦ (let fits : h < length extents = omega arith in
                  subst (λ x. IsInside x (get_or extents (i / 2) d)) (sym (ap (λ m. get_or (set extents h v) m d) at ∙ get_or-set_same extents h v d fits)) (empty (get_or extents (i / 2) d)))
              | inr ne ↦ subst (λ x. IsInside x (get_or extents (i / 2) d)) (sym (get_or-set_other extents h i v d ne)) (index.inner i d low within)
            ]);
      }

  -- the boxes of the slots below k stand behind as many others as there are slots
  pub record AreLeavesBelow (k : ℕ) : Type 0 where
    pub size : length extents ≡ length slots + k
    pub leaves : (j : ℕ) (d : Extent) → j < k → HoldsSlot (get_or extents (length slots + j) d) (get_or slots j None)

  pub leaves_none : length extents ≡ length slots → AreLeavesBelow 0
  leaves_none same = record { size = omega arith; leaves = λ j d low. absurd (omega arith) }

  pub leaves_all : (k : ℕ) → k ≡ length slots → length slots ≤ MOST_CHAINS → AreLeavesBelow k → HaveLeaves slots extents
  leaves_all k all few are =
      let size = are.size in
      record { few = few; size = omega arith; leaves = λ j d low. are.leaves j d (omega arith) }

  pub leaves_more : (k : ℕ) (slot : Option Entry) (v : Extent) (new : List Extent) → AreLeavesBelow k → k < length slots → slot ≡ get_or slots k slot → HoldsSlot v slot → new ≡ extents ++ v ∷ []
      → (length new ≡ length slots + (k + 1)) × ((j : ℕ) (d : Extent) → j < k + 1 → HoldsSlot (get_or new (length slots + j) d) (get_or slots j None))
  leaves_more k slot v new are there read holds pushed =
      let size = are.size in
      let n = length slots in
      let long : length new ≡ length extents + 1 = ap length pushed ∙ length_push extents v in (
        omega arith,
        λ j d low. subst (λ xs. HoldsSlot (get_or xs (n + j) d) (get_or slots j None)) (sym pushed)
            (elim (cases_lt j k) [
              | inl below ↦ subst (λ x. HoldsSlot x (get_or slots j None)) (sym (get_or_append_left extents (v ∷ []) d (n + j) (omega arith))) (are.leaves j d below)
              | inr last ↦ (let at : j ≡ k = omega arith in
                  subst (λ x. HoldsSlot x (get_or slots j None)) (sym (get_or_push extents v d (n + j) (omega arith)))
                  (subst (λ m. HoldsSlot v (get_or slots m None)) (sym at) (subst (HoldsSlot v) (get_or_read slots k slot there read None) holds)))
            ]),
      )

  pub none_drawn : HaveLeaves slots extents → IsIndexFrom (length slots) slots extents
  none_drawn at = let size = at.size in record { at = at; inner = λ i d low there. absurd (omega arith) }

  pub all_drawn : (node : ℕ) → node ≤ 1 → IsIndexFrom node slots extents → IsIndex slots extents
  all_drawn node first index = record { at = index.at; inner = λ i d low there. index.inner i d (omega arith) there }
