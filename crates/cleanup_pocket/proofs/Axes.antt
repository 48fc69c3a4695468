-- The chains of all lines along an axis, line by line.
use Rattle.std.specs.List.{AllZip}
use Rattle.std.proofs.Common.{◌≡◌, inl, inr, ℕ, ◌+◌, ◌*◌, ◌<◌, ◌≤◌, Bool, List, [], ◌∷◌, ◌++◌, length, get_or, ℤ, pos, ◌+ℤ◌, ◌<ℤ◌, arith, refl, ap, subst, sym, ◌∙◌, append_assoc, append-nil}
use Rattle.std.proofs.Math.Nat.{mul-lt-mul_of_pos_right}
use Rattle.std.proofs.Math.Seq.{get_or-append_seam}
use Rattle.std.proofs.lemmas.Bool.{cases_lt}
use Rattle.std.proofs.lemmas.Int.{ints}
use Rattle.std.proofs.lemmas.List.{get_or_append_left, length-append}
use Rattle.std.proofs.lemmas.List.Concat.{flat_map-append}
use Rattle.std.proofs.lemmas.List.Elements.{All-nil}
use Rattle.plane_exact.specs.Nodes.{GridNode, joined}
use Rattle.plane_exact.specs.Plane.{GridPoint, IsCoordinate}
use Rattle.engrave_model.specs.Lists.{AreJoined}
use Rattle.depth_rule.specs.Ticks.{AreTicks}
use Rattle.depth_rule.proofs.Multiples.{IsTick, tick_above, tick_multiple, tick_of, tick_under}
use Rattle.cleanup_pocket.specs.Kept.{IsGrown, IsKept}
use Rattle.cleanup_pocket.specs.Floors.{AreAxisChains, AreLineChains, AreLines, AreWayChains, IsLine, OfPlaces, line_of}
use Rattle.cleanup_pocket.specs.declared.axis.Axis.{Axis}
use Rattle.cleanup_pocket.specs.declared.axis.Axis.TheVariants as axis
use Rattle.cleanup_pocket.specs.declared.axis.Way.{Way}
use Rattle.cleanup_pocket.specs.declared.axis.Way.TheVariants as ways
use Rattle.cleanup_pocket.proofs.Growing.{both_added, same_added}

-- ---- lists

zip_push : {A B : Type 0} (R : A → B → Type 0) (xs : List A) (ys : List B) (x : A) (y : B) → AllZip R xs ys → R x y → AllZip R (xs ++ x ∷ []) (ys ++ y ∷ [])
zip_push R [] [] x y all last = (last, tt)
zip_push R [] (z ∷ ys) x y all last = absurd all
zip_push R (z ∷ xs) [] x y all last = absurd all
zip_push R (w ∷ xs) (z ∷ ys) x y all last = (all.0, zip_push R xs ys x y all.1 last)

joined_push : (parts : List (List (List GridNode))) (part : List (List GridNode)) → joined (parts ++ part ∷ []) ≡ joined parts ++ part
joined_push parts part = flat_map-append (λ part. part) parts (part ∷ []) ∙ ap (λ l. joined parts ++ l) (append-nil part)

-- ---- the lines

-- so many lines, from the first on
pub record AreFirstLines (first : ℤ) (over count : ℕ) (lines : List ℤ) : Type 0 where
  pub count_is : length lines ≡ count
  pub each : (i : ℕ) (d : ℤ) → i < count → get_or lines i d ≡ first +ℤ pos (i * over)

module _ (first : ℤ) (over : ℕ) where
  no_lines : AreFirstLines first over 0 []
  no_lines = record { count_is = refl; each = λ i d below. absurd (omega arith) }

  one_line_more : (k : ℕ) (lines : List ℤ) (x : ℤ) → x ≡ first +ℤ pos (k * over) → AreFirstLines first over k lines → AreFirstLines first over (k + 1) (lines ++ x ∷ [])
  one_line_more k lines x is are =
      let count = are.count_is in
      let longer = length-append lines (x ∷ []) in
      record {
        count_is = omega arith;
        each = λ i d below.
            elim (cases_lt i k) [
              | inl before ↦ get_or_append_left lines (x ∷ []) d i (omega arith) ∙ are.each i d before
              | inr last ↦
                  (let same : length lines ≡ i = omega arith in
                  let here : k ≡ i = omega arith in
                  subst (λ i. get_or (lines ++ x ∷ []) i d ≡ x) same (get_or-append_seam lines x [] d) ∙ is ∙ ap (λ k. first +ℤ pos (k * over)) here)
            ];
      }

  module _ (low high : ℤ) (count : ℕ) (apart : 1 ≤ over) (ticks : AreTicks low high over first count) (lines : List ℤ) (are : AreFirstLines first over count lines) where
    tick_at : (i : ℕ) (d : ℤ) → i < length lines → IsTick first over count (get_or lines i d)
    tick_at i d below = let count_is = are.count_is in record { number = i; below = omega arith; is = are.each i d (omega arith) }

    in_order : (i j : ℕ) (d : ℤ) → i < j → j < length lines → get_or lines i d <ℤ get_or lines j d
    in_order i j d less below =
        let count_is = are.count_is in
        let one = are.each i d (omega arith) in
        let other = are.each j d (omega arith) in
        let more : i * over < j * over = mul-lt-mul_of_pos_right less apart in
        omega (arith, ints)

    all_lines : AreLines low high over lines
    all_lines = record {
      each = λ i d below. record {
        multiple = tick_multiple over apart low high first count ticks (get_or lines i d) (tick_at i d below);
        from = tick_above over apart low high first count ticks (get_or lines i d) (tick_at i d below);
        to = tick_under over apart low high first count ticks (get_or lines i d) (tick_at i d below);
      };
      complete = λ line is.
          let tick = tick_of over apart low high first count ticks line is.multiple is.from is.to in
          let count_is = are.count_is in
          let below = tick.below in
          (tick.number, omega arith, are.each tick.number line tick.below ∙ sym tick.is);
      ordered = in_order;
    }

-- a line is a coordinate, as the ends are
module _ (first : ℤ) (over count : ℕ) (low high : ℤ) (apart : 1 ≤ over) (ticks : AreTicks low high over first count) (low_on : IsCoordinate low) (high_on : IsCoordinate high) where
  pub line_on : (k : ℕ) → k < count → IsCoordinate (first +ℤ pos (k * over))
  line_on k below =
      let tick : IsTick first over count (first +ℤ pos (k * over)) = record { number = k; below = below; is = refl } in
      let above = tick_above over apart low high first count ticks (first +ℤ pos (k * over)) tick in
      let under = tick_under over apart low high first count ticks (first +ℤ pos (k * over)) tick in
      let least = low_on.low in
      let most = high_on.high in
      record { low = omega (arith, ints); high = omega (arith, ints) }

  pub first_on : IsCoordinate first
  first_on =
      let some = ticks.some in
      let none : 0 * over ≡ 0 = omega arith in
      let on = line_on 0 (omega arith) in
      let least = on.low in
      let most = on.high in
      record { low = omega (arith, ints); high = omega (arith, ints) }

-- ---- their chains

module _ (IsGood IsWay : OfPlaces) (depth over : ℕ) (low high : GridPoint) (axis : Axis) where
  -- where there is no line, there is no chain
  pub none_along : ((line : ℤ) → ¬ IsLine (line_of axis low) (line_of axis high) over line) → AreAxisChains IsGood IsWay depth over low high axis []
  none_along none = record {
    lines = [];
    all = record { each = All-nil (IsLine (line_of axis low) (line_of axis high) over); complete = λ line is. absurd (none line is); ordered = λ i j d less below. absurd (omega arith) };
    parts = [];
    each = tt;
    are = refl;
  }

  -- the chains of so many lines have come
  pub record AreLinesKept (first : ℤ) (k : ℕ) (kept : List (List GridNode)) (has_more : Bool) (kept' : List (List GridNode)) (has_more' : Bool) : Type 0 where
    pub lines : List ℤ
    pub parts : List (List (List GridNode))
    pub are : AreFirstLines first over k lines
    pub each : AllZip (AreLineChains IsGood IsWay depth axis) lines parts
    pub grown : (all : List (List GridNode)) → IsKept all kept has_more → IsKept (all ++ joined parts) kept' has_more'

  module _ (first : ℤ) (kept : List (List GridNode)) (has_more : Bool) where
    pub lines_begun : AreLinesKept first 0 kept has_more kept has_more
    lines_begun = record {
      lines = [];
      parts = [];
      are = no_lines first over;
      each = tt;
      grown = λ all here. subst (λ l. IsKept l kept has_more) (sym (append-nil all)) here;
    }

    pub lines_stepped : (k : ℕ) (line : ℤ) (kept' kept'' : List (List GridNode)) (more more' : Bool) → line ≡ first +ℤ pos (k * over)
        → IsGrown (AreLineChains IsGood IsWay depth axis line) kept' more kept'' more' → AreLinesKept first k kept has_more kept' more → AreLinesKept first (k + 1) kept has_more kept'' more'
    lines_stepped k line kept' kept'' more more' is one far = record {
      lines = far.lines ++ line ∷ [];
      parts = far.parts ++ one.part ∷ [];
      are = one_line_more first over k far.lines line is far.are;
      each = zip_push (AreLineChains IsGood IsWay depth axis) far.lines far.parts line one.part far.each one.is;
      grown = λ all here.
          let same : (all ++ joined far.parts) ++ one.part ≡ all ++ joined (far.parts ++ one.part ∷ []) =
          append_assoc all (joined far.parts) one.part ∙ ap (λ l. all ++ l) (sym (joined_push far.parts one.part)) in
          subst (λ l. IsKept l kept'' more') same (one.grown (all ++ joined far.parts) (far.grown all here));
    }

    pub lines_ended : (count : ℕ) (kept' : List (List GridNode)) (more : Bool) → 1 ≤ over → AreTicks (line_of axis low) (line_of axis high) over first count
        → AreLinesKept first count kept has_more kept' more → IsGrown (AreAxisChains IsGood IsWay depth over low high axis) kept has_more kept' more
    lines_ended count kept' more apart ticks far = record {
      part = joined far.parts;
      is = record {
        lines = far.lines;
        all = all_lines first over (line_of axis low) (line_of axis high) count apart ticks far.lines far.are;
        parts = far.parts;
        each = far.each;
        are = refl;
      };
      grown = far.grown;
    }

-- ---- rows, columns, or both

module _ (IsGood IsWay : OfPlaces) (depth over : ℕ) (low high : GridPoint) (way : Way) (kept kept' : List (List GridNode)) (has_more more : Bool) where
  abbrev Along : Axis → List (List GridNode) → Type 0
  Along axis chains = AreAxisChains IsGood IsWay depth over low high axis chains

  abbrev Chains : List (List GridNode) → Type 0
  Chains chains = AreWayChains IsGood IsWay depth over low high way chains

  pub rows_added : way ≡ ways.X → IsGrown (Along axis.X) kept has_more kept' more → IsGrown Chains kept has_more kept' more
  rows_added is = same_added kept has_more (Along axis.X) Chains (λ part rows. subst (λ way. AreWayChains IsGood IsWay depth over low high way part) (sym is) rows) kept' more

  pub columns_added : way ≡ ways.Y → IsGrown (Along axis.Y) kept has_more kept' more → IsGrown Chains kept has_more kept' more
  columns_added is = same_added kept has_more (Along axis.Y) Chains (λ part columns. subst (λ way. AreWayChains IsGood IsWay depth over low high way part) (sym is) columns) kept' more

  pub rows_and_columns_added : (between : List (List GridNode)) (so_far : Bool) → way ≡ ways.Both → IsGrown (Along axis.X) kept has_more between so_far
      → IsGrown (Along axis.Y) between so_far kept' more → IsGrown Chains kept has_more kept' more
  rows_and_columns_added between so_far is rows columns =
      same_added kept has_more (AreJoined (Along axis.X) (Along axis.Y)) Chains
      (λ part both. subst (λ way. AreWayChains IsGood IsWay depth over low high way part) (sym is) (record {
        first = both.first;
        second = both.second;
        joined = both.joined;
        is_first = both.is_first;
        is_second = both.is_second;
      })) kept' more
      (both_added kept has_more (Along axis.X) (Along axis.Y) between kept' so_far more rows columns)
