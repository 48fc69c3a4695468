-- What is still to come on a line, at a place of it.
use Rattle.std.proofs.Common.{◌≡◌, ◌<◌, ◌≤◌, ℕ, zero, suc, ◌+◌, ◌-◌, true, false, List, [], ◌∷◌, ◌++◌, length, map, refl, sym, subst, ap, ◌∙◌, arith, append_assoc}
use Rattle.std.proofs.lemmas.List.{append-nil, map-append}
use Rattle.plane_exact.specs.declared.point.Seg.{Seg}
use Rattle.pbm_edges.specs.Boundary.{boundary_run, repeated, runs_behind, runs_of, same_side, segment_of, segments_on, side_at, sides_along}
use Rattle.pbm_edges.specs.Pixels.{Pixels}
use Rattle.pbm_edges.specs.declared.side.Line.{Line}
use Rattle.pbm_edges.specs.declared.side.Side.{Side}
use Rattle.pbm_edges.specs.declared.side.Side.TheVariants.{Level, Onward, Back}
use Rattle.pbm_edges.specs.declared.side.Stretch.{Stretch}
use Rattle.pbm_edges.specs.declared.tracing.TheConstants.{MOST_SEGMENTS}
use Rattle.pbm_edges.proofs.Longest.{sides_from}

-- the stretch
abbrev pub stretch : (first until : ℕ) → Side → Stretch
stretch first until side = record { first = first; until = until; side = side }

-- the runs from the place i on, of which the first has begun before
abbrev pub runs_with : (side : Side) → (first i : ℕ) → List Side → List Stretch
runs_with side first i sides = boundary_run (stretch first (i + repeated side sides) side) ++ runs_behind side i sides

runs_with-on : (side next : Side) (first i : ℕ) (sides : List Side) → same_side side next ≡ true → runs_with side first i (next ∷ sides) ≡ runs_with side first (i + 1) sides
runs_with-on Level Level first i sides is = refl
runs_with-on Onward Onward first i sides is = let e : i + (1 + repeated Onward sides) ≡ i + 1 + repeated Onward sides = omega arith in ap (λ until. boundary_run (stretch first until Onward) ++ runs_behind Onward (i + 1) sides) e
runs_with-on Back Back first i sides is = let e : i + (1 + repeated Back sides) ≡ i + 1 + repeated Back sides = omega arith in ap (λ until. boundary_run (stretch first until Back) ++ runs_behind Back (i + 1) sides) e
runs_with-on Level Onward first i sides is = absurd (cc)
runs_with-on Level Back first i sides is = absurd (cc)
runs_with-on Onward Level first i sides is = absurd (cc)
runs_with-on Onward Back first i sides is = absurd (cc)
runs_with-on Back Level first i sides is = absurd (cc)
runs_with-on Back Onward first i sides is = absurd (cc)

until_here : (side : Side) (first i : ℕ) (later : List Stretch) → boundary_run (stretch first (i + 0) side) ++ later ≡ boundary_run (stretch first i side) ++ later
until_here side first i later = let e : i + 0 ≡ i = omega arith in ap (λ until. boundary_run (stretch first until side) ++ later) e

runs_with-other : (side next : Side) (first i : ℕ) (sides : List Side) → same_side side next ≡ false → runs_with side first i (next ∷ sides) ≡ boundary_run (stretch first i side) ++ runs_with next i (i + 1) sides
runs_with-other Level Level first i sides is = absurd (cc)
runs_with-other Onward Onward first i sides is = absurd (cc)
runs_with-other Back Back first i sides is = absurd (cc)
runs_with-other Level Onward first i sides is = until_here Level first i _
runs_with-other Level Back first i sides is = until_here Level first i _
runs_with-other Onward Level first i sides is = until_here Onward first i _
runs_with-other Onward Back first i sides is = until_here Onward first i _
runs_with-other Back Level first i sides is = until_here Back first i _
runs_with-other Back Onward first i sides is = until_here Back first i _

runs_with-end : (side : Side) (first i : ℕ) → runs_with side first i [] ≡ boundary_run (stretch first i side)
runs_with-end side first i = until_here side first i [] ∙ append-nil (boundary_run (stretch first i side))

module _ (image : Pixels) (pixel : ℕ) (line : Line) where
  -- the segments still to come at the place i
  abbrev pub to_come : Side → (first i : ℕ) → List Seg
  to_come side first i = map (segment_of image pixel line) (runs_with side first i (sides_from (side_at image line) i (sides_along image line - i)))

  -- the segment of a stretch, where it is one of the boundary
  abbrev pub own : (first until : ℕ) → Side → List Seg
  own first until side = map (segment_of image pixel line) (boundary_run (stretch first until side))

  pub at_first : to_come Level 0 0 ≡ segments_on image pixel line
  unfolding runs_of
  at_first =
      let all : sides_along image line - 0 ≡ sides_along image line = omega arith in
      ap (λ n. map (segment_of image pixel line) (runs_with Level 0 0 (sides_from (side_at image line) 0 n))) all

  next_side : (i n m : ℕ) → n - i ≡ suc m → sides_from (side_at image line) i (n - i) ≡ side_at image line i ∷ sides_from (side_at image line) (i + 1) m
  next_side i n m is = rw is refl

  pub at_next : (i : ℕ) → i < sides_along image line → sides_from (side_at image line) i (sides_along image line - i) ≡ side_at image line i ∷ sides_from (side_at image line) (i + 1) (sides_along image line - (i + 1))
  at_next i on = next_side i (sides_along image line) (sides_along image line - (i + 1)) (omega arith)

  pub passed : (side : Side) (first i : ℕ) → i < sides_along image line → same_side side (side_at image line i) ≡ true → to_come side first i ≡ to_come side first (i + 1)
  passed side first i on is =
      ap (λ sides. map (segment_of image pixel line) (runs_with side first i sides)) (at_next i on) ∙ ap (map (segment_of image pixel line)) (runs_with-on side (side_at image line i) first i _ is)

  pub scanned : (side : Side) (first i : ℕ) → i < sides_along image line → same_side side (side_at image line i) ≡ false → to_come side first i ≡ own first i side ++ to_come (side_at image line i) i (i + 1)
  scanned side first i on is =
      ap (λ sides. map (segment_of image pixel line) (runs_with side first i sides)) (at_next i on) ∙ ap (map (segment_of image pixel line)) (runs_with-other side (side_at image line i) first i _ is) ∙ map-append (segment_of image pixel line) (boundary_run (stretch first i side)) _

  pub at_end : (side : Side) (first : ℕ) → to_come side first (sides_along image line) ≡ own first (sides_along image line) side
  at_end side first =
      let none : sides_along image line - sides_along image line ≡ 0 = omega arith in
      ap (λ n. map (segment_of image pixel line) (runs_with side first (sides_along image line) (sides_from (side_at image line) (sides_along image line) n))) none ∙ ap (map (segment_of image pixel line)) (runs_with-end side first (sides_along image line))

  -- a line is scanned up to the place i: what is to come makes the segments whole
  pub record IsScanned (segs whole : List Seg) (side : Side) (first i : ℕ) : Type 0 where
    pub same : segs ++ to_come side first i ≡ whole
    pub behind : first ≤ i
    pub within : i ≤ sides_along image line
    pub few : length segs ≤ MOST_SEGMENTS

  -- the side at the place goes on with the run
  pub went_on : {segs whole : List Seg} {side : Side} {first i : ℕ} → IsScanned segs whole side first i → i < sides_along image line → (next : Side) → next ≡ side_at image line i → same_side side next ≡ true → IsScanned segs whole side first (i + 1)
  went_on {segs} {side} {first} {i} scanned_so on next is goes = record {
    same = ap (λ later. segs ++ later) (sym (passed side first i on (ap (same_side side) (sym is) ∙ goes))) ∙ scanned_so.same;
    behind = omega (arith, scanned_so.behind);
    within = omega arith;
    few = scanned_so.few;
  }

  -- it begins another one
  pub went_past : {segs whole : List Seg} {side : Side} {first i : ℕ} → IsScanned segs whole side first i → i < sides_along image line → (next : Side) → next ≡ side_at image line i → same_side side next ≡ false → (now : List Seg) → now ≡ segs ++ own first i side → length now ≤ MOST_SEGMENTS → IsScanned now whole next i (i + 1)
  went_past {segs} {whole} {side} {first} {i} scanned_so on next is other now grown few = record {
    same = subst (λ (side : Side). now ++ to_come side i (i + 1) ≡ whole) (sym is) (ap (λ now. now ++ to_come (side_at image line i) i (i + 1)) grown ∙ append_assoc segs (own first i side) (to_come (side_at image line i) i (i + 1)) ∙ ap (λ later. segs ++ later) (sym (scanned side first i on (ap (same_side side) (sym is) ∙ other))) ∙ scanned_so.same);
    behind = omega arith;
    within = omega arith;
    few = few;
  }

  -- so do those up to a later place
  pub went_far : {segs whole : List Seg} {side : Side} {first : ℕ} (n k until : ℕ) → IsScanned segs whole side first k → k + n ≡ until → until ≤ sides_along image line
      → ((j : ℕ) → k ≤ j → j < until → same_side side (side_at image line j) ≡ true) → IsScanned segs whole side first until
  went_far {segs} {whole} {side} {first} zero k until so is within goes = subst (λ k. IsScanned segs whole side first k) (let here : k ≡ until = omega arith in here) so
  went_far {segs} {whole} {side} {first} (suc n) k until so is within goes =
      went_far n (k + 1) until (went_on so (omega arith) (side_at image line k) refl (goes k (omega arith) (omega arith))) (omega arith) within (λ j from to. goes j (omega arith) to)

same_self : (side : Side) → same_side side side ≡ true
same_self Level = refl
same_self Onward = refl
same_self Back = refl

-- sides that are the same as one that goes on with a run, or begins one
pub goes_far : (image : Pixels) (line : Line) (side next : Side) (i until : ℕ) → same_side side next ≡ true → ((j : ℕ) → i ≤ j → j < until → side_at image line j ≡ next)
    → (j : ℕ) → i + 1 ≤ j → j < until → same_side side (side_at image line j) ≡ true
goes_far image line side next i until is same j from to = ap (same_side side) (same j (omega arith) to) ∙ is

pub begins_far : (image : Pixels) (line : Line) (next : Side) (i until : ℕ) → ((j : ℕ) → i ≤ j → j < until → side_at image line j ≡ next)
    → (j : ℕ) → i + 1 ≤ j → j < until → same_side next (side_at image line j) ≡ true
begins_far image line next i until same = goes_far image line next next i until (same_self next) same

-- the same values by other names
pub renamed : {image : Pixels} {pixel : ℕ} {line : Line} {segs now whole : List Seg} {side next : Side} {first begun i : ℕ} → IsScanned image pixel line segs whole side first i → now ≡ segs → next ≡ side → begun ≡ first → IsScanned image pixel line now whole next begun i
renamed scanned_so segs_is side_is first_is = rw (segs_is, side_is, first_is) scanned_so
