-- The runs of a line are the longest ones of the boundary on it.
use Rattle.std.proofs.Common.{◌≡◌, ◌≢◌, ◌<◌, ◌≤◌, ◌⊎◌, ℕ, zero, suc, ◌+◌, ◌-◌, Bool, true, false, if◌then◌else◌, List, [], ◌∷◌, ◌++◌, map, refl, ap, ◌∙◌, inl, inr, arith}
use Rattle.std.specs.List.{AllByRecursion, range_with_len}
use Rattle.std.proofs.lemmas.Bool.{cases_lt}
use Rattle.pbm_edges.specs.Boundary.{begins, repeated, runs_behind, runs_of, same_side, side_at, sides_along}
use Rattle.pbm_edges.specs.Law.{AreTheRuns, Ascends, BoundaryLaw, IsCovered, IsRun}
use Rattle.pbm_edges.specs.declared.side.Side.{Side}
use Rattle.pbm_edges.specs.declared.side.Side.TheVariants.{Level, Onward, Back}
use Rattle.pbm_edges.specs.declared.side.Stretch.{Stretch}
use Rattle.pbm_edges.proofs.Alike.{begins_boundary, begins_differs, same_side-false, same_side-true}

-- the sides from the place i on
abbrev pub sides_from : (ℕ → Side) → (i n : ℕ) → List Side
sides_from f i n = map f (range_with_len i n)

-- so many sides from the place i on are this one, and no more
pub record IsRepeated (f : ℕ → Side) (s : Side) (i n count : ℕ) : Type 0 where
  pub within : count ≤ n
  pub same : (k : ℕ) → i ≤ k → k < i + count → f k ≡ s
  pub ends : count < n → f (i + count) ≢ s

repeats_by : (f : ℕ → Side) (s : Side) (i n : ℕ) (b : Bool) (count : ℕ) → same_side s (f i) ≡ b → IsRepeated f s (i + 1) n count → IsRepeated f s i (suc n) (if b then 1 + count else 0)
repeats_by f s i n true count is rest = record {
  within = omega (arith, rest.within);
  same = λ k low high. elim (cases_lt i k) [
    | inl past ↦ rest.same k (omega arith) (omega arith)
    | inr at ↦ (let here : k ≡ i = omega arith in ap f here ∙ same_side-true s (f i) is)
  ];
  ends = λ few. let past : i + (1 + count) ≡ i + 1 + count = omega arith in rw past (rest.ends (omega arith));
}
repeats_by f s i n false count is rest = record {
  within = omega arith;
  same = λ k low high. absurd (omega arith);
  ends = λ few. let here : i + 0 ≡ i = omega arith in rw here (same_side-false s (f i) is);
}

repeats : (f : ℕ → Side) (s : Side) (i n : ℕ) → IsRepeated f s i n (repeated s (sides_from f i n))
repeats f s i zero = record { within = omega arith; same = λ k low high. absurd (omega arith); ends = λ few. absurd (omega arith) }
repeats f s i (suc n) = repeats_by f s i n (same_side s (f i)) _ refl (repeats f s (i + 1) n)

-- the side at i goes on so far
goes_on : (f : ℕ → Side) (i n k : ℕ) → i ≤ k → k < i + 1 + repeated (f i) (sides_from f (i + 1) n) → f k ≡ f i
goes_on f i n k low high =
    elim (cases_lt i k) [
      | inl past ↦ (repeats f (f i) (i + 1) n).same k (omega arith) high
      | inr at ↦ (let here : k ≡ i = omega arith in ap f here)
    ]

-- ---- each is a run
module _ (f : ℕ → Side) (count : ℕ) where
  run_at : (before : Side) (i n : ℕ) → i + suc n ≡ count → (1 ≤ i → f (i - 1) ≡ before) → begins before (f i) ≡ true → IsRun f count (record { first = i; until = i + 1 + repeated (f i) (sides_from f (i + 1) n); side = f i })
  run_at before i n whole prior is =
      let rest = repeats f (f i) (i + 1) n in
      record {
        some = omega arith;
        on = omega (arith, rest.within);
        boundary = begins_boundary before (f i) is;
        same = goes_on f i n;
        before = λ some. rw (prior some) (begins_differs before (f i) is);
        behind = λ few. rest.ends (omega arith);
      }

  perhaps_first : (b : Bool) (run : Stretch) (runs : List Stretch) → (b ≡ true → IsRun f count run) → AllByRecursion (IsRun f count) runs → AllByRecursion (IsRun f count) ((if b then run ∷ [] else []) ++ runs)
  perhaps_first true run runs is rest = (is refl, rest)
  perhaps_first false run runs is rest = rest

  sound : (before : Side) (i n : ℕ) → i + n ≡ count → (1 ≤ i → f (i - 1) ≡ before) → AllByRecursion (IsRun f count) (runs_behind before i (sides_from f i n))
  sound before i zero whole prior = tt
  sound before i (suc n) whole prior =
      perhaps_first (begins before (f i)) _ _ (run_at before i n whole prior)
      (sound (f i) (i + 1) n (omega arith) (λ _. let here : i + 1 - 1 ≡ i = omega arith in ap f here))

-- ---- they ascend
less : (a b : ℕ) (runs : List Stretch) → a ≤ b → Ascends b runs → Ascends a runs
less a b [] le ascend = tt
less a b (run ∷ runs) le ascend = (omega (arith, ascend.0), ascend.1)

ascends_step : (before side : Side) (i : ℕ) (sides : List Side) → Ascends (i + 1 + repeated side sides) (runs_behind side (i + 1) sides) → Ascends (i + repeated before (side ∷ sides)) (runs_behind before i (side ∷ sides))
ascends_step Level Level i sides rest = less _ _ _ (omega arith) rest
ascends_step Onward Onward i sides rest = less _ _ _ (omega arith) rest
ascends_step Back Back i sides rest = less _ _ _ (omega arith) rest
ascends_step Onward Level i sides rest = less _ _ _ (omega arith) rest
ascends_step Back Level i sides rest = less _ _ _ (omega arith) rest
ascends_step Level Onward i sides rest = (omega arith, rest)
ascends_step Back Onward i sides rest = (omega arith, rest)
ascends_step Level Back i sides rest = (omega arith, rest)
ascends_step Onward Back i sides rest = (omega arith, rest)

ascends : (before : Side) (i : ℕ) (sides : List Side) → Ascends (i + repeated before sides) (runs_behind before i sides)
ascends before i [] = tt
ascends before i (side ∷ sides) = ascends_step before side i sides (ascends side (i + 1) sides)

-- ---- they cover the boundary
covers_step : (before side : Side) (i k : ℕ) (sides : List Side) → i ≤ k → (side ≡ Level → k < i + 1 + repeated side sides → ⊥) → (k < i + 1 + repeated side sides) ⊎ IsCovered k (runs_behind side (i + 1) sides) → (k < i + repeated before (side ∷ sides)) ⊎ IsCovered k (runs_behind before i (side ∷ sides))
covers_step Level Level i k sides low off (inl on) = inl (omega arith)
covers_step Level Level i k sides low off (inr later) = inr later
covers_step Onward Onward i k sides low off (inl on) = inl (omega arith)
covers_step Onward Onward i k sides low off (inr later) = inr later
covers_step Back Back i k sides low off (inl on) = inl (omega arith)
covers_step Back Back i k sides low off (inr later) = inr later
covers_step Onward Level i k sides low off (inl on) = absurd (off refl on)
covers_step Onward Level i k sides low off (inr later) = inr later
covers_step Back Level i k sides low off (inl on) = absurd (off refl on)
covers_step Back Level i k sides low off (inr later) = inr later
covers_step Level Onward i k sides low off (inl on) = inr (inl (low, on))
covers_step Level Onward i k sides low off (inr later) = inr (inr later)
covers_step Back Onward i k sides low off (inl on) = inr (inl (low, on))
covers_step Back Onward i k sides low off (inr later) = inr (inr later)
covers_step Level Back i k sides low off (inl on) = inr (inl (low, on))
covers_step Level Back i k sides low off (inr later) = inr (inr later)
covers_step Onward Back i k sides low off (inl on) = inr (inl (low, on))
covers_step Onward Back i k sides low off (inr later) = inr (inr later)

here_or_later : {P : Type 0} (i k : ℕ) (r : ℕ) → i ≤ k → (i + 1 ≤ k → (k < i + 1 + r) ⊎ P) → (k < i + 1 + r) ⊎ P
here_or_later i k r low later = elim (cases_lt i k) [ inl past ↦ later (omega arith) | inr at ↦ inl (omega arith) ]

covers : (f : ℕ → Side) (before : Side) (i n k : ℕ) → i ≤ k → k < i + n → f k ≢ Level → (k < i + repeated before (sides_from f i n)) ⊎ IsCovered k (runs_behind before i (sides_from f i n))
covers f before i zero k low high boundary = absurd (omega arith)
covers f before i (suc n) k low high boundary =
    covers_step before (f i) i k (sides_from f (i + 1) n) low
    (λ level on. boundary (goes_on f i n k low on ∙ level))
    (here_or_later i k _ low (λ past. covers f (f i) (i + 1) n k past (omega arith) boundary))

-- ---- the law
at_start : (f : ℕ → Side) (count k : ℕ) → f k ≢ Level → (k < 0 + repeated Level (sides_from f 0 count)) ⊎ IsCovered k (runs_behind Level 0 (sides_from f 0 count)) → IsCovered k (runs_behind Level 0 (sides_from f 0 count))
at_start f count k boundary (inl on) = absurd (boundary ((repeats f Level 0 count).same k (omega arith) on))
at_start f count k boundary (inr covered) = covered

runs_of_sides : (f : ℕ → Side) (count : ℕ) → AreTheRuns f count (runs_behind Level 0 (sides_from f 0 count))
runs_of_sides f count = record {
  each = sound f count Level 0 count (omega arith) (λ some. absurd (omega arith));
  ascending = less _ _ _ (omega arith) (ascends Level 0 (sides_from f 0 count));
  all = λ k high boundary. at_start f count k boundary (covers f Level 0 count k (omega arith) (omega arith) boundary);
}

pub the_runs : BoundaryLaw
unfolding runs_of
the_runs image line = runs_of_sides (side_at image line) (sides_along image line)
