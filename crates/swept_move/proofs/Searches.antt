-- Bisection for the first and the last number that have a property, by what is known of the numbers on either side.
use Rattle.std.proofs.Common.{◌≡◌, ℕ, ◌+◌, ◌-◌, ◌<◌, ◌≤◌, arith, subst, inl, inr}
use Rattle.std.proofs.lemmas.Bool.{cases_lt}
use Rattle.swept_move.specs.Search.{IsFirst, IsLast}

-- none below low has the property, and high has it if one behind has
pub record IsSought (P : ℕ → Type 0) (last low high : ℕ) : Type 0 where
  pub ordered : low ≤ high
  pub within : high ≤ last
  pub none : (j : ℕ) → j < low → ¬ P j
  pub holds : (j : ℕ) → high ≤ j → j ≤ last → P j → P high

-- low has the property, and none above high
pub record IsReaching (P : ℕ → Type 0) (last low high : ℕ) : Type 0 where
  pub ordered : low ≤ high
  pub within : high ≤ last
  pub holds : P low
  pub none : (j : ℕ) → high < j → j ≤ last → ¬ P j

module _ (P : ℕ → Type 0) (last : ℕ) where
  same : (i j : ℕ) → i ≤ j → j ≤ i → P i → P j
  same i j from to has = subst P (let e : i ≡ j = omega arith in e) has

  pub sought_all : IsSought P last 0 last
  sought_all = record { ordered = omega arith; within = omega arith; none = λ j below. absurd (omega arith); holds = λ j from to has. same j last to from has }

  pub sought_below : (low high half : ℕ) → IsSought P last low high → low ≤ half → half < high → ((j : ℕ) → half ≤ j → P j → P half) → IsSought P last low half
  sought_below low high half is above below takes =
      record { ordered = above; within = (let within = is.within in omega arith); none = is.none; holds = λ j from _ has. takes j from has }

  pub sought_above : (low high half : ℕ) → IsSought P last low high → half < high → ((j : ℕ) → j ≤ half → ¬ P j) → IsSought P last (half + 1) high
  sought_above low high half is below lacks =
      record { ordered = omega arith; within = is.within; none = λ j less. lacks j (omega arith); holds = is.holds }

  pub sought_found : (low high : ℕ) → IsSought P last low high → high ≤ low → IsFirst P last low
  sought_found low high is done =
      let ordered = is.ordered in
      let within = is.within in
      let least : (j : ℕ) → P j → low ≤ j = λ j has. elim (cases_lt j low) [ inl less ↦ absurd (is.none j less has) | inr more ↦ more ] in
      record {
        within = omega arith;
        least = λ j _ has. least j has;
        holds = λ j to has. let from = least j has in same high low done ordered (is.holds j (omega arith) to has);
      }

  pub reaching_all : (first : ℕ) → first ≤ last → P first → IsReaching P last first last
  reaching_all first within has = record { ordered = within; within = omega arith; holds = has; none = λ j above below. absurd (omega arith) }

  pub reaching_above : (low high half : ℕ) → IsReaching P last low high → half ≤ high → P half → IsReaching P last half high
  reaching_above low high half is below has = record { ordered = below; within = is.within; holds = has; none = is.none }

  pub reaching_below : (low high half : ℕ) → IsReaching P last low high → low < half → half ≤ high → ((j : ℕ) → half ≤ j → ¬ P j) → IsReaching P last low (half - 1)
  reaching_below low high half is above below lacks =
      record { ordered = omega arith; within = (let within = is.within in omega arith); holds = is.holds; none = λ j more _. lacks j (omega arith) }

  pub reaching_found : (low high : ℕ) → IsReaching P last low high → high ≤ low → IsLast P last low
  reaching_found low high is done =
      let ordered = is.ordered in
      let within = is.within in
      record {
        within = omega arith;
        holds = is.holds;
        greatest = λ j to has. elim (cases_lt low j) [ inl more ↦ absurd (is.none j (omega arith) to has) | inr less ↦ less ];
      }
