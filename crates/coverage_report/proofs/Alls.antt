-- Lists of all points of which something is so, in the order of a report.
use Rattle.std.specs.Prelude.{List, [], ◌∷◌, ◌++◌, All, AllPairs, Contains}
use Rattle.std.proofs.Common.{◌≡◌, ◌⊎◌, zero, suc, sym, inl, inr, arith}
use Rattle.std.proofs.lemmas.List.Elements.{All-append, All-cons, All-head, All-nil, All-tail, All-weaker, Contains-append_left, Contains-append_right}
use Rattle.std.proofs.lemmas.List.Kept.{AllPairs-cons}
use Rattle.plane_exact.specs.Plane.{GridPoint}
use Rattle.coverage_report.specs.Points.{AreAll, IsBefore}

-- ---- membership, and pairs of a list that is made of two

contains_first : (p q : GridPoint) (points : List GridPoint) → q ≡ p → Contains (p ∷ points) q
contains_first p q points same = (zero, omega arith, sym same)

contains_later : (p q : GridPoint) (points : List GridPoint) → Contains points q → Contains (p ∷ points) q
contains_later p q points has = (suc has.0, let below = has.1 in omega arith, has.2)

module _ (R : GridPoint → GridPoint → Type 0) (more : List GridPoint) where
  pairs_joined : (points : List GridPoint) → AllPairs R points → AllPairs R more → All (λ p. All (R p) more) points → AllPairs R (points ++ more)
  pairs_joined [] first second across = second
  pairs_joined (p ∷ points) first second across =
      AllPairs-cons R p (points ++ more)
      (All-append (R p) points more (λ k d below. first zero (suc k) d (omega arith) (omega arith)) (All-head (λ p. All (R p) more) p points across))
      (pairs_joined points (λ i j d less below. first (suc i) (suc j) d (omega arith) (omega arith)) second (All-tail (λ p. All (R p) more) p points across))

-- ---- all points

pub none_all : (P : GridPoint → Type 0) → ((p : GridPoint) → ¬ P p) → AreAll P []
none_all P none = record { each = All-nil P; complete = λ p so. absurd (none p so); ordered = λ i j d less below. absurd (omega arith) }

module _ (P Q : GridPoint → Type 0) (points : List GridPoint) (all : AreAll P points) where
  pub same_all : ((p : GridPoint) → P p → Q p) → ((p : GridPoint) → Q p → P p) → AreAll Q points
  same_all there back = record { each = All-weaker P Q there points all.each; complete = λ p so. all.complete p (back p so); ordered = all.ordered }

  -- one more point, before the others
  pub first_all : (p : GridPoint) → Q p → ((q : GridPoint) → P q → Q q) → ((q : GridPoint) → P q → IsBefore p q) → ((q : GridPoint) → Q q → (q ≡ p) ⊎ P q) → AreAll Q (p ∷ points)
  first_all p so there before back = record {
    each = All-cons Q p points so (All-weaker P Q there points all.each);
    complete = λ q holds. elim (back q holds) [ inl same ↦ contains_first p q points same | inr later ↦ contains_later p q points (all.complete q later) ];
    ordered = AllPairs-cons IsBefore p points (All-weaker P (IsBefore p) before points all.each) all.ordered;
  }

  -- more points, behind them
  pub joined_all : (M : GridPoint → Type 0) (more : List GridPoint) → AreAll M more → ((p q : GridPoint) → P p → M q → IsBefore p q)
      → ((p : GridPoint) → P p → Q p) → ((p : GridPoint) → M p → Q p) → ((p : GridPoint) → Q p → P p ⊎ M p) → AreAll Q (points ++ more)
  joined_all M more others before there there' back = record {
    each = All-append Q points more (All-weaker P Q there points all.each) (All-weaker M Q there' more others.each);
    complete = λ p so. elim (back p so) [ inl low ↦ Contains-append_left points more p (all.complete p low) | inr high ↦ Contains-append_right points more p (others.complete p high) ];
    ordered = pairs_joined IsBefore more points all.ordered others.ordered
        (All-weaker P (λ p. All (IsBefore p) more) (λ p low. All-weaker M (IsBefore p) (λ q high. before p q low high) more others.each) points all.each);
  }
