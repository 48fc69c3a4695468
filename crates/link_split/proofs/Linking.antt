-- The cases of a link, as the code puts its steps behind the old ones.
use Rattle.std.specs.Bool.{Decides}
use Rattle.std.specs.Ordering.{int_eq}
use Rattle.std.specs.Prelude.{◌==◌}
use Rattle.std.proofs.Common.{rules, ◌≡◌, ◌≢◌, ◌⊎◌, inl, inr, ℕ, zero, suc, Bool, false, ◌&&◌, List, [], ◌∷◌, ◌++◌, arith, refl, ap, ap₂, subst, sym, ◌∙◌}
use Rattle.std.proofs.lemmas.Bool.Decides.{Decides-and, Decides-at, Decides-eqb, Decides-int_eq, Decides-like, not_from_Decides}
use Rattle.std.proofs.lemmas.List.{append_assoc}
use Rattle.plane_exact.specs.Cone.{Cone}
use Rattle.plane_exact.specs.Nodes.{GridNode}
use Rattle.plane_exact.specs.declared.point.Seg.{Seg}
use Rattle.link_split.specs.Link.{IsFreeLink, IsGrownBy, IsLink, IsObstructed}
use Rattle.link_split.specs.Midway.{HasNoMidway, IsMidway}
use Rattle.link_split.specs.declared.step.Step.{Step}
use Rattle.link_split.specs.declared.step.Step.TheVariants.{Lift}

-- the test of two nodes, as it is derived
pub node_decides : (p q : GridNode) (same : Bool) → same ≡ ((int_eq p.at.x q.at.x && int_eq p.at.y q.at.y) && (p.depth == q.depth)) → Decides same (p ≡ q)
node_decides p q same is =
    Decides-at same _ is (Decides-like _
    (λ parts. ap₂ (λ r z. record { at = r; depth = z }) (ap₂ (λ x y. record { x = x; y = y }) parts.0.0 parts.0.1) parts.1)
    (λ one. ((ap (λ n. n.at.x) one, ap (λ n. n.at.y) one), ap (λ n. n.depth) one))
    (Decides-and _ _ (Decides-and _ _ (Decides-int_eq p.at.x q.at.x) (Decides-int_eq p.at.y q.at.y)) (Decides-eqb p.depth q.depth)))

pub nodes_differ : (p q : GridNode) (same : Bool) → same ≡ ((int_eq p.at.x q.at.x && int_eq p.at.y q.at.y) && (p.depth == q.depth)) → same ≡ false → p ≢ q
nodes_differ p q same is = not_from_Decides same (node_decides p q same is)

pub grown_by_none : (Added : List Step → Type 0) (old : List Step) → Added [] → IsGrownBy Added old old
grown_by_none Added old is = record { added = []; grown = search rules; is = is }

pub grown_by_one : (Added : List Step → Type 0) (step : Step) (old new : List Step) → Added (step ∷ []) → new ≡ old ++ step ∷ [] → IsGrownBy Added old new
grown_by_one Added step old new is grown = record { added = step ∷ []; grown = grown; is = is }

module _ (edges : List Seg) (cone : Cone) (limit : ℕ) where
  pub free_link : (halvings : ℕ) (p q : GridNode) (steps : List Step) → IsFreeLink edges cone p q steps → IsLink edges cone limit halvings p q steps
  unfolding IsLink
  free_link zero p q steps free = inl free
  free_link (suc halvings) p q steps free = inl free

  pub lifted_link : (halvings : ℕ) (p q : GridNode) → IsObstructed edges cone p q → (halvings ≡ 0) ⊎ HasNoMidway edges cone limit p q
      → IsLink edges cone limit halvings p q (Lift q ∷ [])
  unfolding IsLink
  lifted_link zero p q obstructed whole = inr (record { obstructed = obstructed; whole = tt; lift = refl })
  lifted_link (suc halvings) p q obstructed (inl none) = absurd (omega arith)
  lifted_link (suc halvings) p q obstructed (inr whole) = inr (inl (record { obstructed = obstructed; whole = whole; lift = refl }))

  halved_once_more : (halvings : ℕ) (p mid q : GridNode) (first second : List Step) → IsObstructed edges cone p q → IsMidway edges cone limit p q mid
      → IsLink edges cone limit halvings p mid first → IsLink edges cone limit halvings mid q second
      → IsLink edges cone limit (suc halvings) p q (first ++ second)
  unfolding IsLink
  halved_once_more halvings p mid q first second obstructed midway one other = inr (inr (record {
    obstructed = obstructed;
    mid = mid;
    midway = midway;
    halves = record { first = first; second = second; joined = refl; is_first = one; is_second = other };
  }))

  pub grown_by_halves : (halvings less : ℕ) (p mid q : GridNode) (old between new : List Step) → halvings ≡ suc less
      → IsObstructed edges cone p q → IsMidway edges cone limit p q mid
      → IsGrownBy (IsLink edges cone limit less p mid) old between → IsGrownBy (IsLink edges cone limit less mid q) between new
      → IsGrownBy (IsLink edges cone limit halvings p q) old new
  grown_by_halves halvings less p mid q old between new more obstructed midway one other = record {
    added = one.added ++ other.added;
    grown = other.grown ∙ ap (λ steps. steps ++ other.added) one.grown ∙ append_assoc old one.added other.added;
    is = subst (λ n. IsLink edges cone limit n p q (one.added ++ other.added)) (sym more)
        (halved_once_more less p mid q one.added other.added obstructed midway one.is other.is);
  }
