-- Two nodes have one link.
use Rattle.std.proofs.Common.{◌≡◌, inl, inr, ℕ, zero, suc, List, ◌++◌, ap₂, subst, sym, ◌∙◌}
use Rattle.plane_exact.specs.Cone.{Cone}
use Rattle.plane_exact.specs.Nodes.{GridNode}
use Rattle.plane_exact.specs.declared.point.Seg.{Seg}
use Rattle.engrave_model.specs.Lists.{AreJoined}
use Rattle.link_split.specs.Law.{SameLinkLaw}
use Rattle.link_split.specs.Link.{IsFreeLink, IsHalvedLink, IsLink, IsObstructed}
use Rattle.link_split.specs.declared.step.Step.{Step}
use Rattle.link_split.proofs.Halfway.{same_halfway, whole_or_midway}

module _ (edges : List Seg) (cone : Cone) where
  -- two nodes have at most one list of steps of the kind
  abbrev Single : (GridNode → GridNode → List Step → Type 0) → Type 0
  Single Kind = (p q : GridNode) (steps others : List Step) → Kind p q steps → Kind p q others → steps ≡ others

  free_or_obstructed : (p q : GridNode) (steps : List Step) → IsFreeLink edges cone p q steps → IsObstructed edges cone p q → ⊥
  free_or_obstructed p q steps (inl link) obstructed = obstructed.differ link.same
  free_or_obstructed p q steps (inr (inl link)) obstructed = obstructed.deep link.surface
  free_or_obstructed p q steps (inr (inr link)) obstructed = obstructed.meets link.clear

  free_single : Single (IsFreeLink edges cone)
  free_single p q steps others (inl one) (inl other) = one.none ∙ sym other.none
  free_single p q steps others (inl one) (inr (inl other)) = absurd (other.differ one.same)
  free_single p q steps others (inl one) (inr (inr other)) = absurd (other.differ one.same)
  free_single p q steps others (inr (inl one)) (inl other) = absurd (one.differ other.same)
  free_single p q steps others (inr (inl one)) (inr (inl other)) = one.lift ∙ sym other.lift
  free_single p q steps others (inr (inl one)) (inr (inr other)) = absurd (other.deep one.surface)
  free_single p q steps others (inr (inr one)) (inl other) = absurd (one.differ other.same)
  free_single p q steps others (inr (inr one)) (inr (inl other)) = absurd (one.deep other.surface)
  free_single p q steps others (inr (inr one)) (inr (inr other)) = one.straight ∙ sym other.straight

  module _ (limit : ℕ) where
    joined_single : (Half : GridNode → GridNode → List Step → Type 0) → Single Half → (p mid q : GridNode) (steps others : List Step)
        → AreJoined (Half p mid) (Half mid q) steps → AreJoined (Half p mid) (Half mid q) others → steps ≡ others
    joined_single Half single p mid q steps others one other =
        one.joined
        ∙ ap₂ (λ first second. first ++ second) (single p mid one.first other.first one.is_first other.is_first) (single mid q one.second other.second one.is_second other.is_second)
        ∙ sym other.joined

    halved_single : (Half : GridNode → GridNode → List Step → Type 0) → Single Half → Single (IsHalvedLink edges cone limit Half)
    halved_single Half single p q steps others one other =
        let same : one.mid ≡ other.mid = same_halfway edges cone limit p q one.mid other.mid one.midway.halfway other.midway.halfway in
        joined_single Half single p other.mid q steps others (subst (λ mid. AreJoined (Half p mid) (Half mid q) steps) same one.halves) other.halves

    single_after : (halvings : ℕ) → Single (IsLink edges cone limit halvings)
    unfolding IsLink
    single_after zero p q steps others (inl one) (inl other) = free_single p q steps others one other
    single_after zero p q steps others (inl one) (inr other) = absurd (free_or_obstructed p q steps one other.obstructed)
    single_after zero p q steps others (inr one) (inl other) = absurd (free_or_obstructed p q others other one.obstructed)
    single_after zero p q steps others (inr one) (inr other) = one.lift ∙ sym other.lift
    single_after (suc halvings) p q steps others (inl one) (inl other) = free_single p q steps others one other
    single_after (suc halvings) p q steps others (inl one) (inr (inl other)) = absurd (free_or_obstructed p q steps one other.obstructed)
    single_after (suc halvings) p q steps others (inl one) (inr (inr other)) = absurd (free_or_obstructed p q steps one other.obstructed)
    single_after (suc halvings) p q steps others (inr (inl one)) (inl other) = absurd (free_or_obstructed p q others other one.obstructed)
    single_after (suc halvings) p q steps others (inr (inl one)) (inr (inl other)) = one.lift ∙ sym other.lift
    single_after (suc halvings) p q steps others (inr (inl one)) (inr (inr other)) = absurd (whole_or_midway edges cone limit p q other.mid one.whole other.midway)
    single_after (suc halvings) p q steps others (inr (inr one)) (inl other) = absurd (free_or_obstructed p q others other one.obstructed)
    single_after (suc halvings) p q steps others (inr (inr one)) (inr (inl other)) = absurd (whole_or_midway edges cone limit p q one.mid other.whole one.midway)
    single_after (suc halvings) p q steps others (inr (inr one)) (inr (inr other)) =
        halved_single (IsLink edges cone limit halvings) (single_after halvings) p q steps others one other

pub link_single : SameLinkLaw
link_single edges cone limit halvings p q steps others one other = single_after edges cone limit halvings p q steps others one other
