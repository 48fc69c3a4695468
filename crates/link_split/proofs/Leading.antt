-- Where the steps of a link lead.
use Rattle.std.proofs.Common.{◌≡◌, inl, inr, ℕ, zero, suc, List, [], ◌∷◌, ◌++◌, refl, ap, subst, sym, ◌∙◌}
use Rattle.std.proofs.lemmas.List.Elements.{All-append, All-cons, All-nil}
use Rattle.plane_exact.specs.Cone.{Cone}
use Rattle.plane_exact.specs.Nodes.{GridNode}
use Rattle.plane_exact.specs.declared.point.Seg.{Seg}
use Rattle.link_split.specs.Law.{AreStepsClear, IsStepClear, Leads, LinkLeadsLaw, end_of, step_node}
use Rattle.link_split.specs.Link.{IsFreeLink, IsHalvedLink, IsLink}
use Rattle.link_split.specs.Midway.{IsDeepest}
use Rattle.link_split.specs.declared.step.Step.{Step}
use Rattle.link_split.specs.declared.step.Step.TheVariants.{Lift, To}

pub end_on : (p : GridNode) (first second : List Step) → end_of p (first ++ second) ≡ end_of (end_of p first) second
end_on p [] second = refl
end_on p (step ∷ first) second = end_on (step_node step) first second

module _ (edges : List Seg) (cone : Cone) where
  clear_on : (p : GridNode) (first second : List Step) → AreStepsClear edges cone p first → AreStepsClear edges cone (end_of p first) second
      → AreStepsClear edges cone p (first ++ second)
  clear_on p [] second one other = other
  clear_on p (step ∷ first) second one other = (one.0, clear_on (step_node step) first second one.1 other)

  module _ (limit : ℕ) where
    -- the steps of the kind lead to their node where that is as deep as fits
    abbrev Leading : (GridNode → GridNode → List Step → Type 0) → Type 0
    Leading Kind = (p q : GridNode) (steps : List Step) → IsDeepest edges cone limit q → Kind p q steps → Leads edges cone limit p q steps

    one_leads : (p : GridNode) (step : Step) (steps : List Step) → IsDeepest edges cone limit (step_node step) → IsStepClear edges cone p step
        → steps ≡ step ∷ [] → Leads edges cone limit p (step_node step) steps
    one_leads p step steps deepest clear is = subst (Leads edges cone limit p (step_node step)) (sym is) (record {
      ends = refl;
      clear = (clear, tt);
      deepest = All-cons (λ step. IsDeepest edges cone limit (step_node step)) step [] deepest (All-nil (λ step. IsDeepest edges cone limit (step_node step)));
    })

    pub none_leads : (p q : GridNode) (steps : List Step) → p ≡ q → steps ≡ [] → Leads edges cone limit p q steps
    none_leads p q steps same is = subst (Leads edges cone limit p q) (sym is) (record {
      ends = same;
      clear = tt;
      deepest = All-nil (λ step. IsDeepest edges cone limit (step_node step));
    })

    pub leads_on : (p mid q : GridNode) (first second steps : List Step) → Leads edges cone limit p mid first → Leads edges cone limit mid q second
        → steps ≡ first ++ second → Leads edges cone limit p q steps
    leads_on p mid q first second steps one other is = subst (Leads edges cone limit p q) (sym is) (record {
      ends = end_on p first second ∙ ap (λ n. end_of n second) one.ends ∙ other.ends;
      clear = clear_on p first second one.clear (subst (λ n. AreStepsClear edges cone n second) (sym one.ends) other.clear);
      deepest = All-append (λ step. IsDeepest edges cone limit (step_node step)) first second one.deepest other.deepest;
    })

    free_leads : Leading (IsFreeLink edges cone)
    free_leads p q steps deepest (inl link) = none_leads p q steps link.same link.none
    free_leads p q steps deepest (inr (inl link)) = one_leads p (Lift q) steps deepest tt link.lift
    free_leads p q steps deepest (inr (inr link)) = one_leads p (To q) steps deepest link.clear link.straight

    halved_leads : (Half : GridNode → GridNode → List Step → Type 0) → Leading Half → Leading (IsHalvedLink edges cone limit Half)
    halved_leads Half leads p q steps deepest link =
        let mid = link.mid in
        let halves = link.halves in
        leads_on p mid q halves.first halves.second steps (leads p mid halves.first link.midway.halfway.depth halves.is_first)
        (leads mid q halves.second deepest halves.is_second) halves.joined

    leads_after : (halvings : ℕ) → Leading (IsLink edges cone limit halvings)
    unfolding IsLink
    leads_after zero p q steps deepest (inl free) = free_leads p q steps deepest free
    leads_after zero p q steps deepest (inr link) = one_leads p (Lift q) steps deepest tt link.lift
    leads_after (suc halvings) p q steps deepest (inl free) = free_leads p q steps deepest free
    leads_after (suc halvings) p q steps deepest (inr (inl link)) = one_leads p (Lift q) steps deepest tt link.lift
    leads_after (suc halvings) p q steps deepest (inr (inr link)) = halved_leads (IsLink edges cone limit halvings) (leads_after halvings) p q steps deepest link

pub link_leads : LinkLeadsLaw
link_leads edges cone limit halvings p q steps deepest link = leads_after edges cone limit halvings p q steps deepest link
