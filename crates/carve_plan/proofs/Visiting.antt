-- The chains of a loop hold each of its nodes.
use Rattle.std.proofs.Common.{◌≡◌, ◌⊎◌, ℕ, zero, suc, List, [], ◌∷◌, ◌++◌, All, arith, inl, inr, refl, ap, subst, sym, ◌∙◌, append_assoc}
use Rattle.std.specs.List.{AllZip, Contains}
use Rattle.std.proofs.lemmas.List.Elements.{All-head, All-tail, Contains-append_cases, Contains-append_left, Contains-append_right, Contains-push}
use Rattle.plane_exact.specs.Cone.{Cone}
use Rattle.plane_exact.specs.Nodes.{GridNode, joined}
use Rattle.plane_exact.specs.declared.point.Seg.{Seg}
use Rattle.link_split.specs.Law.{end_of}
use Rattle.link_split.specs.Midway.{IsDeepest}
use Rattle.link_split.specs.declared.step.Step.{Step}
use Rattle.link_split.specs.declared.step.Step.TheVariants.{Lift, To}
use Rattle.link_split.proofs.Leading.{end_on, link_leads}
use Rattle.carve_plan.specs.Chains.{AreLinked, AreRoundChains, chains_along}
use Rattle.carve_plan.specs.declared.round.TheConstants.{MOST_HALVED}
use Rattle.carve_plan.proofs.Counting.{joined_append}
use Rattle.carve_plan.proofs.Sound.{all_back, all_front, targets_deep}

-- the first of a list, and another one
pub first_there : {A : Type 0} (x : A) (xs : List A) → Contains (x ∷ xs) x
first_there x xs = (0, omega arith, refl)

pub later_there : {A : Type 0} (x : A) (xs : List A) (y : A) → Contains xs y → Contains (x ∷ xs) y
later_there x xs y there = (suc there.0, let below = there.1 in omega arith, there.2)

pub first_or_later : {A : Type 0} (x : A) (xs : List A) (y : A) → Contains (x ∷ xs) y → (x ≡ y) ⊎ Contains xs y
first_or_later x xs y (zero, below, is) = inl is
first_or_later x xs y (suc k, below, is) = inr (k, omega arith, is)

-- ---- the chains along steps

begun_kept : (chain : List GridNode) (steps : List Step) (node : GridNode) → Contains chain node → Contains (joined (chains_along chain steps)) node
begun_kept chain [] node there = Contains-append_left chain [] node there
begun_kept chain (To q ∷ steps) node there = begun_kept (chain ++ q ∷ []) steps node (Contains-append_left chain (q ∷ []) node there)
begun_kept chain (Lift q ∷ steps) node there = Contains-append_left chain (joined (chains_along (q ∷ []) steps)) node there

-- they hold each node at which the bit is after some of the steps
along_visited : (chain : List GridNode) (p : GridNode) (front back : List Step) → Contains chain p → Contains (joined (chains_along chain (front ++ back))) (end_of p front)
along_visited chain p [] back there = begun_kept chain back p there
along_visited chain p (To q ∷ front) back there = along_visited (chain ++ q ∷ []) q front back (Contains-push chain q)
along_visited chain p (Lift q ∷ front) back there =
    Contains-append_right chain (joined (chains_along (q ∷ []) (front ++ back))) (end_of q front) (along_visited (q ∷ []) q front back (first_there q []))

module _ (edges : List Seg) (cone : Cone) (limit : ℕ) where
  abbrev IsDeep : GridNode → Type 0
  IsDeep = IsDeepest edges cone limit

  -- after some of the steps the bit is at the node
  record IsPassed (from : GridNode) (steps : List Step) (node : GridNode) : Type 0 where
    pub front : List Step
    pub back : List Step
    pub apart : steps ≡ front ++ back
    pub ends : end_of from front ≡ node

  linked_passed : (from : GridNode) (nodes : List GridNode) (steps : List Step) → All IsDeep nodes → AreLinked edges cone limit from nodes steps
      → (node : GridNode) → Contains nodes node → IsPassed from steps node
  linked_passed from [] steps deepest is node there = absurd (let below = there.1 in omega arith)
  linked_passed from (to ∷ nodes) steps deepest is node there =
      let led = link_leads edges cone limit MOST_HALVED from to is.first (All-head IsDeep to nodes deepest) is.is_first in
      elim (first_or_later to nodes node there) [
        | inl same ↦ record { front = is.first; back = is.second; apart = is.joined; ends = led.ends ∙ same }
        | inr later ↦
            (let passed = linked_passed to nodes is.second (All-tail IsDeep to nodes deepest) is.is_second node later in
            record {
              front = is.first ++ passed.front;
              back = passed.back;
              apart = is.joined ∙ ap (λ steps. is.first ++ steps) passed.apart ∙ sym (append_assoc is.first passed.front passed.back);
              ends = end_on from is.first passed.front ∙ ap (λ n. end_of n passed.front) led.ends ∙ passed.ends;
            })
      ]

  first_at_end : (first : GridNode) (others : List GridNode) (node : GridNode) → Contains (first ∷ others) node → Contains (others ++ first ∷ []) node
  first_at_end first others node there = elim (first_or_later first others node there) [
    | inl same ↦ subst (Contains (others ++ first ∷ [])) same (Contains-push others first)
    | inr later ↦ Contains-append_left others (first ∷ []) node later
  ]

  round_visited : (round : List GridNode) (chains : List (List GridNode)) → All IsDeep round → AreRoundChains edges cone limit round chains → (node : GridNode) → Contains round node
      → Contains (joined chains) node
  round_visited [] chains deepest are node there = absurd (let below = there.1 in omega arith)
  round_visited (first ∷ others) chains deepest around node there =
      let passed = linked_passed first (others ++ first ∷ []) around.steps (targets_deep edges cone limit first others deepest) around.linked node (first_at_end first others node there) in
      subst (λ cs. Contains (joined cs) node) (sym (around.are ∙ ap (chains_along (first ∷ [])) passed.apart))
      (subst (Contains (joined (chains_along (first ∷ []) (passed.front ++ passed.back)))) passed.ends (along_visited (first ∷ []) first passed.front passed.back (first_there first [])))

  -- and those of all loops hold each node of all
  pub rounds_visited : (rounds : List (List GridNode)) (parts : List (List (List GridNode))) → All IsDeep (joined rounds) → AllZip (AreRoundChains edges cone limit) rounds parts
      → (node : GridNode) → Contains (joined rounds) node → Contains (joined (joined parts)) node
  rounds_visited [] [] deepest each node there = there
  rounds_visited [] (chains ∷ parts) deepest each node there = absurd each
  rounds_visited (round ∷ rounds) [] deepest each node there = absurd each
  rounds_visited (round ∷ rounds) (chains ∷ parts) deepest each node there =
      subst (λ nodes. Contains nodes node) (sym (joined_append chains (joined parts)))
      (elim (Contains-append_cases round (joined rounds) node there) [
        | inl here ↦ Contains-append_left (joined chains) (joined (joined parts)) node
            (round_visited round chains (all_front IsDeep round (joined rounds) deepest) each.0 node here)
        | inr later ↦ Contains-append_right (joined chains) (joined (joined parts)) node
            (rounds_visited rounds parts (all_back IsDeep round (joined rounds) deepest) each.1 node later)
      ])
