-- The chains of a plan are sound: each node fits, and each move from one to the next is clear.
use Rattle.std.proofs.Common.{ℕ, List, [], ◌∷◌, ◌++◌, All, ap, subst, sym}
use Rattle.std.specs.List.{AllZip}
use Rattle.std.proofs.lemmas.List.Elements.{All-append, All-cons, All-head, All-nil, All-push, All-tail}
use Rattle.plane_exact.specs.Cone.{Cone}
use Rattle.plane_exact.specs.Nodes.{GridNode, joined}
use Rattle.plane_exact.specs.declared.point.Seg.{Seg}
use Rattle.engrave_model.specs.Depth.{Fits}
use Rattle.swept_move.specs.Clear.{IsClear}
use Rattle.depth_rule.specs.Along.{IsClearAlong, IsSound, move_between}
use Rattle.link_split.specs.Law.{AreStepsClear, Leads, end_of, step_node}
use Rattle.link_split.specs.Midway.{IsDeepest}
use Rattle.link_split.specs.declared.step.Step.{Step}
use Rattle.link_split.specs.declared.step.Step.TheVariants.{Lift, To}
use Rattle.link_split.proofs.Leading.{leads_on, link_leads, none_leads}
use Rattle.carve_plan.specs.Chains.{AreLinked, AreRoundChains, chains_along}
use Rattle.carve_plan.specs.declared.round.TheConstants.{MOST_HALVED}

-- what holds of a list joined of two holds of both
module _ {A : Type 0} (P : A → Type 0) where
  pub all_front : (xs ys : List A) → All P (xs ++ ys) → All P xs
  all_front [] ys all = All-nil P
  all_front (x ∷ xs) ys all = All-cons P x xs (All-head P x (xs ++ ys) all) (all_front xs ys (All-tail P x (xs ++ ys) all))

  pub all_back : (xs ys : List A) → All P (xs ++ ys) → All P ys
  all_back [] ys all = all
  all_back (x ∷ xs) ys all = all_back xs ys (All-tail P x (xs ++ ys) all)

module _ (edges : List Seg) (cone : Cone) where
  clear_push : (before : List GridNode) (p q : GridNode) → IsClearAlong edges cone (before ++ p ∷ []) → IsClear edges cone (move_between p q) → IsClearAlong edges cone ((before ++ p ∷ []) ++ q ∷ [])
  clear_push [] p q so_far clear = (clear, tt)
  clear_push (a ∷ []) p q so_far clear = (so_far.0, (clear, tt))
  clear_push (a ∷ b ∷ before) p q so_far clear = (so_far.0, clear_push (b ∷ before) p q so_far.1 clear)

  module _ (limit : ℕ) where
    abbrev pub FitsAt : GridNode → Type 0
    FitsAt node = Fits edges cone limit node.at node.depth

    abbrev IsSoundChain : List GridNode → Type 0
    IsSoundChain = IsSound edges cone limit

    abbrev IsStepDeepest : Step → Type 0
    IsStepDeepest step = IsDeepest edges cone limit (step_node step)

    one_sound : (node : GridNode) → FitsAt node → IsSoundChain (node ∷ [])
    one_sound node fits = record { fits = All-cons FitsAt node [] fits (All-nil FitsAt); clear = tt }

    along_sound : (before : List GridNode) (p : GridNode) (steps : List Step) → IsSoundChain (before ++ p ∷ []) → AreStepsClear edges cone p steps → All IsStepDeepest steps
        → All IsSoundChain (chains_along (before ++ p ∷ []) steps)
    along_sound before p [] sound clear deepest = All-cons IsSoundChain (before ++ p ∷ []) [] sound (All-nil IsSoundChain)
    along_sound before p (To q ∷ steps) sound clear deepest =
        let at = All-head IsStepDeepest (To q) steps deepest in
        along_sound (before ++ p ∷ []) q steps
        (record { fits = All-push FitsAt (before ++ p ∷ []) q sound.fits at.fits; clear = clear_push before p q sound.clear clear.0 })
        clear.1 (All-tail IsStepDeepest (To q) steps deepest)
    along_sound before p (Lift q ∷ steps) sound clear deepest =
        let at = All-head IsStepDeepest (Lift q) steps deepest in
        All-cons IsSoundChain (before ++ p ∷ []) (chains_along (q ∷ []) steps) sound
        (along_sound [] q steps (one_sound q at.fits) clear.1 (All-tail IsStepDeepest (Lift q) steps deepest))

    -- ---- links in turn

    abbrev IsDeep : GridNode → Type 0
    IsDeep = IsDeepest edges cone limit

    pub linked_leads : (from : GridNode) (nodes : List GridNode) (steps : List Step) → All IsDeep nodes → AreLinked edges cone limit from nodes steps
        → Leads edges cone limit from (end_of from steps) steps
    linked_leads from [] steps deepest is = none_leads edges cone limit from (end_of from steps) steps (sym (ap (end_of from) is)) is
    linked_leads from (to ∷ nodes) steps deepest is =
        let first = link_leads edges cone limit MOST_HALVED from to is.first (All-head IsDeep to nodes deepest) is.is_first in
        let second = linked_leads to nodes is.second (All-tail IsDeep to nodes deepest) is.is_second in
        let led = leads_on edges cone limit from to (end_of to is.second) is.first is.second steps first second is.joined in
        subst (λ q. Leads edges cone limit from q steps) (sym led.ends) led

    -- the first node, once more at the end
    pub targets_deep : (first : GridNode) (others : List GridNode) → All IsDeep (first ∷ others) → All IsDeep (others ++ first ∷ [])
    targets_deep first others deepest = All-push IsDeep others first (All-tail IsDeep first others deepest) (All-head IsDeep first others deepest)

    round_sound : (round : List GridNode) (chains : List (List GridNode)) → All IsDeep round → AreRoundChains edges cone limit round chains → All IsSoundChain chains
    round_sound [] chains deepest are = subst (All IsSoundChain) (sym are) (All-nil IsSoundChain)
    round_sound (first ∷ others) chains deepest around =
        let led = linked_leads first (others ++ first ∷ []) around.steps (targets_deep first others deepest) around.linked in
        let at = All-head IsDeep first others deepest in
        subst (All IsSoundChain) (sym around.are) (along_sound [] first around.steps (one_sound first at.fits) led.clear led.deepest)

    pub rounds_sound : (rounds : List (List GridNode)) (parts : List (List (List GridNode))) → All IsDeep (joined rounds) → AllZip (AreRoundChains edges cone limit) rounds parts
        → All IsSoundChain (joined parts)
    rounds_sound [] [] deepest each = All-nil IsSoundChain
    rounds_sound [] (chains ∷ parts) deepest each = absurd each
    rounds_sound (round ∷ rounds) [] deepest each = absurd each
    rounds_sound (round ∷ rounds) (chains ∷ parts) deepest each =
        All-append IsSoundChain chains (joined parts) (round_sound round chains (all_front IsDeep round (joined rounds) deepest) each.0)
        (rounds_sound rounds parts (all_back IsDeep round (joined rounds) deepest) each.1)
