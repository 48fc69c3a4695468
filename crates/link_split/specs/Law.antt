-- What a link is worth: where it leads, and that there is no other.
use Rattle.std.specs.Prelude.{◌≡◌, ℕ, List, [], ◌∷◌, All}
use Rattle.plane_exact.specs.Cone.{Cone}
use Rattle.plane_exact.specs.Nodes.{GridNode}
use Rattle.plane_exact.specs.declared.point.Seg.{Seg}
use Rattle.swept_move.specs.Clear.{IsClear}
use Rattle.depth_rule.specs.Along.{move_between}
use Rattle.link_split.specs.Link.{IsLink}
use Rattle.link_split.specs.Midway.{IsDeepest}
use Rattle.link_split.specs.declared.step.Step.{Step}
use Rattle.link_split.specs.declared.step.Step.TheVariants.{To, Lift}

-- the node that a step leads to
abbrev pub step_node : Step → GridNode
step_node (To q) = q
step_node (Lift q) = q

-- the node at which the bit is after the steps, from p
abbrev pub end_of : GridNode → List Step → GridNode
end_of p [] = p
end_of p (step ∷ steps) = end_of (step_node step) steps

-- a straight step is a clear move; a lift may be any
abbrev pub IsStepClear : List Seg → Cone → GridNode → Step → Type 0
IsStepClear edges cone p (To q) = IsClear edges cone (move_between p q)
IsStepClear edges cone p (Lift q) = Unit {0}

-- each straight step is a clear move from where the bit is then, which is p at first
abbrev pub AreStepsClear : List Seg → Cone → GridNode → List Step → Type 0
AreStepsClear edges cone p [] = Unit {0}
AreStepsClear edges cone p (step ∷ steps) = IsStepClear edges cone p step × AreStepsClear edges cone (step_node step) steps

-- the steps lead from p to q: they end there, each straight one is clear, and each node on the way is as deep as fits
pub record Leads (edges : List Seg) (cone : Cone) (limit : ℕ) (p q : GridNode) (steps : List Step) : Type 0 where
  pub ends : end_of p steps ≡ q
  pub clear : AreStepsClear edges cone p steps
  pub deepest : All (λ step. IsDeepest edges cone limit (step_node step)) steps

-- a link to a node that is as deep as fits leads there
abbrev pub LinkLeadsLaw : Type 0
LinkLeadsLaw =
    (edges : List Seg) (cone : Cone) (limit halvings : ℕ) (p q : GridNode) (steps : List Step)
    → IsDeepest edges cone limit q → IsLink edges cone limit halvings p q steps → Leads edges cone limit p q steps

-- two nodes have one link
abbrev pub SameLinkLaw : Type 0
SameLinkLaw =
    (edges : List Seg) (cone : Cone) (limit halvings : ℕ) (p q : GridNode) (steps others : List Step)
    → IsLink edges cone limit halvings p q steps → IsLink edges cone limit halvings p q others → steps ≡ others
