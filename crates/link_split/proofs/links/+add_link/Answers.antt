-- Answers the goals of `add_link`.
use Rattle.std.specs.Prelude.{IsTrue}
use Rattle.std.proofs.Common.{rules, ◌≡◌, ℕ, suc, ◌-◌, [], false, arith, inl, inr, subst, sym}
use Rattle.std.proofs.lemmas.Result.{on_ok_weaker}
use Rattle.engrave_model.specs.Drawing.{edges_of}
use Rattle.swept_move.specs.Clear.{IsClear}
use Rattle.link_split.specs.Link.{IsObstructed}
use Rattle.link_split.proofs.Linking.{free_link, grown_by_halves, grown_by_none, grown_by_one, lifted_link, node_decides, nodes_differ}
use Rattle.link_split.proofs.links.+add_link.Goals as goal
use Rattle.link_split.proofs.links.+add_link.Goals.{Else-is_clear}

never : IsTrue false → ⊥
never = search rules

obstructed : (t : ℕ) (c : Else-is_clear t) → IsObstructed (edges_of c.args.scene.now) c.args.bit.now c.args.p c.args.q
obstructed t c = record {
  differ = nodes_differ c.args.p c.args.q c.eq.result c.eq.ensures c.if-eq.false;
  deep = λ surface. never (c.if-are_at_surface.ensures.1 surface);
  meets = λ clear. never (c.if-is_clear.ensures.1 (subst (IsClear (edges_of c.args.scene.now) c.args.bit.now) (sym c.between.ensures) clear));
}

pub returns-then-eq : goal.returns-then-eq
returns-then-eq t c =
    grown_by_none _ _ (free_link _ _ _ _ c.args.p c.args.q []
    (inl (record { same = (node_decides c.args.p c.args.q c.eq.result c.eq.ensures).0 c.if-eq.true; none = search rules })))

pub returns-then-are_at_surface : goal.returns-then-are_at_surface
returns-then-are_at_surface t c =
    on_ok_weaker c.add.result
    (grown_by_one _ _ _ _ (free_link _ _ _ _ c.args.p c.args.q _
    (inr (inl (record { differ = nodes_differ c.args.p c.args.q c.eq.result c.eq.ensures c.if-eq.false; surface = c.if-are_at_surface.ensures.0 (search rules); lift = search rules })))))
    c.add.ensures

pub returns-then-is_clear : goal.returns-then-is_clear
returns-then-is_clear t c =
    on_ok_weaker c.add-then-is_clear.result
    (grown_by_one _ _ _ _ (free_link _ _ _ _ c.args.p c.args.q _
    (inr (inr (record {
      differ = nodes_differ c.args.p c.args.q c.eq.result c.eq.ensures c.if-eq.false;
      deep = λ surface. never (c.if-are_at_surface.ensures.1 surface);
      clear = subst (IsClear (edges_of c.args.scene.now) c.args.bit.now) c.between.ensures (c.if-is_clear.ensures.0 (search rules));
      straight = search rules;
    })))))
    c.add-then-is_clear.ensures

pub returns-then-halvings-eq0 : goal.returns-then-halvings-eq0
returns-then-halvings-eq0 t c =
    on_ok_weaker c.add-then-halvings-eq0.result
    (grown_by_one _ _ _ _ (lifted_link _ _ _ _ _ _ (obstructed t (goal.at.returns-then-halvings-eq0 t c).Else-is_clear) (inl c.if-halvings-eq0.true)))
    c.add-then-halvings-eq0.ensures

pub returns-in_default : goal.returns-in_default
returns-in_default t c =
    on_ok_weaker c.add-in_default.result
    (grown_by_one _ _ _ _ (lifted_link _ _ _ _ _ _ (obstructed t (goal.at.returns-in_default t c).Else-is_clear) (inr c.in_default.ensures)))
    c.add-in_default.ensures

pub returns : goal.returns
returns t c =
    let more : c.args.halvings ≡ suc (c.args.halvings - 1) = omega arith in
    on_ok_weaker c.add_link-2.result
    (grown_by_halves _ _ _ _ (c.args.halvings - 1) c.args.p c.in-Some.mid c.args.q _ _ _ more
    (obstructed t (goal.at.returns t c).Else-is_clear) c.in-Some.ensures c.in_ok-add_link.ensures)
    c.add_link-2.ensures
