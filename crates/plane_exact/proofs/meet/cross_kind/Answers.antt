-- Answers the goals of `cross_kind`.
use Rattle.std.proofs.Common.{sym, ◌∙◌}
use Rattle.plane_exact.proofs.Ranges.{read_zero, zero_read}
use Rattle.plane_exact.proofs.Signs.{held, less, not_less, strict, level}
use Rattle.plane_exact.proofs.Slants.{on_one_line}
use Rattle.plane_exact.proofs.Turned.{turned_meet, turned_less, feet_differ}
use Rattle.plane_exact.proofs.meet.cross_kind.Goals as goal

pub collinear-requires-clause-forward : goal.collinear-requires-clause-forward
collinear-requires-clause-forward c =
    less _ _ _ _ (held _ _ c.dot.ensures.range c.dot.ensures.value) (held _ _ c.dot-else-from-ne0.ensures.range c.dot-else-from-ne0.ensures.value) c.if-dot.true

pub collinear-requires-else-dot-clause-forward : goal.collinear-requires-else-dot-clause-forward
collinear-requires-else-dot-clause-forward c =
    let from = held _ _ c.cross-from.ensures.range c.cross-from.ensures.value in
    let to = held _ _ c.cross-to.ensures.range c.cross-to.ensures.value in
    let start = read_zero _ _ c.cross-from.ensures.range c.cross-from.ensures.value c.if-from-ne0.false in
    let finish = level _ _ (not_less _ _ _ _ from to c.if-from-to.false) (not_less _ _ _ _ to from c.if-to-from.false) ∙ start in
    let back = not_less _ _ _ _ (held _ _ c.dot.ensures.range c.dot.ensures.value) (held _ _ c.dot-else-from-ne0.ensures.range c.dot-else-from-ne0.ensures.value) c.if-dot.false in
    turned_less c.args.s c.args.t c.turned-else-dot.result c.turned-else-dot.ensures.start c.turned-else-dot.ensures.finish
    (strict _ _ back (λ e. feet_differ c.args.s c.args.t c.requires.first c.requires.second start finish (sym e)))

pub returns-then-to-from : goal.returns-then-to-from
returns-then-to-from c = turned_meet c.args.s c.args.t c.turned.result c.turned.ensures.start c.turned.ensures.finish _ c.slanted-then-to-from.ensures

pub returns-then-from-ne0 : goal.returns-then-from-ne0
returns-then-from-ne0 c w on =
    let from = held _ _ c.cross-from.ensures.range c.cross-from.ensures.value in
    let to = held _ _ c.cross-to.ensures.range c.cross-to.ensures.value in
    let same = level _ _ (not_less _ _ _ _ to from c.if-to-from.false) (not_less _ _ _ _ from to c.if-from-to.false) in
    c.if-from-ne0.true (zero_read _ _ c.cross-from.ensures.range c.cross-from.ensures.value (on_one_line c.args.s c.args.t w on same))

pub returns-else-dot : goal.returns-else-dot
returns-else-dot c = turned_meet c.args.s c.args.t c.turned-else-dot.result c.turned-else-dot.ensures.start c.turned-else-dot.ensures.finish _ c.collinear-else-dot.ensures
