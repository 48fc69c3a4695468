-- Answers the goals of `cuts_of`.
use Rattle.std.proofs.Common.{◌≡◌, ◌+◌, ◌*◌, ◌/◌, ◌++◌, take, drop, length, arith, ap, subst, sym, ◌∙◌}
use Rattle.std.proofs.lemmas.Grind.{common_steps}
use Rattle.coverage_report.specs.Cuts.{AreCutsOf}
use Rattle.coverage_report.proofs.CutGrids.{cuts_are}
use Rattle.coverage_report.proofs.cuts.cuts_of.Goals as goal

pub returns : goal.returns
returns c =
    let rows = c.rows.ensures.value in
    let columns = c.columns.ensures.value in
    let made = c.in_ok-words.ensures.len in
    let new = c.cut_moves.new.words in
    let kept = c.cut_moves.auto.words in
    let len = c.deref_mut.ensures.len in
    let wide : (c.columns.result + 63) / 64 ≡ (c.args.lattice.now.columns + 63) / 64 = ap (λ n. (n + 63) / 64) columns in
    let all : length new ≡ c.args.lattice.now.rows * ((c.columns.result + 63) / 64) = kept ∙ len ∙ made ∙ ap (λ n. n * ((c.columns.result + 63) / 64)) rows in
    let whole : take c.in_ok-words.words.len (new ++ drop (length new) c.in_ok-words.words.items) ≡ new = grind (arith, common_steps) in
    subst (AreCutsOf c.args.bit.now c.args.moves.now c.args.lattice.now ((c.columns.result + 63) / 64)) (sym whole)
    (cuts_are c.args.bit.now c.args.lattice.now ((c.columns.result + 63) / 64) c.args.moves.now (c.rows.result * ((c.columns.result + 63) / 64)) c.deref_mut.result.now new wide
    (c.deref_mut.ensures.value ∙ c.in_ok-words.ensures.items_if_clones_equal (λ y is. is)) all c.cut_moves.ensures)
