-- Answers the goals of `edges`.
use Rattle.std.proofs.Common.{◌≡◌, ◌≢◌, ◌<◌, ◌+◌, ◌*◌, ◌++◌, ℕ, ◌-◌, [], List, All, arith, ap, subst, sym}
use Rattle.std.proofs.lemmas.Result.{err_from_is_err_and}
use Rattle.plane_exact.specs.declared.point.Seg.{Seg}
use Rattle.pbm_edges.specs.Boundary.{IsWithinGrid, boundary_of}
use Rattle.pbm_edges.specs.declared.side.Line.TheVariants.{Across, Up}
use Rattle.pbm_edges.proofs.Differing.{all_apart}
use Rattle.pbm_edges.proofs.Lines.{at_last, edges-TooMany, from_lines, lined, too_many}
use Rattle.pbm_edges.proofs.tracing.edges.Goals as goal

pub loop-rows-preserved : goal.loop-rows-preserved
loop-rows-preserved c =
    let map = c.args.map.now in
    let on : c.loop-rows.rows < map.height + 1 = omega arith in
    record {
      whole = lined map c.args.pixel Across c.loop-rows.segs.items c.add_line.new.segs.items (from_lines map c.args.pixel Up 0 (map.width + 1)) (boundary_of map c.args.pixel) c.loop-rows.rows (map.height + 1) on c.loop-rows.invariant.whole c.in_ok-add_line.ensures.grown;
      few = c.in_ok-add_line.ensures.few;
    }

pub loop-columns-preserved : goal.loop-columns-preserved
loop-columns-preserved c =
    let map = c.args.map.now in
    let on : c.loop-columns.columns < map.width + 1 = omega arith in
    record {
      whole = lined map c.args.pixel Up c.loop-columns.segs.items c.add_line-in-loop-columns.new.segs.items [] (boundary_of map c.args.pixel) c.loop-columns.columns (map.width + 1) on c.loop-columns.invariant.whole c.in_ok-add_line-2.ensures.grown;
      few = c.in_ok-add_line-2.ensures.few;
    }

pub returns-in_err-add_line-clause-fault : goal.returns-in_err-add_line-clause-fault
returns-in_err-add_line-clause-fault c =
    let map = c.args.map.now in
    let across : c.width.result * c.args.pixel ≡ map.width * c.args.pixel = ap (λ width. width * c.args.pixel) c.width.ensures.value in
    let up : c.height.result * c.args.pixel ≡ map.height * c.args.pixel = ap (λ height. height * c.args.pixel) c.height.ensures.value in
    let grid : IsWithinGrid map c.args.pixel = record { across = omega arith; up = omega arith } in
    let on : c.loop-rows.rows < map.height + 1 = omega arith in
    let p = err_from_is_err_and c.from_residual-in_err-add_line.result c.from_residual-in_err-add_line.ensures.1 in
    rw (p.1, p.2) (λ kind.
    let full = c.in_err-add_line.ensures.fault kind in
    rw full.0 (edges-TooMany map c.args.pixel grid (too_many map c.args.pixel Across c.loop-rows.segs.items (from_lines map c.args.pixel Up 0 (map.width + 1)) (boundary_of map c.args.pixel) c.loop-rows.rows (map.height + 1) on c.loop-rows.invariant.whole full.1)))

pub returns-in_err-add_line-2-clause-fault : goal.returns-in_err-add_line-2-clause-fault
returns-in_err-add_line-2-clause-fault c =
    let map = c.args.map.now in
    let across : c.width.result * c.args.pixel ≡ map.width * c.args.pixel = ap (λ width. width * c.args.pixel) c.width.ensures.value in
    let up : c.height.result * c.args.pixel ≡ map.height * c.args.pixel = ap (λ height. height * c.args.pixel) c.height.ensures.value in
    let grid : IsWithinGrid map c.args.pixel = record { across = omega arith; up = omega arith } in
    let on : c.loop-columns.columns < map.width + 1 = omega arith in
    let p = err_from_is_err_and c.from_residual-in_err-add_line-2.result c.from_residual-in_err-add_line-2.ensures.1 in
    rw (p.1, p.2) (λ kind.
    let full = c.in_err-add_line-2.ensures.fault kind in
    rw full.0 (edges-TooMany map c.args.pixel grid (too_many map c.args.pixel Up c.loop-columns.segs.items [] (boundary_of map c.args.pixel) c.loop-columns.columns (map.width + 1) on c.loop-columns.invariant.whole full.1)))

pub returns-clause-apart : goal.returns-clause-apart
returns-clause-apart c =
    let map = c.args.map.now in
    let none : c.loop-columns.columns ≡ map.width + 1 = omega arith in
    let whole = subst (λ (k : ℕ). c.loop-columns.segs.items ++ (from_lines map c.args.pixel Up k (map.width + 1 - k) ++ []) ≡ boundary_of map c.args.pixel) none c.loop-columns.invariant.whole in
    let segs = at_last map c.args.pixel c.loop-columns.segs.items (boundary_of map c.args.pixel) whole in
    subst (λ (segs : List Seg). All (λ s. s.a ≢ s.b) segs) (sym segs) (all_apart map c.args.pixel c.requires.low)
