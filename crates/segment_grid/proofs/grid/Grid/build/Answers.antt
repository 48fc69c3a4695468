-- The packed levels have the edges that the open ones have.
use Rattle.std.proofs.Common.{IsPermutation, subst, sym}
use Rattle.engrave_model.specs.Drawing.{edges_of}
use Rattle.segment_grid.specs.Near.{entries_of}
use Rattle.segment_grid.proofs.PackLaws.{levels_packed}
use Rattle.segment_grid.proofs.grid.Grid.build.Goals as goal

pub returns : goal.returns
returns c =
    let is = levels_packed c.in_ok-open.open.items c.in_ok-levels.levels.items c.in_ok-levels.ensures c.in_ok-open.ensures.placed in
    record {
      each_once = subst (IsPermutation (entries_of (edges_of c.args.d.now))) (sym is.0) c.in_ok-open.ensures.once;
      placed = is.1;
    }
