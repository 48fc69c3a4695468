-- The numbers and the boxes of the part are those of its entries.
use Rattle.segment_grid.proofs.PackLaws.{zip_cut}
use Rattle.segment_grid.proofs.level.Row.run.Goals as goal

pub returns : goal.returns
returns c =
    let row = c.args.self.now in
    rw (c.part.ensures, c.part-2.ensures, c.as_slice.ensures.value, c.as_slice-2.ensures.value, c.start_of.ensures, c.start_of-2.ensures)
    (zip_cut _ _ row.numbers.items row.boxes.items)
