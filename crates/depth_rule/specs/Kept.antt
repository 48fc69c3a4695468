-- What a scene keeps beside its drawing.
use Rattle.std.specs.Prelude.{List}
use Rattle.plane_exact.specs.Plane.{GridPoint}
use Rattle.evenodd_region.specs.Lookup.{AreRowsOf, Bands}
use Rattle.segment_grid.specs.Grid.{IsGridOf}
use Rattle.segment_grid.specs.declared.grid.Grid.{Grid}

-- rows and a grid that stand for the drawing
pub record IsKept (rows : Bands) (grid : Grid) (loops : List (List GridPoint)) : Type 0 where
  pub in_rows : AreRowsOf rows loops
  pub in_grid : IsGridOf grid loops
