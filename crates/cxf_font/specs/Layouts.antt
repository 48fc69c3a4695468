-- The ranges of the numbers of a layout, and how far a line is moved.
use Rattle.std.specs.Prelude.{ℕ, ◌/◌, ◌≤◌}
use Rattle.plane_exact.specs.Cone.{IsFromOneTo}
use Rattle.cxf_font.specs.declared.layout.Justify.{Justify}
use Rattle.cxf_font.specs.declared.layout.Justify.TheVariants.{Left, Center, Right}
use Rattle.cxf_font.specs.declared.layout.Layout.{Layout}
use Rattle.cxf_font.specs.declared.layout.TheConstants.{MOST_HEIGHT, LEAST_PERCENT, MOST_PERCENT}

-- the ranges of the numbers of a layout
pub record IsLayout (layout : Layout) : Type 0 where
  pub height : IsFromOneTo MOST_HEIGHT layout.height
  pub narrow : LEAST_PERCENT ≤ layout.width
  pub wide : layout.width ≤ MOST_PERCENT
  pub charspace : layout.charspace ≤ MOST_PERCENT
  pub wordspace : layout.wordspace ≤ MOST_PERCENT
  pub dense : LEAST_PERCENT ≤ layout.linespace
  pub loose : layout.linespace ≤ MOST_PERCENT

-- how far to the left a line of this width is moved
abbrev pub shift_of : Justify → (width : ℕ) → ℕ
shift_of Left width = 0
shift_of Center width = width / 2
shift_of Right width = width
