-- Lists that are made of two.
use Rattle.std.specs.Prelude.{◌≡◌, List, ◌++◌}

-- the items are some of which First says, and behind them some of which Second says
pub record AreJoined {A : Type 0} (First Second : List A → Type 0) (items : List A) : Type 0 where
  pub first : List A
  pub second : List A
  pub joined : items ≡ first ++ second
  pub is_first : First first
  pub is_second : Second second
