-- Some move of those from a place through others, each on a line of its own, is one of which something is so.
use Rattle.std.specs.Prelude.{◌↔◌}
use Rattle.std.specs.List.{Any}
use Rattle.std.proofs.Common.{◌⊎◌, ◌+◌, ℕ, List, [], ◌∷◌, inl, inr}
use Rattle.plane_exact.specs.Heights.{GridPlace}
use Rattle.plane_exact.specs.declared.moves.LineMove.{LineMove}
use Rattle.plane_exact.specs.declared.moves.Move.{Move}
use Rattle.gcode_text.specs.Path.{moves_through}
use Rattle.gcode_text.proofs.Anys.{any_cases, any_first, any_later, any_none}

module _ (IsSo : Move → Type 0) where
  -- of some move from the place through the others it is so
  abbrev pub SomeThrough : GridPlace → List GridPlace → Type 0
  SomeThrough from [] = ⊥
  SomeThrough from (to ∷ places) = IsSo (record { from = from; to = to }) ⊎ SomeThrough to places

  -- of the move of a line it is so
  abbrev pub IsSoOf : LineMove → Type 0
  IsSoOf move = IsSo move.mv

  pub through_moves : (line : ℕ) (from : GridPlace) (places : List GridPlace) → SomeThrough from places ↔ Any IsSoOf (moves_through line from places)
  through_moves line from [] = ((λ none. absurd none), (λ some. any_none IsSoOf some))
  through_moves line from (to ∷ places) =
      let move : LineMove = record { line = line; mv = record { from = from; to = to } } in
      let moves = moves_through (line + 1) to places in
      let rest = through_moves (line + 1) to places in (
        (λ some. elim some [ inl here ↦ any_first IsSoOf move moves here | inr later ↦ any_later IsSoOf move moves (rest.0 later) ]),
        (λ some. elim (any_cases IsSoOf move moves some) [ inl here ↦ inl here | inr later ↦ inr (rest.1 later) ]),
      )
