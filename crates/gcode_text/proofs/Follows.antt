-- The moves of a program follow each other, and there are no more than the most.
use Rattle.std.proofs.Common.{◌≡◌, ℕ, ◌+◌, ◌≤◌, Bool, true, false, not, ◌&&◌, ◌||◌, if◌then◌else◌, leb, Option, Some, None, List, [], ◌∷◌, length, is_some, ℤ, pos, ◌≤ℤ◌, Result, Ok, Err, sym, subst, refl, arith}
use Rattle.std.specs.Result.{IfOk}
use Rattle.std.proofs.lemmas.Bool.Decides.{nat_tests}
use Rattle.std.proofs.lemmas.Int.{ints}
use Rattle.grid_num.specs.Judging.{and_then}
use Rattle.grid_num.specs.declared.units.Units.{Units}
use Rattle.plane_exact.specs.Heights.{GridPlace}
use Rattle.plane_exact.specs.declared.moves.LineMove.{LineMove}
use Rattle.text_lines.specs.Pieces.{Piece, lines_of}
use Rattle.gcode_text.specs.Following.{AreFollowing, FewMovesLaw, FollowFrom, FollowLaw}
use Rattle.gcode_text.specs.Moves.{and_later, is_below, latest, line_block, move_between, move_of, moved, moves_from, moves_of, names_place, nowhere, spot_from, spot_of}
use Rattle.gcode_text.specs.declared.block.Block.{Block}
use Rattle.gcode_text.specs.declared.fault.CodeFault.{CodeFault}
use Rattle.gcode_text.specs.declared.fault.CodeKind.{CodeKind}
use Rattle.gcode_text.specs.declared.fault.CodeKind.TheVariants as kind
use Rattle.gcode_text.specs.declared.modal.Position.{Position}
use Rattle.gcode_text.specs.declared.modal.TheConstants.{MOST_MOVES}
use Rattle.gcode_text.proofs.Codes.{Later, judged, known_stays, with_later}

-- from the place, where it is known
abbrev FollowFromKnown : Option GridPlace → List LineMove → Type 0
FollowFromKnown None moves = AreFollowing moves
FollowFromKnown (Some from) moves = FollowFrom from moves

-- what is known of the moves that come behind so many others, where the bit is at a place that may be known
record MayFollow (count : ℕ) (at : Option GridPlace) (moves : List LineMove) : Type 0 where
  pub follow : FollowFromKnown at moves
  pub few : length moves + count ≤ MOST_MOVES

-- ---- one line

nothing_follows : (count : ℕ) (at : Option GridPlace) → count ≤ MOST_MOVES → MayFollow count at []
nothing_follows count None few = record { follow = tt; few = omega arith }
nothing_follows count (Some from) few = record { follow = tt; few = omega arith }

-- a line without coordinates leaves the bit where it is
stays : (x y z new_x new_y new_z : Option ℤ) → (is_some new_x || is_some new_y || is_some new_z) ≡ false → spot_from (latest x new_x) (latest y new_y) (latest z new_z) ≡ spot_from x y z
stays x y z None None None is = refl
stays x y z (Some new) new_y new_z is = absurd (cc)
stays x y z None (Some new) new_z is = absurd (cc)
stays x y z None None (Some new) is = absurd (cc)

-- where the bit's place wasn't known, its height isn't below the surface
calm : (below : Bool) (at : Option GridPlace) → (below && not (is_some at)) ≡ false → at ≡ None → below ≡ false
calm false at placed unknown = refl
calm true None placed unknown = absurd (cc)
calm true (Some at) placed unknown = absurd (cc)

-- a place that isn't below the surface
above : (x y z : Option ℤ) (place : GridPlace) → spot_from x y z ≡ Some place → is_below z ≡ false → pos 0 ≤ℤ place.h
above (Some x) (Some y) (Some z) place is high =
    let same : z ≡ place.h = cc is in
    subst (λ h. pos 0 ≤ℤ h) same (grind (arith, ints))
above None y z place is high = absurd (cc)
above (Some x) None z place is high = absurd (cc)
above (Some x) (Some y) None place is high = absurd (cc)

-- what follows from a place at or above the surface
begins_above : (at : GridPlace) (moves : List LineMove) → pos 0 ≤ℤ at.h → FollowFrom at moves → AreFollowing moves
begins_above at [] high follow = tt
begins_above at (first ∷ moves) high follow = (subst (λ (place : GridPlace). pos 0 ≤ℤ place.h) (sym follow.0) high, (refl, follow.1))

-- a move of a line, if it names a place
abbrev made : ℕ → Bool → Option GridPlace → Option GridPlace → Option LineMove
made line names from to = if names then move_between line from to else None

abbrev counted : ℕ → Option LineMove → ℕ
counted count mv = if is_some mv then count + 1 else count

-- the line's move and those behind it
with_made : (line count : ℕ) (names : Bool) (from to : Option GridPlace) (later : List LineMove) → (names ≡ false → to ≡ from) → (is_some from ≡ true → is_some to ≡ true) → (from ≡ None → (place : GridPlace) → to ≡ Some place → pos 0 ≤ℤ place.h) → MayFollow (counted count (made line names from to)) to later → MayFollow count from (and_later (made line names from to) later)
with_made line count false from to later same known high may = subst (λ at. MayFollow count at later) (same refl) may
with_made line count true None None later same known high may = may
with_made line count true None (Some to) later same known high may =
    record { follow = begins_above to later (high refl to refl) may.follow; few = may.few }
with_made line count true (Some from) None later same known high may = let unknown = known refl in absurd (cc)
with_made line count true (Some from) (Some to) later same known high may = let few = may.few in record { follow = (refl, may.follow); few = omega arith }

-- there was room for it
room : (line count : ℕ) (names : Bool) (from to : Option GridPlace) → (names && is_some from && leb MOST_MOVES count) ≡ false → count ≤ MOST_MOVES → counted count (made line names from to) ≤ MOST_MOVES
room line count false from to is few = few
room line count true None to is few = few
room line count true (Some from) None is few = few
room line count true (Some from) (Some to) is few = grind (arith, nat_tests)

-- ---- all lines

-- behind a line of this block
module _ (line count : ℕ) (old : Position) (block : Block) where
  abbrev new : Position
  new = moved old block

  abbrev mv : Option LineMove
  mv = move_of line old block

  abbrev IsPlaced : Type 0
  IsPlaced = (is_below new.z && not (is_some (spot_of old))) ≡ false

  with_line : (more : List LineMove) → IsPlaced → MayFollow (counted count mv) (spot_of new) more → MayFollow count (spot_of old) (and_later mv more)
  with_line more placed may =
      with_made line count (names_place block) (spot_of old) (spot_of new) more (stays old.x old.y old.z block.x block.y block.z)
      (known_stays old.x old.y old.z block.x block.y block.z)
      (λ unknown place is. above new.x new.y new.z place is (calm (is_below new.z) (spot_of old) placed unknown)) may

  behind : (is_last : Bool) (found : Result (List LineMove) CodeFault) → IsPlaced → counted count mv ≤ MOST_MOVES → IfOk found (MayFollow (counted count mv) (spot_of new)) → IfOk (if is_last then Ok (and_later mv []) else and_then found (λ more. Ok (and_later mv more))) (MayFollow count (spot_of old))
  behind true found placed few may = with_line [] placed (nothing_follows (counted count mv) (spot_of new) few)
  behind false (Err fault) placed few may = tt
  behind false (Ok more) placed few may = with_line more placed may

  block_follows : (later : Later) → count ≤ MOST_MOVES → ((count : ℕ) (at : Position) → count ≤ MOST_MOVES → IfOk (later count at) (MayFollow count (spot_of at))) → IfOk (with_later line count old (judged line count old (Ok block)) later) (MayFollow count (spot_of old))
  block_follows later few follow = by _ _ refl refl
    where
      by : (unplaced many : Bool) → (is_below new.z && not (is_some (spot_of old))) ≡ unplaced → (names_place block && is_some (spot_of old) && leb MOST_MOVES count) ≡ many → IfOk (with_later line count old (and_then (if unplaced then Err kind.Unplaced else if many then Err kind.TooMany else Ok mv) (λ mv. Ok (block, mv))) later) (MayFollow count (spot_of old))
      by true many is full = tt
      by false true is full = tt
      by false false is full =
          let few_then = room line count (names_place block) (spot_of old) (spot_of new) full few in
          behind block.last (later (counted count mv) new) is few_then (follow (counted count mv) new few_then)

line_follows : (line count : ℕ) (old : Position) (read : Result Block CodeKind) (later : Later) → count ≤ MOST_MOVES → ((count : ℕ) (at : Position) → count ≤ MOST_MOVES → IfOk (later count at) (MayFollow count (spot_of at))) → IfOk (with_later line count old (judged line count old read) later) (MayFollow count (spot_of old))
line_follows line count old (Err fault) later few follow = tt
line_follows line count old (Ok block) later few follow = block_follows line count old block later few follow

may_follow : (units : Units) (line count : ℕ) (old : Position) (lines : List Piece) → count ≤ MOST_MOVES → IfOk (moves_from units line count old lines) (MayFollow count (spot_of old))
may_follow units line count old [] few = nothing_follows count (spot_of old) few
may_follow units line count old (text ∷ lines) few =
    line_follows line count old (line_block units text.bytes) (λ count at. moves_from units (line + 1) count at lines) few
    (λ count at few. may_follow units (line + 1) count at lines few)

-- what is known of the moves of a program
of_program : (units : Units) (text : List ℕ) (moves : List LineMove) → moves_of units text ≡ Ok moves → MayFollow 0 None moves
of_program units text moves is = subst (λ found. IfOk found (MayFollow 0 None)) is (may_follow units 1 0 nowhere (lines_of text) (omega arith))

pub follows : FollowLaw
follows units text moves is = (of_program units text moves is).follow

pub few_moves : FewMovesLaw
few_moves units text moves is = let few = (of_program units text moves is).few in omega arith
