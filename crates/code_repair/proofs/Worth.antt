-- A repaired program is clear, removes no more than the read one, and keeps its clear moves: by the moves, from the first on.
use Rattle.std.proofs.Common.{◌≡◌, ◌↔◌, inl, inr, ℕ, zero, suc, ◌+◌, ◌≤◌, Bool, true, false, List, [], ◌∷◌, ◌++◌, arith, refl, ap, subst, sym, ◌∙◌, append_assoc}
use Rattle.std.specs.Prelude.{All, Contains}
use Rattle.std.proofs.lemmas.List.Elements.{All-cons, All-nil, All-weaker}
use Rattle.plane_exact.specs.Cone.{Cone}
use Rattle.plane_exact.specs.Heights.{GridPlace}
use Rattle.plane_exact.specs.Plane.{GridPoint, RationalPoint}
use Rattle.plane_exact.specs.declared.moves.LineMove.{LineMove}
use Rattle.plane_exact.specs.declared.moves.Move.{Move}
use Rattle.plane_exact.specs.declared.point.Seg.{Seg}
use Rattle.engrave_model.specs.Drawing.{edges_of}
use Rattle.engrave_model.specs.Removal.{Removes}
use Rattle.gcode_text.specs.Following.{FollowFrom}
use Rattle.gcode_text.specs.Path.{moves_through}
use Rattle.gcode_text.specs.Visits.{spot_over, visit_moves}
use Rattle.swept_move.specs.Clear.{IsClear}
use Rattle.code_repair.specs.Law.{IsRepaired, KeepsClear, RemovesByAny, RepairLaw}
use Rattle.code_repair.specs.Repair.{AreVisits, CanLand, lift}
use Rattle.code_repair.proofs.Keeping.{counted_changed, counted_clear, keeps_behind}
use Rattle.code_repair.proofs.Upright.{IsLandable, IsUnder, above_landable, above_nothing, can_land, drop_clear, drop_under, first_landable, landed, last_landable, last_removes, level_clear, level_nothing, lift_clear, lift_under}

module _ (loops : List (List GridPoint)) (cone : Cone) (safe : ℕ) (some : 1 ≤ cone.sn) (all : List LineMove) where
  abbrev edges : List Seg
  edges = edges_of loops

  -- where the bit is, by where the move before ended
  abbrev place : Bool → GridPlace → GridPlace
  place true last = spot_over safe last.at
  place false last = last

  -- it may be lifted from there, or couldn't be set down
  abbrev IsStanding : Bool → GridPlace → Type 0
  IsStanding true last = ¬ CanLand edges cone safe last
  IsStanding false last = IsLandable edges cone last

  -- what is under the place is removed by the moves
  abbrev IsCovered : GridPlace → Type 0
  IsCovered last = (w : RationalPoint) → IsUnder cone last w → RemovesByAny cone all w

  -- these moves are some of all
  abbrev AreWithin : List LineMove → Type 0
  AreWithin moves = (move : LineMove) → Contains moves move → Contains all move

  -- a move of the path is clear, and removes nothing that the moves don't
  abbrev IsFine : LineMove → Type 0
  IsFine move = IsClear edges cone move.mv × ((w : RationalPoint) → Removes cone move.mv w → RemovesByAny cone all w)

  pub record IsGood (from : GridPlace) (line : ℕ) (moves : List LineMove) (visits : List GridPlace) (changed : ℕ) : Type 0 where
    pub fine : All IsFine (moves_through line from visits)
    pub keeps : KeepsClear edges cone moves (moves_through line from visits)
    pub count : (changed ≡ 0) ↔ All (λ move. IsClear edges cone move.mv) moves

  -- ---- the moves of the path

  level_fine : (line : ℕ) (p q : GridPoint) → IsFine (record { line = line; mv = record { from = spot_over safe p; to = spot_over safe q } })
  level_fine line p q = (level_clear edges cone safe p q, λ w removes. absurd (level_nothing cone safe p q w removes))

  drop_fine : (line : ℕ) (p : GridPlace) → IsLandable edges cone p → IsCovered p → IsFine (record { line = line; mv = record { from = spot_over safe p.at; to = p } })
  drop_fine line p landable covered = (drop_clear edges cone safe p some landable, λ w removes. covered w (drop_under cone safe p w removes))

  lift_fine : (line : ℕ) (p : GridPlace) → IsLandable edges cone p → IsCovered p → IsFine (record { line = line; mv = record { from = p; to = spot_over safe p.at } })
  lift_fine line p landable covered = (lift_clear edges cone safe p some landable, λ w removes. covered w (lift_under cone safe p w removes))

  -- a good path with a move more in front, for moves of which the first isn't clear
  pub in_front : (from : GridPlace) (line : ℕ) (to : GridPlace) (moves : List LineMove) (visits : List GridPlace) (changed : ℕ)
      → IsFine (record { line = line; mv = record { from = from; to = to } }) → IsGood to (line + 1) moves visits changed → IsGood from line moves (to ∷ visits) changed
  in_front from line to moves visits changed fine good = record {
    fine = All-cons IsFine _ _ fine good.fine;
    keeps = keeps_behind edges cone moves _ _ good.keeps;
    count = good.count;
  }

  -- ---- the last lift

  lifted : (up : Bool) (last : GridPlace) (line : ℕ) → IsStanding up last → IsCovered last → IsFine (record { line = line; mv = record { from = place up last; to = spot_over safe last.at } })
  lifted true last line standing covered = level_fine line last.at last.at
  lifted false last line standing covered = lift_fine line last standing covered

  -- ---- one move

  module _ (move : LineMove) (moves : List LineMove) (line : ℕ) (changed later : ℕ) where
    abbrev mv : Move
    mv = move.mv

    covered_behind : Contains all move → IsCovered mv.to
    covered_behind there w under = record { move = move; there = there; removes = last_removes cone mv.from mv.to w under }

    -- the rest, for the moves of which the first isn't clear
    unclear_first : (from : GridPlace) (line : ℕ) (visits : List GridPlace) → ¬ IsClear edges cone mv → changed ≡ 1 + later
        → IsGood from line moves visits later → IsGood from line (move ∷ moves) visits changed
    unclear_first from line visits unclear sum good = record {
      fine = good.fine;
      keeps = inr (unclear, good.keeps);
      count = counted_changed edges cone move moves changed later sum unclear;
    }

    stay_good : (up : Bool) (rest : List GridPlace) → IsStanding up mv.from → Contains all move → IsClear edges cone mv → changed ≡ 0 + later
        → IsGood mv.to (line + 1) moves rest later → IsGood (place up mv.from) line (move ∷ moves) (mv.to ∷ rest) changed
    stay_good true rest standing there clear sum good = absurd (standing (can_land edges cone safe mv.from some (first_landable loops cone mv clear)))
    stay_good false rest standing there clear sum good = record {
      fine = All-cons IsFine _ _ (clear, λ w removes. record { move = move; there = there; removes = removes }) good.fine;
      keeps = inl (clear, record { before = []; line = line; after = moves_through (line + 1) mv.to rest; parts = refl; later = good.keeps });
      count = counted_clear edges cone move moves changed later sum clear good.count;
    }

    -- up, and over the end at the safe height
    over_good : (up : Bool) (rest : List GridPlace) → IsStanding up mv.from → IsCovered mv.from
        → ((line : ℕ) → IsGood (spot_over safe mv.to.at) line (move ∷ moves) rest changed)
        → IsGood (place up mv.from) line (move ∷ moves) (lift up safe mv.from ++ spot_over safe mv.to.at ∷ rest) changed
    over_good true rest standing covered good = in_front _ line _ (move ∷ moves) rest changed (level_fine line mv.from.at mv.to.at) (good (line + 1))
    over_good false rest standing covered good =
        in_front _ line _ (move ∷ moves) (spot_over safe mv.to.at ∷ rest) changed (lift_fine line mv.from standing covered)
        (in_front _ (line + 1) _ (move ∷ moves) rest changed (level_fine (line + 1) mv.from.at mv.to.at) (good (line + 1 + 1)))

  -- the moves behind a first one
  abbrev GoodBehind : List LineMove → Type 0
  GoodBehind moves = (up : Bool) (last : GridPlace) (line : ℕ) (visits : List GridPlace) (changed : ℕ) → FollowFrom last moves → IsStanding up last → IsCovered last → AreWithin moves
      → AreVisits edges cone safe up last.at moves visits changed → IsGood (place up last) line moves visits changed

  first_there : (move : LineMove) (moves : List LineMove) → Contains (move ∷ moves) move
  first_there move moves = (zero, omega arith, refl)

  within_rest : (move : LineMove) (moves : List LineMove) → AreWithin (move ∷ moves) → AreWithin moves
  within_rest move moves within other there = within other (suc there.0, (let below = there.1 in omega arith), there.2)

  step_good : (move : LineMove) (moves : List LineMove) → GoodBehind moves → FollowFrom move.mv.to moves → AreWithin (move ∷ moves)
      → (up : Bool) (line : ℕ) (visits : List GridPlace) (changed : ℕ) → IsStanding up move.mv.from → IsCovered move.mv.from
      → AreVisits edges cone safe up move.mv.from.at (move ∷ moves) visits changed → IsGood (place up move.mv.from) line (move ∷ moves) visits changed
  step_good move moves later follow within up line visits changed standing covered are =
      let there = within move (first_there move moves) in
      let behind = covered_behind move moves line changed are.later there in
      let rest = within_rest move moves within in
      elim are.step [
        | inl stays ↦
            subst (λ vs. IsGood (place up move.mv.from) line (move ∷ moves) vs changed) (sym (are.parts ∙ ap (λ p. p ++ are.rest) stays.visited))
            (stay_good move moves line changed are.later up are.rest standing there stays.clear (are.sum ∙ ap (λ n. n + are.later) stays.none)
            (later false move.mv.to (line + 1) are.rest are.later follow (last_landable loops cone move.mv stays.clear) behind rest
            (subst (λ b. AreVisits edges cone safe b move.mv.to.at moves are.rest are.later) stays.down are.then_rest)))
        | inr (inl hops) ↦
            (let landable = landed loops cone safe move.mv.to hops.lands in
            subst (λ vs. IsGood (place up move.mv.from) line (move ∷ moves) vs changed)
            (sym (are.parts ∙ ap (λ p. p ++ are.rest) hops.visited ∙ append_assoc (lift up safe move.mv.from) (spot_over safe move.mv.to.at ∷ move.mv.to ∷ []) are.rest))
            (over_good move moves line changed are.later up (move.mv.to ∷ are.rest) standing covered (λ line.
            in_front _ line _ (move ∷ moves) are.rest changed (drop_fine line move.mv.to landable behind)
            (unclear_first move moves line changed are.later _ (line + 1) are.rest hops.unclear (are.sum ∙ ap (λ n. n + are.later) hops.one)
            (later false move.mv.to (line + 1) are.rest are.later follow landable behind rest
            (subst (λ b. AreVisits edges cone safe b move.mv.to.at moves are.rest are.later) hops.down are.then_rest))))))
        | inr (inr hovers) ↦
            subst (λ vs. IsGood (place up move.mv.from) line (move ∷ moves) vs changed)
            (sym (are.parts ∙ ap (λ p. p ++ are.rest) hovers.visited ∙ append_assoc (lift up safe move.mv.from) (spot_over safe move.mv.to.at ∷ []) are.rest))
            (over_good move moves line changed are.later up are.rest standing covered (λ line.
            unclear_first move moves line changed are.later _ line are.rest hovers.unclear (are.sum ∙ ap (λ n. n + are.later) hovers.one)
            (later true move.mv.to line are.rest are.later follow hovers.hovers behind rest
            (subst (λ b. AreVisits edges cone safe b move.mv.to.at moves are.rest are.later) hovers.stays_up are.then_rest))))
      ]

  -- ---- all moves

  pub good_on : (moves : List LineMove) → GoodBehind moves
  good_on [] up last line visits changed follow standing covered within are =
      subst (λ vs. IsGood (place up last) line [] vs changed) (sym are.0)
      (record {
        fine = All-cons IsFine (record { line = line; mv = record { from = place up last; to = spot_over safe last.at } }) [] (lifted up last line standing covered) (All-nil IsFine);
        keeps = tt;
        count = (λ none. All-nil (λ move. IsClear edges cone move.mv), λ every. are.1);
      })
  good_on (move ∷ moves) up last line visits changed follow standing covered within are =
      subst (λ (p : GridPlace). IsStanding up p → IsCovered p → AreVisits edges cone safe up p.at (move ∷ moves) visits changed → IsGood (place up p) line (move ∷ moves) visits changed) follow.0
      (step_good move moves (good_on moves) follow.1 within up line visits changed) standing covered are

  pub no_more : (path : List LineMove) → All IsFine path → (w : RationalPoint) → RemovesByAny cone path w → RemovesByAny cone all w
  no_more path fine w removed = (subst IsFine removed.there.2 (fine removed.there.0 removed.move removed.there.1)).1 w removed.removes

-- ---- the law

pub repaired : RepairLaw
repaired loops cone safe [] visits changed some high following is =
    subst (λ vs. IsRepaired (edges_of loops) cone [] (visit_moves safe vs) changed) (sym is.0)
    (record {
      clear = All-nil (λ move. IsClear (edges_of loops) cone move.mv);
      no_more = λ w removed. absurd (let below = removed.there.1 in omega arith);
      keeps = tt;
      unchanged = (λ none. All-nil (λ move. IsClear (edges_of loops) cone move.mv), λ every. is.1);
    })
repaired loops cone safe (move ∷ moves) visits changed some high following is =
    let all = move ∷ moves in
    let start = move.mv.from in
    let landable = above_landable (edges_of loops) cone start following.0 in
    let covered : IsCovered loops cone safe some all start = λ w under. absurd (above_nothing cone start w following.0 under) in
    let good = in_front loops cone safe some all (spot_over safe start.at) 7 start all is.rest changed (drop_fine loops cone safe some all 7 start landable covered)
    (good_on loops cone safe some all all false start 8 is.rest changed following.1 landable covered (λ other there. there) is.are) in
    subst (λ vs. IsRepaired (edges_of loops) cone all (visit_moves safe vs) changed) (sym is.begins)
    (record {
      clear = All-weaker (IsFine loops cone safe some all) (λ move. IsClear (edges_of loops) cone move.mv) (λ m fine. fine.0) (visit_moves safe (start ∷ is.rest)) good.fine;
      no_more = no_more loops cone safe some all _ good.fine;
      keeps = good.keeps;
      unchanged = good.count;
    })
