-- The walk over the moves: what one step adds, and that the steps together are the visits of the rule.
use Rattle.std.proofs.Common.{◌≡◌, ◌↔◌, inl, inr, ℕ, ◌+◌, ◌<◌, ℤ, pos, negsuc, ◌≤ℤ◌, Bool, true, false, List, [], ◌∷◌, ◌++◌, length, drop, get_or, IsTrue, arith, refl, ap, subst, sym, ◌∙◌, append_assoc}
use Rattle.std.proofs.Math.Seq.{drop-length}
use Rattle.std.proofs.lemmas.Int.{ints}
use Rattle.std.proofs.lemmas.List.{drop_more}
use Rattle.plane_exact.specs.Cone.{Cone}
use Rattle.plane_exact.specs.Heights.{GridPlace}
use Rattle.plane_exact.specs.Moves.{depth_of}
use Rattle.plane_exact.specs.declared.moves.LineMove.{LineMove}
use Rattle.plane_exact.specs.declared.moves.Move.{Move}
use Rattle.plane_exact.specs.declared.point.Seg.{Seg}
use Rattle.gcode_text.specs.Visits.{spot_over}
use Rattle.swept_move.specs.Clear.{IsClear}
use Rattle.code_repair.specs.Repair.{AreVisits, BeginsAt, CanLand, IsStep, IsStepFrom, lift}
use Rattle.code_repair.specs.Walk.{AreAdded, IsLed}
use Rattle.code_repair.specs.declared.visits.Visits.{Visits}

-- at or above the surface there is no depth, and only there
above_surface : (h : ℤ) → depth_of h ≡ 0 → pos 0 ≤ℤ h
above_surface (pos n) none = omega (arith, ints)
above_surface (negsuc n) none = absurd (omega arith)

surface_above : (h : ℤ) → pos 0 ≤ℤ h → depth_of h ≡ 0
surface_above (pos n) above = refl
surface_above (negsuc n) above = absurd (omega (arith, ints))

pub surface_lands : (edges : List Seg) (cone : Cone) (safe : ℕ) (spot : GridPlace) → depth_of spot.h ≡ 0 → CanLand edges cone safe spot
surface_lands edges cone safe spot none = inl (above_surface spot.h none)

pub clear_lands : (edges : List Seg) (cone : Cone) (safe : ℕ) (spot above : GridPlace) (b : Bool) → above ≡ spot_over safe spot.at
    → (IsTrue b ↔ IsClear edges cone (record { from = above; to = spot })) → ¬ (depth_of spot.h ≡ 0) → IsTrue b ↔ CanLand edges cone safe spot
clear_lands edges cone safe spot above b same is below = (
  λ yes. inr (subst (λ a. IsClear edges cone (record { from = a; to = spot })) same (is.0 yes)),
  λ lands. elim lands [ inl high ↦ absurd (below (surface_above spot.h high)) | inr clear ↦ is.1 (subst (λ a. IsClear edges cone (record { from = a; to = spot })) (sym same) clear) ],
)

-- ---- one step

module _ (edges : List Seg) (cone : Cone) (safe : ℕ) (up : Bool) (mv : Move) (spots : List GridPlace) (changed : ℕ) (spots' : List GridPlace) (behind : Bool) (changed' : ℕ) where
  pub stayed : IsClear edges cone mv → spots' ≡ spots ++ mv.to ∷ [] → behind ≡ false → changed' ≡ changed
      → IsStepFrom edges cone safe up mv spots changed spots' behind changed'
  stayed clear visited down same = record {
    part = mv.to ∷ [];
    here = 0;
    step = inl (record { clear = clear; visited = refl; down = down; none = refl });
    grown = visited;
    counted = omega arith;
  }

  pub hopped : ¬ IsClear edges cone mv → CanLand edges cone safe mv.to → spots' ≡ spots ++ (lift up safe mv.from ++ spot_over safe mv.to.at ∷ mv.to ∷ [])
      → behind ≡ false → changed' ≡ changed + 1 → IsStepFrom edges cone safe up mv spots changed spots' behind changed'
  hopped unclear lands visited down more = record {
    part = lift up safe mv.from ++ spot_over safe mv.to.at ∷ mv.to ∷ [];
    here = 1;
    step = inr (inl (record { unclear = unclear; lands = lands; visited = refl; down = down; one = refl }));
    grown = visited;
    counted = more;
  }

  pub hovered : ¬ IsClear edges cone mv → ¬ CanLand edges cone safe mv.to → spots' ≡ spots ++ (lift up safe mv.from ++ spot_over safe mv.to.at ∷ [])
      → behind ≡ true → changed' ≡ changed + 1 → IsStepFrom edges cone safe up mv spots changed spots' behind changed'
  hovered unclear hovers visited stays more = record {
    part = lift up safe mv.from ++ spot_over safe mv.to.at ∷ [];
    here = 1;
    step = inr (inr (record { unclear = unclear; hovers = hovers; visited = refl; stays_up = stays; one = refl }));
    grown = visited;
    counted = more;
  }

-- ---- all steps

module _ (edges : List Seg) (cone : Cone) (old : Visits) (moves : List LineMove) where
  pub led_first : IsLed edges cone old moves moves old
  led_first rest n are = record { part = rest; here = n; are = are; grown = refl; counted = refl }

  pub led_step : (i : ℕ) (move : LineMove) (before after : Visits) → i < length moves → move ≡ get_or moves i move
      → IsStepFrom edges cone before.safe before.up move.mv before.spots.items before.changed after.spots.items after.up after.changed
      → after.last ≡ move.mv.to → before.safe ≡ old.safe
      → IsLed edges cone old moves (drop i moves) before → IsLed edges cone old moves (drop (i + 1) moves) after
  led_step i move before after below is step last same led rest n are =
      let from_here : drop i moves ≡ move ∷ drop (i + 1) moves = drop_more moves i move below ∙ ap (λ m. m ∷ drop (i + 1) moves) (sym is) in
      let part = step.part in
      let here = step.here in
      let all = led (part ++ rest) (here + n)
      (subst (λ ms. AreVisits edges cone old.safe before.up before.last.at ms (part ++ rest) (here + n)) (sym from_here)
      (record {
        part = part;
        rest = rest;
        behind = after.up;
        here = here;
        later = n;
        step = subst (λ s. IsStep edges cone s before.up move.mv part after.up here) same step.step;
        then_rest = subst (λ p. AreVisits edges cone old.safe after.up p.at (drop (i + 1) moves) rest n) last are;
        parts = refl;
        sum = refl;
      })) in
      let spots : before.spots.items ++ (part ++ rest) ≡ after.spots.items ++ rest = sym (append_assoc before.spots.items part rest) ∙ ap (λ xs. xs ++ rest) (sym step.grown) in
      let sum : before.changed + (here + n) ≡ after.changed + n = let e = step.counted in omega arith in
      subst (λ m. AreAdded edges cone old moves (after.spots.items ++ rest) m) sum
      (subst (λ xs. AreAdded edges cone old moves xs (before.changed + (here + n))) spots all)

  pub led_last : (new : Visits) → IsLed edges cone old moves (drop (length moves) moves) new → IsLed edges cone old moves [] new
  led_last new led = subst (λ behind. IsLed edges cone old moves behind new) (drop-length moves) led

-- the bit is lifted behind the last move
pub begun : (edges : List Seg) (cone : Cone) (safe : ℕ) (start : GridPlace) (moves : List LineMove) (old new : Visits) (all : List GridPlace) (changed : ℕ)
    → old.spots.items ≡ start ∷ [] → old.up ≡ false → old.last ≡ start → old.changed ≡ 0 → old.safe ≡ safe → new.safe ≡ old.safe
    → all ≡ new.spots.items ++ spot_over new.safe new.last.at ∷ [] → changed ≡ new.changed → IsLed edges cone old moves [] new
    → BeginsAt edges cone safe start moves all changed
begun edges cone safe start moves old new all changed begins down last none same kept risen count led =
    let over = spot_over old.safe new.last.at in
    let added = led (over ∷ []) 0 (refl, refl) in
    let counted = added.counted in
    let sum : added.here ≡ changed = omega arith in
    record {
      rest = added.part;
      begins = risen ∙ ap (λ s. new.spots.items ++ spot_over s new.last.at ∷ []) kept ∙ added.grown ∙ ap (λ xs. xs ++ added.part) begins;
      are = subst (λ m. AreVisits edges cone safe false start.at moves added.part m) sum
          (subst (λ s. AreVisits edges cone s false start.at moves added.part added.here) same
          (subst (λ p. AreVisits edges cone old.safe false p.at moves added.part added.here) last
          (subst (λ up. AreVisits edges cone old.safe up old.last.at moves added.part added.here) down added.are)));
    }
