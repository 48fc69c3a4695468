-- The ends of each segment differ.
use Rattle.std.proofs.Common.{◌≡◌, ◌≢◌, ◌<◌, ◌≤◌, ℕ, ◌*◌, List, [], ◌∷◌, All, map, pos, sym, ap, arith}
use Rattle.std.specs.List.{AllByRecursion, flat_map}
use Rattle.std.proofs.lemmas.List.Elements.{All-append, All-cons, All-nil}
use Rattle.plane_exact.specs.Plane.{GridPoint}
use Rattle.pbm_edges.specs.Boundary.{boundary_of, lines_across, lines_up, runs_of, segment_of, segments_on, side_at, sides_along, turned}
use Rattle.pbm_edges.specs.Law.{IsRun}
use Rattle.pbm_edges.specs.Pixels.{Pixels}
use Rattle.pbm_edges.specs.declared.side.Line.{Line}
use Rattle.pbm_edges.specs.declared.side.Line.TheVariants.{Across, Up}
use Rattle.pbm_edges.specs.declared.side.Side.{Side}
use Rattle.pbm_edges.specs.declared.side.Side.TheVariants.{Level, Onward, Back}
use Rattle.pbm_edges.specs.declared.side.Stretch.{Stretch}
use Rattle.pbm_edges.proofs.Longest.{the_runs}

turned_apart : (side : Side) (p q : GridPoint) → p ≢ q → (turned side p q).a ≢ (turned side p q).b
turned_apart Level p q apart = apart
turned_apart Onward p q apart = apart
turned_apart Back p q apart = λ same. apart (sym same)

longer : (m n k : ℕ) → m < n → 1 ≤ k → m * k < n * k
longer m n k less some = grind arith

places_apart : (m n k : ℕ) → m < n → 1 ≤ k → pos (m * k) ≢ pos (n * k)
places_apart m n k less some same = let far = longer m n k less some in let is : m * k ≡ n * k = cc in omega arith

module _ (image : Pixels) (pixel : ℕ) (some : 1 ≤ pixel) where
  run_apart : (line : Line) (run : Stretch) → run.first < run.until → (segment_of image pixel line run).a ≢ (segment_of image pixel line run).b
  run_apart (Across k) run less = turned_apart run.side _ _ (λ same. places_apart run.first run.until pixel less some (ap (λ p. p.x) same))
  run_apart (Up k) run less = turned_apart run.side _ _ (λ same. places_apart run.first run.until pixel less some (ap (λ p. p.y) same))

  runs_apart : (line : Line) (f : ℕ → Side) (count : ℕ) (runs : List Stretch) → AllByRecursion (IsRun f count) runs → All (λ s. s.a ≢ s.b) (map (segment_of image pixel line) runs)
  runs_apart line f count [] each = All-nil (λ s. s.a ≢ s.b)
  runs_apart line f count (run ∷ runs) each =
      All-cons (λ s. s.a ≢ s.b) (segment_of image pixel line run) _ (run_apart line run each.0.some) (runs_apart line f count runs each.1)

  lines_apart : (lines : List Line) → All (λ s. s.a ≢ s.b) (flat_map (segments_on image pixel) lines)
  lines_apart [] = All-nil (λ s. s.a ≢ s.b)
  lines_apart (line ∷ lines) =
      All-append (λ s. s.a ≢ s.b) (segments_on image pixel line) (flat_map (segments_on image pixel) lines) (runs_apart line (side_at image line) (sides_along image line) (runs_of image line) (the_runs image line).each) (lines_apart lines)

  pub all_apart : All (λ s. s.a ≢ s.b) (boundary_of image pixel)
  unfolding boundary_of
  all_apart = All-append (λ s. s.a ≢ s.b) (flat_map (segments_on image pixel) (lines_across image)) (flat_map (segments_on image pixel) (lines_up image)) (lines_apart (lines_across image)) (lines_apart (lines_up image))
