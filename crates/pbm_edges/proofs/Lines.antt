-- The lines of a bitmap, one after another, and what their segments come to.
use Rattle.std.proofs.Common.{◌≡◌, ◌<◌, ◌≤◌, ℕ, suc, ◌+◌, ◌-◌, ◌*◌, ◌||◌, false, List, [], ◌++◌, length, map, nat_lt, Ok, Err, refl, sym, ap, subst, ◌∙◌, arith, append_assoc}
use Rattle.std.specs.List.{flat_map, range_with_len}
use Rattle.std.proofs.lemmas.Bool.{le-ltb, lt-ltb}
use Rattle.std.proofs.lemmas.List.{append-nil, length-append}
use Rattle.plane_exact.specs.declared.point.Seg.{Seg}
use Rattle.pbm_edges.specs.Boundary.{IsWithinGrid, boundary_of, edges_of_pixels, segments_on}
use Rattle.pbm_edges.specs.Pixels.{Pixels}
use Rattle.pbm_edges.specs.declared.fault.FlatFault.TheVariants.{TooMany}
use Rattle.pbm_edges.specs.declared.side.Line.{Line}
use Rattle.pbm_edges.specs.declared.side.Line.TheVariants.{Across, Up}
use Rattle.pbm_edges.specs.declared.tracing.TheConstants.{MOST_COORDINATE, MOST_SEGMENTS}

module _ (image : Pixels) (pixel : ℕ) where
  -- the segments on so many lines from the place k on
  abbrev pub from_lines : (ℕ → Line) → (k n : ℕ) → List Seg
  from_lines line k n = flat_map (segments_on image pixel) (map line (range_with_len k n))

  next_line : (line : ℕ → Line) (k n m : ℕ) → n - k ≡ suc m → from_lines line k (n - k) ≡ segments_on image pixel (line k) ++ from_lines line (k + 1) m
  next_line line k n m is = rw is refl

  -- one more line
  pub lined : (line : ℕ → Line) (segs now later whole : List Seg) (k n : ℕ) → k < n → segs ++ (from_lines line k (n - k) ++ later) ≡ whole → now ≡ segs ++ segments_on image pixel (line k) → now ++ (from_lines line (k + 1) (n - (k + 1)) ++ later) ≡ whole
  lined line segs now later whole k n on so_far grown =
      let own = segments_on image pixel (line k) in
      let rest = from_lines line (k + 1) (n - (k + 1)) in
      let next = next_line line k n (n - (k + 1)) (omega arith) in
      ap (λ now. now ++ (rest ++ later)) grown ∙ append_assoc segs own (rest ++ later) ∙ ap (λ others. segs ++ others) (sym (append_assoc own rest later) ∙ ap (λ lines. lines ++ later) (sym next)) ∙ so_far

  -- the segments up to the end of this line are too many
  pub too_many : (line : ℕ → Line) (segs later whole : List Seg) (k n : ℕ) → k < n → segs ++ (from_lines line k (n - k) ++ later) ≡ whole → MOST_SEGMENTS < length (segs ++ segments_on image pixel (line k)) → MOST_SEGMENTS < length whole
  too_many line segs later whole k n on so_far many =
      let now = segs ++ segments_on image pixel (line k) in
      let all = lined line segs now later whole k n on so_far refl in
      omega (arith, many, ap length all, length-append now (from_lines line (k + 1) (n - (k + 1)) ++ later))

  pub at_first : [] ++ (from_lines Across 0 (image.height + 1 - 0) ++ from_lines Up 0 (image.width + 1)) ≡ boundary_of image pixel
  unfolding boundary_of
  at_first =
      let all : image.height + 1 - 0 ≡ image.height + 1 = omega arith in
      ap (λ n. from_lines Across 0 n ++ from_lines Up 0 (image.width + 1)) all

  -- all lines across are done
  pub turned_up : (segs whole : List Seg) → segs ++ (from_lines Across (image.height + 1) (image.height + 1 - (image.height + 1)) ++ from_lines Up 0 (image.width + 1)) ≡ whole → segs ++ (from_lines Up 0 (image.width + 1 - 0) ++ []) ≡ whole
  turned_up segs whole so_far =
      let none : image.height + 1 - (image.height + 1) ≡ 0 = omega arith in
      let all : image.width + 1 - 0 ≡ image.width + 1 = omega arith in
      ap (λ later. segs ++ later) (append-nil (from_lines Up 0 (image.width + 1 - 0)) ∙ ap (from_lines Up 0) all ∙ ap (λ n. from_lines Across (image.height + 1) n ++ from_lines Up 0 (image.width + 1)) (sym none)) ∙ so_far

  -- all lines are done
  pub at_last : (segs whole : List Seg) → segs ++ (from_lines Up (image.width + 1) (image.width + 1 - (image.width + 1)) ++ []) ≡ whole → segs ≡ whole
  at_last segs whole so_far =
      let none : image.width + 1 - (image.width + 1) ≡ 0 = omega arith in
      sym (append-nil segs) ∙ ap (λ n. segs ++ (from_lines Up (image.width + 1) n ++ [])) (sym none) ∙ so_far

  module _ (grid : IsWithinGrid image pixel) where
    is_on_grid : (nat_lt MOST_COORDINATE (image.width * pixel) || nat_lt MOST_COORDINATE (image.height * pixel)) ≡ false
    is_on_grid = rw (le-ltb MOST_COORDINATE (image.width * pixel) grid.across, le-ltb MOST_COORDINATE (image.height * pixel) grid.up) refl

    pub edges-Ok : (segs : List Seg) → segs ≡ boundary_of image pixel → length segs ≤ MOST_SEGMENTS → edges_of_pixels image pixel ≡ Ok segs
    unfolding edges_of_pixels
    edges-Ok segs is few =
        let same = subst (λ (all : List Seg). length all ≤ MOST_SEGMENTS) is few in
        rw (is_on_grid, le-ltb MOST_SEGMENTS (length (boundary_of image pixel)) same) (ap Ok (sym is))

    pub edges-TooMany : MOST_SEGMENTS < length (boundary_of image pixel) → edges_of_pixels image pixel ≡ Err TooMany
    unfolding edges_of_pixels
    edges-TooMany many = rw (is_on_grid, lt-ltb MOST_SEGMENTS (length (boundary_of image pixel)) many) refl
