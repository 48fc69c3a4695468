-- The pixels of packed rows, by their places and by the bytes that they are in.
use Rattle.std.proofs.Common.{◌≡◌, ◌<◌, ◌≤◌, ℕ, zero, suc, ◌+◌, ◌-◌, ◌*◌, ◌/◌, ◌%◌, ◌^◌, ◌==◌, Bool, false, Ok, List, ◌∷◌, ◌++◌, get_or, length, map, take, refl, sym, ap, ap₂, ◌∙◌, arith}
use Rattle.std.specs.List.{flat_map, range_with_len}
use Rattle.std.proofs.lemmas.List.{get_or-append_right, get_or-take, get_or_append_left}
use Rattle.std.proofs.lemmas.List.FromFn.{get_or-map-range_with_len, length-map-range_with_len}
use Rattle.std.proofs.lemmas.Bool.{le-ltb}
use Rattle.pbm_edges.specs.Pbm.{packed_pixels}
use Rattle.pbm_edges.specs.Packed.{packed_pixel, packed_row, row_bytes, unpacked}

module _ (text : List ℕ) (width : ℕ) where
  at_row : (a n col row : ℕ) → col < width → row < n → get_or (flat_map (packed_row text width) (range_with_len a n)) (row * width + col) false ≡ packed_pixel text ((a + row) * row_bytes width) col
  at_row a zero col row on within = absurd (omega arith)
  at_row a (suc n) col zero on within =
      let first = packed_row text width a in
      let long : length first ≡ width = length-map-range_with_len (packed_pixel text (a * row_bytes width)) 0 width in
      let here : a + 0 ≡ a = omega arith in
      let place : 0 * width + col ≡ col = omega arith in
      ap (λ k. get_or (first ++ flat_map (packed_row text width) (range_with_len (a + 1) n)) k false) place ∙ get_or_append_left first (flat_map (packed_row text width) (range_with_len (a + 1) n)) false col (omega arith) ∙ get_or-map-range_with_len (packed_pixel text (a * row_bytes width)) 0 width col col false on (omega arith) ∙ ap (λ row. packed_pixel text (row * row_bytes width) col) (sym here)
  at_row a (suc n) col (suc row) on within =
      let first = packed_row text width a in
      let long : length first ≡ width = length-map-range_with_len (packed_pixel text (a * row_bytes width)) 0 width in
      let place : suc row * width + col - width ≡ row * width + col = omega arith in
      let past : a + 1 + row ≡ a + suc row = omega arith in
      get_or-append_right first (flat_map (packed_row text width) (range_with_len (a + 1) n)) width (suc row * width + col) false long (omega arith) ∙ ap (λ k. get_or (flat_map (packed_row text width) (range_with_len (a + 1) n)) k false) place ∙ at_row (a + 1) n col row on (omega arith) ∙ ap (λ row. packed_pixel text (row * row_bytes width) col) past

  pub unpacked_at : (height col row : ℕ) → col < width → row < height → get_or (unpacked width height text) (row * width + col) false ≡ packed_pixel text (row * row_bytes width) col
  unfolding unpacked
  unpacked_at height col row on within =
      let here : 0 + row ≡ row = omega arith in
      at_row 0 height col row on within ∙ ap (λ row. packed_pixel text (row * row_bytes width) col) here

  module _ (count : ℕ) where
    same_pixels : (at i n : ℕ) → i + n ≤ width → at + row_bytes width ≤ count → map (packed_pixel (take count text) at) (range_with_len i n) ≡ map (packed_pixel text at) (range_with_len i n)
    same_pixels at i zero within room = refl
    same_pixels at i (suc n) within room =
        ap₂ {C = List Bool} (λ pixel pixels. pixel ∷ pixels) (ap (λ byte. byte / 2 ^ (7 - i % 8) % 2 == 1) (get_or-take count text (at + i / 8) 0 (omega arith))) (same_pixels at (i + 1) n (omega arith) room)

    same_rows : (a n : ℕ) → (a + n) * row_bytes width ≤ count → flat_map (packed_row (take count text) width) (range_with_len a n) ≡ flat_map (packed_row text width) (range_with_len a n)
    same_rows a zero room = refl
    same_rows a (suc n) room =
        ap₂ {C = List Bool} (λ row rows. row ++ rows) (same_pixels (a * row_bytes width) 0 width (omega arith) (omega arith)) (same_rows (a + 1) n (omega arith))

    pub unpacked_take : (height : ℕ) → height * row_bytes width ≤ count → unpacked width height (take count text) ≡ unpacked width height text
    unfolding unpacked
    unpacked_take height room = same_rows 0 height (omega arith)

-- the first bytes of a text that is long enough are its packed rows
pub packed_front : (width height bytes : ℕ) (text front : List ℕ) → bytes ≡ row_bytes width → height * bytes ≤ length text → front ≡ take (height * bytes) text → packed_pixels width height text ≡ Ok (unpacked width height front)
unfolding packed_pixels
packed_front width height bytes text front is long cut =
    let count : height * bytes ≡ height * row_bytes width = ap (λ bytes. height * bytes) is in
    rw (le-ltb (length text) (height * row_bytes width) (omega arith)) (ap Ok (sym (ap (unpacked width height) cut ∙ unpacked_take text width (height * bytes) height (omega arith))))
