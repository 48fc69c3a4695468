-- Pixels by their bytes: bytes that are the same have the same pixels.
use Rattle.std.specs.Prelude.{IsTrue, max, nat_eq, slice_index, slice_index_or}
use Rattle.std.proofs.Common.{◌≡◌, ◌<◌, ◌≤◌, ℕ, zero, suc, ◌+◌, ◌-◌, ◌*◌, ◌/◌, ◌%◌, Bool, true, false, List, [], ◌∷◌, ◌++◌, length, pos, refl, sym, ap, ap₂, subst, ◌∙◌, arith, Vec, Global}
use Rattle.std.proofs.lemmas.Bool.{le-leb}
use Rattle.std.proofs.lemmas.List.{get_or_append_left, get_or-append_right}
use Rattle.std.proofs.Math.Nat.{div-lt_iff_lt-mul, max-le}
use Rattle.std.proofs.lemmas.Int.{ints, by_lt_z}
use Rattle.std.proofs.lemmas.Nat.{div-mul-add, mod-mul-add, mul-le}
use Rattle.pbm_edges.specs.Boundary.{side_at, side_of}
use Rattle.pbm_edges.specs.Packed.{row_bytes}
use Rattle.pbm_edges.specs.Pixels.{Pixels, is_black_at, is_black_in}
use Rattle.pbm_edges.specs.Same.{AreSteady, IsInByte, IsPackedOf, IsSteady, pixel_of}
use Rattle.pbm_edges.specs.Stored.{IsStored, black_of}
use Rattle.pbm_edges.specs.declared.cells.Cells.{Cells}
use Rattle.pbm_edges.specs.declared.cells.Cells.TheVariants.{Packed}
use Rattle.pbm_edges.specs.declared.side.Line.TheVariants.{Across, Up}
use Rattle.pbm_edges.specs.declared.side.Side.{Side}
use Rattle.pbm_edges.proofs.Packing.{unpacked_at}

-- ---- one byte

pub all_black : (i : ℕ) → i < 8 → pixel_of 255 i ≡ true
all_black zero on = refl
all_black (suc zero) on = refl
all_black (suc (suc zero)) on = refl
all_black (suc (suc (suc zero))) on = refl
all_black (suc (suc (suc (suc zero)))) on = refl
all_black (suc (suc (suc (suc (suc zero))))) on = refl
all_black (suc (suc (suc (suc (suc (suc zero)))))) on = refl
all_black (suc (suc (suc (suc (suc (suc (suc zero))))))) on = refl
all_black (suc (suc (suc (suc (suc (suc (suc (suc i)))))))) on = absurd (omega arith)

pub all_white : (i : ℕ) → i < 8 → pixel_of 0 i ≡ false
all_white zero on = refl
all_white (suc zero) on = refl
all_white (suc (suc zero)) on = refl
all_white (suc (suc (suc zero))) on = refl
all_white (suc (suc (suc (suc zero)))) on = refl
all_white (suc (suc (suc (suc (suc zero))))) on = refl
all_white (suc (suc (suc (suc (suc (suc zero)))))) on = refl
all_white (suc (suc (suc (suc (suc (suc (suc zero))))))) on = refl
all_white (suc (suc (suc (suc (suc (suc (suc (suc i)))))))) on = absurd (omega arith)

pub zero_is : (byte : ℕ) → IsTrue (nat_eq byte 0) → byte ≡ 0
zero_is byte is = grind (arith)

pub full_is : (byte : ℕ) → IsTrue (nat_eq byte 255) → byte ≡ 255
full_is byte is = grind (arith)

pub up_is : (flag : Bool) → IsTrue flag → flag ≡ true
up_is flag up = grind (arith)

pub is_up : (flag : Bool) → flag ≡ true → IsTrue flag
is_up flag up = grind (arith)

-- ---- the bytes of an image

pub packed_of : (width height : ℕ) (cells : Cells) (rows : Vec ℕ Global) → cells ≡ Packed rows → IsStored width height cells
    → IsPackedOf (record { width = width; height = height; black = black_of width height cells }) rows.items
packed_of width height cells rows is stored =
    subst (λ cells. IsPackedOf (record { width = width; height = height; black = black_of width height cells }) rows.items) (sym is) (record {
      full = (subst (IsStored width height) is stored).full;
      pixel = λ col row on within. unpacked_at rows.items width height col row on within;
    })

module _ (image : Pixels) where
  -- within the image
  within_is : (x y : ℕ) → 1 ≤ x → x ≤ image.width → 1 ≤ y → y ≤ image.height → is_black_in image x y ≡ is_black_at image (x - 1) (y - 1)
  within_is x y left right top bottom = rw (le-leb 1 x left, le-leb x image.width right, le-leb 1 y top, le-leb y image.height bottom) refl

  module _ (bytes : List ℕ) (packed : IsPackedOf image bytes) where
    -- the pixel of a row by its byte
    pixel_is : (b x y : ℕ) → IsInByte image b x → 1 ≤ y → y ≤ image.height
        → is_black_in image x y ≡ pixel_of (slice_index bytes ((y - 1) * row_bytes image.width + b)) ((x - 1) % 8)
    pixel_is b x y in_byte top bottom =
        let some = in_byte.some in
        let within = in_byte.within in
        within_is x y some within top bottom
        ∙ packed.pixel (x - 1) (y - 1) (omega arith) (omega arith)
        ∙ ap (λ b. pixel_of (slice_index bytes ((y - 1) * row_bytes image.width + b)) ((x - 1) % 8)) in_byte.byte

    -- nine rows that have the same byte are steady there
    pub steady_of : (block b : ℕ) → 8 * block + 9 ≤ image.height
        → ((d : ℕ) → d ≤ 8 → slice_index bytes ((8 * block + d) * row_bytes image.width + b) ≡ slice_index bytes (8 * block * row_bytes image.width + b))
        → IsSteady image block b
    steady_of block b room same x y in_byte from to =
        let first : 8 * block + 1 - 1 ≡ 8 * block = omega arith in
        let there : y - 1 ≡ 8 * block + (y - 1 - 8 * block) = omega arith in
        pixel_is b x y in_byte (omega arith) (omega arith)
        ∙ ap (λ row. pixel_of (slice_index bytes (row * row_bytes image.width + b)) ((x - 1) % 8)) there
        ∙ ap (λ byte. pixel_of byte ((x - 1) % 8)) (same (y - 1 - 8 * block) (omega arith))
        ∙ ap (λ row. pixel_of (slice_index bytes (row * row_bytes image.width + b)) ((x - 1) % 8)) (sym first)
        ∙ sym (pixel_is b x (8 * block + 1) in_byte (omega arith) (omega arith))

  -- one flag more
  pub steady_more : (flags now : List Bool) (flag : Bool) (place : ℕ) → length flags ≡ place → now ≡ flags ++ flag ∷ []
      → (flag ≡ true → IsSteady image (place / row_bytes image.width) (place % row_bytes image.width)) → AreSteady image flags → AreSteady image now
  steady_more flags now flag place count grown own steady n up =
      let is : slice_index_or (flags ++ flag ∷ []) n false ≡ true = subst (λ (now : List Bool). slice_index_or now n false ≡ true) grown up in
      by_lt_z (pos n) (pos place)
      (λ before. steady n (sym (get_or_append_left flags (flag ∷ []) false n (omega (arith, ints))) ∙ is))
      (λ late. let from : place ≤ n = omega (arith, ints) in at (n - place) refl (λ at_last. subst (λ m. IsSteady image (m / row_bytes image.width) (m % row_bytes image.width)) at_last (own (subst (λ m. slice_index_or (flag ∷ []) m false ≡ true) (let z : n - place ≡ 0 = omega arith in z) (sym (get_or-append_right flags (flag ∷ []) place n false count from) ∙ is)))) (sym (get_or-append_right flags (flag ∷ []) place n false count from) ∙ is) from)
    where
      at : (d : ℕ) → n - place ≡ d → (place ≡ n → IsSteady image (n / row_bytes image.width) (n % row_bytes image.width)) → slice_index_or (flag ∷ []) (n - place) false ≡ true → place ≤ n
          → IsSteady image (n / row_bytes image.width) (n % row_bytes image.width)
      at zero none here held from = here (omega arith)
      at (suc d) some here held from = absurd (let never : false ≡ true = subst (λ m. slice_index_or (flag ∷ []) m false ≡ true) some held in cc)

  -- a flag that is up by the bytes of the nine rows
  pub flagged : (bytes : List ℕ) → IsPackedOf image bytes → (place width : ℕ) → width ≡ row_bytes image.width → 8 * (place / width) + 9 ≤ image.height
      → ((d : ℕ) → d ≤ 8 → slice_index bytes ((8 * (place / width) + d) * width + place % width) ≡ slice_index bytes (8 * (place / width) * width + place % width))
      → IsSteady image (place / row_bytes image.width) (place % row_bytes image.width)
  flagged bytes packed place width is room same =
      let b = place % width in
      let held = steady_of bytes packed (place / width) b room (subst (λ w. (d : ℕ) → d ≤ 8 → slice_index bytes ((8 * (place / width) + d) * w + b) ≡ slice_index bytes (8 * (place / width) * w + b)) is same) in
      subst (λ w. IsSteady image (place / w) (place % w)) is held

  -- what the flag of a byte tells of its columns
  pub column_steady : (flags : List Bool) → AreSteady image flags → (width block x : ℕ) → width ≡ row_bytes image.width → 1 ≤ x → x ≤ image.width
      → slice_index_or flags (block * width + (x - 1) / 8) false ≡ true
      → (y : ℕ) → 8 * block + 1 ≤ y → y ≤ 8 * block + 9 → is_black_in image x y ≡ is_black_in image x (8 * block + 1)
  column_steady flags steady width block x is some within up y from to =
      let b = (x - 1) / 8 in
      let w = row_bytes image.width in
      let on : b < w = omega arith in
      let held = steady (block * w + b) (subst (λ w. slice_index_or flags (block * w + b) false ≡ true) is up) in
      let here : IsSteady image block b = subst (λ m. IsSteady image m b) (div-mul-add block w b on) (subst (λ m. IsSteady image ((block * w + b) / w) m) (mod-mul-add block w b on) held) in
      here x y (record { some = some; within = within; byte = refl }) from to

-- the last of the nine rows of a block is within the image
pub rows_within : (place bytes height : ℕ) → 1 ≤ bytes → place < (height - 1) / 8 * bytes → 8 * (place / bytes) + 9 ≤ height
rows_within place bytes height some on = let below : place / bytes < (height - 1) / 8 = (div-lt_iff_lt-mul some).1 on in omega arith

pub bytes_within : (place bytes height count : ℕ) → 1 ≤ bytes → place < (height - 1) / 8 * bytes → count ≡ height * bytes
    → (8 * (place / bytes) + 8) * bytes + bytes ≤ count
bytes_within place bytes height count some on is =
    let rows = rows_within place bytes height some on in
    let product : (8 * (place / bytes) + 9) * bytes ≤ height * bytes = mul-le (8 * (place / bytes) + 9) bytes height bytes rows (omega arith) in
    omega arith

-- ---- a line across

module _ (image : Pixels) (rows i b : ℕ) (side : Side) where
  -- eight sides more
  pub byte_more : (above below : ℕ) → ((i : ℕ) → i < 8 → is_black_in image (8 * b + i + 1) rows ≡ pixel_of above i)
      → ((i : ℕ) → i < 8 → is_black_in image (8 * b + i + 1) (rows + 1) ≡ pixel_of below i) → ((i : ℕ) → i < 8 → side_of (pixel_of above i) (pixel_of below i) ≡ side)
      → ((j : ℕ) → i ≤ j → j < 8 * b → side_at image (Across rows) j ≡ side) → (j : ℕ) → i ≤ j → j < 8 * (b + 1) → side_at image (Across rows) j ≡ side
  byte_more above below over under alike same j from to =
      by_lt_z (pos j) (pos (8 * b))
      (λ before. same j from (omega (arith, ints)))
      (λ late.
      let here : j + 1 ≡ 8 * b + (j - 8 * b) + 1 = omega (arith, ints) in
      let on : j - 8 * b < 8 = omega (arith, ints) in
      ap (λ x. side_of (is_black_in image x rows) (is_black_in image x (rows + 1))) here
      ∙ ap₂ side_of (over (j - 8 * b) on) (under (j - 8 * b) on)
      ∙ alike (j - 8 * b) on)

  -- up to the end of the last whole byte, and the first side in any case
  pub same_till : (until : ℕ) → side ≡ side_at image (Across rows) i → until ≡ max (i + 1) (8 * b) → ((j : ℕ) → i ≤ j → j < 8 * b → side_at image (Across rows) j ≡ side)
      → (j : ℕ) → i ≤ j → j < until → side_at image (Across rows) j ≡ side
  same_till until is until_is same j from to =
      by_lt_z (pos j) (pos (i + 1))
      (λ first. let here : j ≡ i = omega (arith, ints) in subst (λ j. side_at image (Across rows) j ≡ side) (sym here) (sym is))
      (λ late. same j from (omega (arith, ints)))

pub till_within : (until i b width : ℕ) → i < width → 8 * b ≤ width → until ≡ max (i + 1) (8 * b) → until ≤ width
till_within until i b width on whole is = subst (λ n. n ≤ width) (sym is) (let first : i + 1 ≤ width = omega arith in max-le first whole)

-- ---- a line up

module _ (image : Pixels) (x block y : ℕ) where
  -- a block of rows more
  pub rows_more : 1 ≤ block → ((z : ℕ) → 8 * (block - 1) + 1 ≤ z → z ≤ 8 * (block - 1) + 9 → is_black_in image x z ≡ is_black_in image x (8 * (block - 1) + 1))
      → 8 * block + 1 ≤ y → ((z : ℕ) → 8 * block + 1 ≤ z → z ≤ y → is_black_in image x z ≡ is_black_in image x y)
      → (z : ℕ) → 8 * (block - 1) + 1 ≤ z → z ≤ y → is_black_in image x z ≡ is_black_in image x y
  rows_more some steady within same z from to =
      by_lt_z (pos z) (pos (8 * block + 1))
      (λ below. steady z from (omega (arith, ints)) ∙ sym (steady (8 * block + 1) (omega arith) (omega arith)) ∙ same (8 * block + 1) (omega arith) within)
      (λ above. same z (omega (arith, ints)) to)

-- the sides of these rows are the same
pub same_up : (image : Pixels) (columns i block : ℕ) → i < image.height → 8 * block + 1 ≤ image.height - i
    → ((z : ℕ) → 8 * block + 1 ≤ z → z ≤ image.height - i → is_black_in image columns z ≡ is_black_in image columns (image.height - i))
    → ((z : ℕ) → 8 * block + 1 ≤ z → z ≤ image.height - i → is_black_in image (columns + 1) z ≡ is_black_in image (columns + 1) (image.height - i))
    → (j : ℕ) → i ≤ j → j < image.height - 8 * block → side_at image (Up columns) j ≡ side_at image (Up columns) i
same_up image columns i block on within left right j from to = ap₂ side_of (left (image.height - j) (omega arith) (omega arith)) (right (image.height - j) (omega arith) (omega arith))
