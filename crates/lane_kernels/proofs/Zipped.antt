-- A list whose front was joined with that of another, element by element.
use Rattle.std.proofs.Common.{◌≡◌, ℕ, zero, suc, ◌+◌, ◌≤◌, ◌<◌, List, [], ◌∷◌, ◌++◌, length, take, drop, set, refl, sym, ap, ap₂, ◌∙◌, arith, slice_index_or, append_assoc, append-nil, length-append, ◌-◌}
use borrow.Rule.Slice.PartMut.{put_mid}
use Rattle.std.specs.Simd.Lanes.{chunk, put_chunk, zip2}
use Rattle.std.proofs.lemmas.List.{length-take-le, length-drop, drop_at, take_at, drop-drop, drop-take, take-take, set_at, get_or_at, drop_more, drop_all, take_rest}
use Rattle.std.proofs.lemmas.Simd.{length-zip2, put_chunk_is}

module _ {X : Type 0} (f : X → X → X) where
  -- the two parts, joined apart
  pub zip2_split : (at : ℕ) (xs ys : List X) → length xs ≡ length ys → zip2 f xs ys ≡ zip2 f (take at xs) (take at ys) ++ zip2 f (drop at xs) (drop at ys)
  zip2_split zero xs ys same = refl
  zip2_split (suc at) [] ys same = refl
  zip2_split (suc at) (x ∷ xs) [] same = absurd (omega (arith, same))
  zip2_split (suc at) (x ∷ xs) (y ∷ ys) same = ap (λ l. f x y ∷ l) (zip2_split at xs ys (omega (arith, same)))

  -- the elements before the one at `at` are joined
  abbrev pub joined_to : ℕ → List X → List X → List X
  joined_to at xs ys = zip2 f (take at xs) (take at ys) ++ drop at xs

  module _ (at : ℕ) (xs ys now : List X) (same : length xs ≡ length ys) (is : now ≡ joined_to at xs ys) (inside : at ≤ length xs) where
    length_front : length (zip2 f (take at xs) (take at ys)) ≡ at
    length_front =
        let l = length-take-le at xs inside in
        let m = length-take-le at ys (omega (arith, same, inside)) in
        length-zip2 f (take at xs) (take at ys) (l ∙ sym m) ∙ l

    -- what isn't joined yet
    pub still : drop at now ≡ drop at xs
    still = ap (drop at) is ∙ drop_at (zip2 f (take at xs) (take at ys)) (drop at xs) at length_front

    front_still : take at now ≡ zip2 f (take at xs) (take at ys)
    front_still = ap (take at) is ∙ take_at (zip2 f (take at xs) (take at ys)) (drop at xs) at length_front

    joined_more : (n : ℕ) → at + n ≤ length xs → joined_to (at + n) xs ys ≡ zip2 f (take at xs) (take at ys) ++ (zip2 f (take n (drop at xs)) (take n (drop at ys)) ++ drop n (drop at xs))
    joined_more n room =
        let front = zip2_split at (take (at + n) xs) (take (at + n) ys) (length-take-le (at + n) xs room ∙ sym (length-take-le (at + n) ys (omega (arith, same, room)))) in
        let fits : at ≤ at + n = omega arith in
        ap (λ l. l ++ drop (at + n) xs) (rw (take-take at (at + n) xs fits, take-take at (at + n) ys fits, drop-take at n xs, drop-take at n ys) at front)
        ∙ append_assoc (zip2 f (take at xs) (take at ys)) (zip2 f (take n (drop at xs)) (take n (drop at ys))) (drop (at + n) xs)
        ∙ ap (λ l. zip2 f (take at xs) (take at ys) ++ (zip2 f (take n (drop at xs)) (take n (drop at ys)) ++ l)) (sym (drop-drop n at xs))

    -- a part more
    pub joined_chunk : (n : ℕ) → at + n ≤ length xs → put_chunk at now (zip2 f (chunk at n now) (chunk at n ys)) ≡ joined_to (at + n) xs ys
    joined_chunk n room =
        let part = zip2 f (take n (drop at xs)) (take n (drop at ys)) in
        let left : length (take n (drop at xs)) ≡ n = length-take-le n (drop at xs) (omega (arith, room, length-drop at xs)) in
        let right : length (take n (drop at ys)) ≡ n = length-take-le n (drop at ys) (omega (arith, room, same, length-drop at ys)) in
        let long : length part ≡ n = length-zip2 f (take n (drop at xs)) (take n (drop at ys)) (left ∙ sym right) ∙ left in
        let whole : length now ≡ length xs = omega (arith, ap length is, length-append (zip2 f (take at xs) (take at ys)) (drop at xs), length_front, length-drop at xs, inside) in
        ap (λ l. put_chunk at now (zip2 f (take n l) (take n (drop at ys)))) still
        ∙ put_chunk_is at now part (omega (arith, long, whole, room))
        ∙ ap₂ (λ l r. l ++ (part ++ drop (length part) r)) front_still still
        ∙ ap (λ k. zip2 f (take at xs) (take at ys) ++ (part ++ drop k (drop at xs))) long
        ∙ sym (joined_more n room)

    -- one more
    pub joined_next : (d v : X) → at < length xs → v ≡ f (slice_index_or now at d) (slice_index_or ys at d) → set now at v ≡ joined_to (at + 1) xs ys
    joined_next d v room e =
        let front = zip2 f (take at xs) (take at ys) in
        let x = slice_index_or xs at d in
        let back = drop (at + 1) xs in
        let split : now ≡ front ++ x ∷ back = is ∙ ap (λ l. front ++ l) (drop_more xs at d room) in
        let here : slice_index_or now at d ≡ x = ap (λ l. slice_index_or l at d) split ∙ get_or_at front x back d at length_front in
        ap (λ l. set l at v) split
        ∙ set_at front x back v at length_front
        ∙ ap (λ a. front ++ a ∷ back) (e ∙ ap (λ a. f a (slice_index_or ys at d)) here)
        ∙ sym (joined_more 1 (omega (arith, room)) ∙ rw (drop_more xs at d room, drop_more ys at d (omega (arith, room, same))) refl)

  -- the rest, joined apart
  pub joined_rest : (at : ℕ) (xs ys now : List X) → length xs ≡ length ys → now ≡ joined_to at xs ys → at ≤ length xs
      → take at now ++ zip2 f (drop at now) (drop at ys) ≡ zip2 f xs ys
  joined_rest at xs ys now same is inside =
      ap₂ (λ l r. l ++ zip2 f r (drop at ys)) (front_still at xs ys now same is inside) (still at xs ys now same is inside)
      ∙ sym (zip2_split at xs ys same)

  -- the same where the rest is a part that was lent out
  pub joined_part : (at : ℕ) (xs ys now part : List X) → length xs ≡ length ys → now ≡ joined_to at xs ys → at ≤ length xs
      → part ≡ zip2 f (take (length now - at) (drop at now)) (take (length ys - at) (drop at ys)) → put_mid at (length now - at) now part ≡ zip2 f xs ys
  joined_part at xs ys now part same is inside e =
      ap (λ l. take at now ++ (l ++ drop (length now - at) (drop at now))) (rw (take_rest now at, take_rest ys at) at e)
      ∙ ap (λ l. take at now ++ (zip2 f (drop at now) (drop at ys) ++ l)) (drop_all (length now - at) (drop at now) (omega (arith, length-drop at now)))
      ∙ ap (λ l. take at now ++ l) (append-nil (zip2 f (drop at now) (drop at ys)))
      ∙ joined_rest at xs ys now same is inside
