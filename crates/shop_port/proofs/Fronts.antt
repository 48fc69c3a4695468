-- Bytes that are the front of a file, and the next piece behind them; a text that is appended piece by piece.
use Rattle.std.proofs.Common.{◌≡◌, ◌≤◌, ◌<◌, ◌+◌, ◌-◌, ℕ, List, ◌++◌, length, take, drop, Option, None, Some, IfSome, Ok, ◌∙◌, ap, sym, arith, length-append, length-take, length-drop, append_assoc}
use Rattle.std.proofs.Math.Seq.{take-add}
use Rattle.std.proofs.lemmas.Bool.Decides.{nat_tests}
use Rattle.std.proofs.lemmas.List.{take_all, take_rest, take-append-le}
use Rattle.shop_port.specs.Files.{IfGot, IsPieceOf}
use Rattle.shop_port.specs.Loading.{GoesOn, IsFront, file_within}
use Rattle.shop_port.specs.Output.{Appended}
use Rattle.shop_port.specs.declared.depot.Fetch.{Fetch}
use Rattle.shop_port.specs.declared.depot.Fetch.TheVariants.{Got}

-- one part behind the other: n bytes from i on, out of all that are left there
pub appended_more : (a b c : Option (List ℕ)) (bytes : List ℕ) (i n : ℕ) → Appended a b (take i bytes) → Appended b c (take n (take (length bytes - i) (drop i bytes))) → Appended a c (take (i + n) bytes)
appended_more a b None bytes i n first second = tt
appended_more a None (Some c) bytes i n first second = absurd second
appended_more None (Some b) (Some c) bytes i n first second = absurd first
appended_more (Some a) (Some b) (Some c) bytes i n first second =
    let later : c ≡ b ++ take n (drop i bytes) = rw take_rest at second in
    rw (take-add i n bytes) (rw later (rw first (append_assoc a (take i bytes) (take n (drop i bytes)))))

-- such a part ends within the bytes
pub more_within : (bytes : List ℕ) (i n : ℕ) → i ≤ length bytes → n ≤ length (take (length bytes - i) (drop i bytes)) → i + n ≤ length bytes
more_within bytes i n within more = omega (arith, within, rw take_rest at more, length-drop i bytes)

-- ---- the next piece of a file

not_long : (cap : ℕ) (file : List ℕ) → length file ≤ cap → file_within cap (Some file) ≡ Ok file
not_long cap file within = grind (arith, nat_tests)

-- at its end the front is all of the file
whole : (file bytes : List ℕ) → take (length bytes) file ≡ bytes → length file ≤ length bytes → file ≡ bytes
whole file bytes front all = sym (take_all (length bytes) file all) ∙ front

-- read to a buffer of which the rest stays
goes_on : (cap : ℕ) (file : Option (List ℕ)) (bytes into rest : List ℕ) (at n : ℕ) → at ≡ length bytes → at ≤ cap → IsFront file bytes → IsPieceOf file at into (Got n) → n ≤ length into → 0 < length into → GoesOn cap file bytes (into ++ rest) n
goes_on cap None bytes into rest at n there under front piece within some = absurd piece
goes_on cap (Some file) bytes into rest at n there under front piece within some =
    let same : take n into ≡ take n (drop (length bytes) file) = rw (← there) piece.same in
    let len : length (bytes ++ take n into) ≡ length bytes + n = simp (length-append, length-take) (omega arith) in
    record {
      front = rw (take-append-le n into rest within) (rw len (take-add (length bytes) n file ∙ cc (front, same)));
      end = λ none. let is = whole file bytes front (omega (arith, piece.some some none)) in not_long cap file (omega (arith, piece.some some none)) ∙ ap Ok is;
    }

-- the same at a depot of which what it holds may not be known
pub goes_on_known : (held : Option (List ℕ → Option (List ℕ))) (name : List ℕ) (cap : ℕ) (into rest : List ℕ) (at n : ℕ) (fetch : Fetch) → fetch ≡ Got n → at ≤ cap → 0 < length into → IfSome held (λ files. IsPieceOf (files name) at into fetch) → IfGot fetch (λ n. n ≤ length into) → IfSome held (λ files. (bytes : List ℕ) → at ≡ length bytes → IsFront (files name) bytes → GoesOn cap (files name) bytes (into ++ rest) n)
goes_on_known None name cap into rest at n fetch got under some piece within = tt
goes_on_known (Some files) name cap into rest at n fetch got under some piece within =
    λ bytes there front. goes_on cap (files name) bytes into rest at n there under front (rw got at piece) (rw got at within) some
