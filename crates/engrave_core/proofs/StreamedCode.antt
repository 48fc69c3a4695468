-- A stored program that is read piece by piece: where the reading stands in its file.
use Rattle.std.proofs.Common.{◌≡◌, ℕ, List, [], length, Option, None, Some, IfSome, refl}
use Rattle.shop_port.specs.Loading.{IsFront}

-- as far as a place in the file: the bytes before it, and what was made of them
pub record IsReadTo (file : Option (List ℕ)) (at : ℕ) (IsMade : List ℕ → Type 0) : Type 0 where
  pub bytes : List ℕ
  pub length_is : at ≡ length bytes
  pub front : IsFront file bytes
  pub made : IsMade bytes

none_yet : (file : Option (List ℕ)) → IsFront file []
none_yet None = refl
none_yet (Some file) = refl

-- before the first byte, whatever the depot holds
pub at_start : (held : Option (List ℕ → Option (List ℕ))) (name : List ℕ) (IsMade : List ℕ → Type 0) → IsMade [] → IfSome held (λ files. IsReadTo (files name) 0 IsMade)
at_start None name IsMade made = tt
at_start (Some files) name IsMade made = record { bytes = []; length_is = refl; front = none_yet (files name); made = made }
