-- What loading a file answers.
use Rattle.std.specs.Prelude.{◌≡◌, ℕ, List, [], ◌++◌, length, take, if◌then◌else◌, nat_lt, Option, None, Some, Result, Ok, Err}
use Rattle.shop_port.specs.declared.loading.LoadFault.{LoadFault}
use Rattle.shop_port.specs.declared.loading.LoadFault.TheVariants.{Absent, ReadFault, TooLong, Memory}

-- the bytes of a file of up to cap bytes, or what refuses it
abbrev pub file_within : ℕ → Option (List ℕ) → Result (List ℕ) LoadFault
file_within cap None = Err Absent
file_within cap (Some file) = if nat_lt cap (length file) then Err TooLong else Ok file

-- the answer is the expected one, or a read failed, or memory ran out
abbrev pub IsExpected : {V : Type 0} → (V → List ℕ) → Result (List ℕ) LoadFault → Result V LoadFault → Type 0
IsExpected bytes expected (Ok v) = expected ≡ Ok (bytes v)
IsExpected bytes expected (Err Absent) = expected ≡ Err Absent
IsExpected bytes expected (Err TooLong) = expected ≡ Err TooLong
IsExpected bytes expected (Err ReadFault) = Unit {0}
IsExpected bytes expected (Err Memory) = Unit {0}

-- the answer is the expected one, or memory ran out
abbrev pub IsExpectedOrMemory : {V : Type 0} → (V → List ℕ) → Result (List ℕ) LoadFault → Result V LoadFault → Type 0
IsExpectedOrMemory bytes expected (Ok v) = expected ≡ Ok (bytes v)
IsExpectedOrMemory bytes expected (Err Absent) = expected ≡ Err Absent
IsExpectedOrMemory bytes expected (Err TooLong) = expected ≡ Err TooLong
IsExpectedOrMemory bytes expected (Err ReadFault) = ⊥
IsExpectedOrMemory bytes expected (Err Memory) = Unit {0}

-- the bytes are the front of the file
abbrev pub IsFront : Option (List ℕ) → List ℕ → Type 0
IsFront None bytes = bytes ≡ []
IsFront (Some file) bytes = take (length bytes) file ≡ bytes

-- n bytes came at the front of the buffer, behind those that are the front of the file; none only at its end
pub record GoesOn (cap : ℕ) (file : Option (List ℕ)) (bytes into : List ℕ) (n : ℕ) : Type 0 where
  pub front : IsFront file (bytes ++ take n into)
  pub end : n ≡ 0 → file_within cap file ≡ Ok bytes

-- the next piece of a file, or what refuses it
abbrev pub IsNextPiece : ℕ → Option (List ℕ) → (bytes into : List ℕ) → Result ℕ LoadFault → Type 0
IsNextPiece cap file bytes into (Ok n) = GoesOn cap file bytes into n
IsNextPiece cap file bytes into (Err Absent) = file_within cap file ≡ Err Absent
IsNextPiece cap file bytes into (Err TooLong) = file_within cap file ≡ Err TooLong
IsNextPiece cap file bytes into (Err ReadFault) = Unit {0}
IsNextPiece cap file bytes into (Err Memory) = ⊥
