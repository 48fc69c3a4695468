-- What a read of a file finds.
use Rattle.std.specs.Prelude.{◌≡◌, ◌≤◌, ◌<◌, ◌-◌, ℕ, List, length, take, drop, Option, None, Some, String, Vec, option_map, Result, Ok, Err}
use Rattle.std.specs.BTreeMap.{BTreeMap, get_by_text}
use Rattle.shop_port.specs.Counts.{one_more}
use Rattle.shop_port.specs.declared.depot.Failed.{Failed}
use Rattle.shop_port.specs.declared.depot.Fetch.{Fetch}
use Rattle.shop_port.specs.declared.depot.Fetch.TheVariants.{Got, Absent}

-- P of the count, if there is such a file
abbrev pub IfGot : Fetch → (ℕ → Type 0) → Type 0
IfGot (Got n) P = P n
IfGot Absent P = Unit {0}

-- P, if there is no such file
abbrev pub IfAbsent : Fetch → Type 0 → Type 0
IfAbsent (Got n) P = Unit {0}
IfAbsent Absent P = P

-- the first n bytes of the buffer are those of the file from the offset on
pub record HasPiece (file : List ℕ) (at n : ℕ) (into : List ℕ) : Type 0 where
  pub same : take n into ≡ take n (drop at file)
  pub left : n ≤ length file - at
  -- where there is room, none come only at the end of the file
  pub some : 0 < length into → n ≡ 0 → length file ≤ at

-- a name is absent exactly where it holds no file
abbrev pub IsPieceOf : Option (List ℕ) → ℕ → List ℕ → Fetch → Type 0
IsPieceOf (Some file) at into (Got n) = HasPiece file at n into
IsPieceOf (Some file) at into Absent = ⊥
IsPieceOf None at into (Got n) = ⊥
IsPieceOf None at into Absent = Unit {0}

-- the count of missed names, one more where the name was absent
abbrev pub missed_after : Result Fetch Failed → ℕ → ℕ
missed_after (Ok Absent) missed = one_more missed
missed_after (Ok (Got n)) missed = missed
missed_after (Err failed) missed = missed

-- the bytes under each name, by the name's bytes
abbrev pub files_of : {A B : Type 0} → BTreeMap (String A) (Vec ℕ B) → List ℕ → Option (List ℕ)
files_of files name = option_map (λ file. file.items) (get_by_text files name)
