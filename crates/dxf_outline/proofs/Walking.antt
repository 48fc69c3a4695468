-- The drawing of pairs, one after another.
use Rattle.std.proofs.Common.{◌≡◌, ℕ, true, false, Ok, Err, refl}
use Rattle.dxf_outline.specs.Outline.{State, drawn_from, finished, headed, name_of}
use Rattle.dxf_outline.specs.Pairs.{Pair, Stream, Over, Broken, Next, has_code}
use Rattle.dxf_outline.specs.declared.fault.DxfFault.{DxfFault}

module _ (per_unit chord : ℕ) (state : State) where
  pub drawn_from-Over : drawn_from per_unit chord state Over ≡ finished state
  unfolding drawn_from
  drawn_from-Over = refl

  pub drawn_from-Broken : (fault : DxfFault) → drawn_from per_unit chord state (Broken fault) ≡ Err fault
  unfolding drawn_from
  drawn_from-Broken fault = refl

  -- a pair of another code than 0
  pub drawn_from-other : (pair : Pair) (rest : Stream) → has_code 0 pair ≡ false → drawn_from per_unit chord state (Next pair rest) ≡ drawn_from per_unit chord state rest
  unfolding drawn_from
  drawn_from-other pair rest other = rw other refl

  -- a pair of code 0, and what it leads to
  pub drawn_from-Ok : (pair : Pair) (rest : Stream) (next : State) → has_code 0 pair ≡ true → headed per_unit chord state pair.at (name_of pair.value) rest ≡ Ok next → drawn_from per_unit chord state (Next pair rest) ≡ drawn_from per_unit chord next rest
  unfolding drawn_from
  drawn_from-Ok pair rest next head is = rw (head, is) refl

  pub drawn_from-Err : (pair : Pair) (rest : Stream) (fault : DxfFault) → has_code 0 pair ≡ true → headed per_unit chord state pair.at (name_of pair.value) rest ≡ Err fault → drawn_from per_unit chord state (Next pair rest) ≡ Err fault
  unfolding drawn_from
  drawn_from-Err pair rest fault head is = rw (head, is) refl
