-- When the pieces of the edges can't be counted.
use Rattle.std.specs.Prelude.{ℕ, List}
use Rattle.plane_exact.specs.declared.point.Seg.{Seg}
use Rattle.tangent_disc.specs.Contacts.{IsFirstTooFine}
use Rattle.tangent_disc.specs.declared.contact.ContactFault.{ContactFault}
use Rattle.tangent_disc.specs.declared.contact.ContactFault.TheVariants.{StepTooFine, TooMany, Memory}

-- an edge is divided too fine, and is the first that is; or out of memory
abbrev pub IsPiecesFault : List Seg → ℕ → ContactFault → Type 0
IsPiecesFault edges step (StepTooFine e) = IsFirstTooFine edges step e
IsPiecesFault edges step TooMany = ⊥
IsPiecesFault edges step Memory = Unit {0}
