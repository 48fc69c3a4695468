-- Where chains end.
use Rattle.std.proofs.Common.{◌≡◌, ℕ, zero, suc, ◌+◌, List, [], ◌∷◌, length, get_or, arith, refl}
use Rattle.plane_exact.specs.Nodes.{GridNode, last_place}

pub last_is : (nodes : List GridNode) (i : ℕ) (d : GridNode) → i + 1 ≡ length nodes → (get_or nodes i d).at ≡ last_place nodes
last_is [] i d last = absurd (omega arith)
last_is (node ∷ []) zero d last = refl
last_is (node ∷ []) (suc i) d last = absurd (omega arith)
last_is (node ∷ next ∷ nodes) zero d last = absurd (omega arith)
last_is (node ∷ next ∷ nodes) (suc i) d last = last_is (next ∷ nodes) i d (omega arith)
