-- What is kept of chains that come in turn.
use Rattle.std.proofs.Common.{Bool, List, [], ◌++◌, refl, subst, sym, append_assoc, append-nil}
use Rattle.plane_exact.specs.Nodes.{GridNode}
use Rattle.engrave_model.specs.Lists.{AreJoined}
use Rattle.cleanup_pocket.specs.Kept.{IsGrown, IsKept}

module _ (kept : List (List GridNode)) (has_more : Bool) where
  pub none_added : (Part : List (List GridNode) → Type 0) → Part [] → IsGrown Part kept has_more kept has_more
  none_added Part is = record { part = []; is = is; grown = λ all here. subst (λ l. IsKept l kept has_more) (sym (append-nil all)) here }

  -- some, and then others
  pub both_added : (First Second : List (List GridNode) → Type 0) (kept' kept'' : List (List GridNode)) (more more' : Bool)
      → IsGrown First kept has_more kept' more → IsGrown Second kept' more kept'' more' → IsGrown (AreJoined First Second) kept has_more kept'' more'
  both_added First Second kept' kept'' more more' one other = record {
    part = one.part ++ other.part;
    is = record { first = one.part; second = other.part; joined = refl; is_first = one.is; is_second = other.is };
    grown = λ all here. subst (λ l. IsKept l kept'' more') (append_assoc all one.part other.part) (other.grown (all ++ one.part) (one.grown all here));
  }

  pub same_added : (First Second : List (List GridNode) → Type 0) → ((part : List (List GridNode)) → First part → Second part) → (kept' : List (List GridNode)) (more : Bool)
      → IsGrown First kept has_more kept' more → IsGrown Second kept has_more kept' more
  same_added First Second so kept' more one = record { part = one.part; is = so one.part one.is; grown = one.grown }
