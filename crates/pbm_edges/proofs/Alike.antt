-- Sides that are the same, and where runs begin.
use Rattle.std.proofs.Common.{◌≡◌, ◌≢◌, true, false, refl}
use Rattle.pbm_edges.specs.Boundary.{begins, same_side}
use Rattle.pbm_edges.specs.declared.side.Side.{Side}
use Rattle.pbm_edges.specs.declared.side.Side.TheVariants.{Level, Onward, Back}

pub same_side-true : (s t : Side) → same_side s t ≡ true → t ≡ s
same_side-true Level Level is = refl
same_side-true Onward Onward is = refl
same_side-true Back Back is = refl
same_side-true Level Onward is = absurd (cc)
same_side-true Level Back is = absurd (cc)
same_side-true Onward Level is = absurd (cc)
same_side-true Onward Back is = absurd (cc)
same_side-true Back Level is = absurd (cc)
same_side-true Back Onward is = absurd (cc)

pub same_side-false : (s t : Side) → same_side s t ≡ false → t ≢ s
same_side-false Level Level is = absurd (cc)
same_side-false Onward Onward is = absurd (cc)
same_side-false Back Back is = absurd (cc)
same_side-false Level Onward is = λ same. absurd (cc)
same_side-false Level Back is = λ same. absurd (cc)
same_side-false Onward Level is = λ same. absurd (cc)
same_side-false Onward Back is = λ same. absurd (cc)
same_side-false Back Level is = λ same. absurd (cc)
same_side-false Back Onward is = λ same. absurd (cc)

pub begins_boundary : (before side : Side) → begins before side ≡ true → side ≢ Level
begins_boundary before Level is = absurd (cc)
begins_boundary before Onward is = λ same. absurd (cc)
begins_boundary before Back is = λ same. absurd (cc)

pub begins_differs : (before side : Side) → begins before side ≡ true → before ≢ side
begins_differs before Level is = absurd (cc)
begins_differs Level Onward is = λ same. absurd (cc)
begins_differs Onward Onward is = absurd (cc)
begins_differs Back Onward is = λ same. absurd (cc)
begins_differs Level Back is = λ same. absurd (cc)
begins_differs Onward Back is = λ same. absurd (cc)
begins_differs Back Back is = absurd (cc)
