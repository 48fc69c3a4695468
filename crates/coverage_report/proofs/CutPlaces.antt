-- Which points of a row one move removes, by the numbers of its places.
use Rattle.std.specs.Prelude.{◌↔◌, ◌⊎◌, ℤ, pos, ◌+ℤ◌, ◌-ℤ◌, ◌≤ℤ◌, unsigned_abs}
use Rattle.std.proofs.Common.{◌≡◌, ℕ, ◌+◌, ◌-◌, ◌*◌, ◌/◌, ◌<◌, ◌≤◌, Bool, true, false, cond, min, List, arith, ap, refl, subst, sym, ◌∙◌, inl, inr, mul-le-mul_right}
use Rattle.std.proofs.Math.Nat.{le-div_iff_mul-le}
use Rattle.std.proofs.lemmas.Bool.{cases_lt}
use Rattle.std.proofs.lemmas.Bool.Decides.{nat_tests}
use Rattle.std.proofs.lemmas.Int.{by_lt_z, ints}
use Rattle.plane_exact.specs.Cone.{Cone}
use Rattle.plane_exact.specs.Plane.{rational}
use Rattle.plane_exact.specs.declared.moves.Move.{Move}
use Rattle.engrave_model.specs.Removal.{Removes}
use Rattle.evenodd_region.specs.RowBits.{IsSetIn, bit_in, is_between, point_of_row}
use Rattle.depth_rule.proofs.Multiples.{natural_of}
use Rattle.coverage_report.specs.Cuts.{AreBelow, IsFilled, IsRowCutBy}
use Rattle.swept_move.specs.Row.{IsRowCut, IsRowSpared}
use Rattle.coverage_report.specs.Rows.{PointRow}

-- ---- how many places are below a bound

pub none_below : (first bound : ℤ) (pitch count : ℕ) → bound ≤ℤ first → AreBelow first pitch count bound 0
none_below first bound pitch count low = record { few = omega arith; are = λ i within. ((λ below. absurd (omega arith)), (λ less. absurd (omega (arith, ints)))) }

-- by how far the bound is from the first place
pub below_are : (first bound : ℤ) (pitch count way below : ℕ) → 1 ≤ pitch → bound ≡ first +ℤ pos way → below ≡ min ((way + pitch - 1) / pitch) count
    → AreBelow first pitch count bound below
below_are first bound pitch count way below apart at is = record {
  few = omega arith;
  are = λ i within.
      let places : (i + 1 ≤ (way + pitch - 1) / pitch) ↔ ((i + 1) * pitch ≤ way + pitch - 1) = le-div_iff_mul-le apart in
      let next : (i + 1) * pitch ≡ i * pitch + pitch = omega arith in (
        (λ less. let low = places.0 (omega arith) in omega (arith, ints)),
        (λ less. let near : i * pitch < way = omega (arith, ints) in let low = places.1 (omega arith) in omega arith),
      );
}

-- ---- the points of a row

between_at : (start from end i : ℕ) → is_between (64 * start + from) (64 * start + end) (64 * start + i) ≡ true → (from ≤ i) × (i < end)
between_at start from end i is = (grind (arith, nat_tests), grind (arith, nat_tests))

at_between : (start from end i : ℕ) → from ≤ i → i < end → is_between (64 * start + from) (64 * start + end) (64 * start + i) ≡ true
at_between start from end i low high = grind (arith, nat_tests)

module _ (cone : Cone) (mv : Move) (row : PointRow) (start : ℕ) where
  -- it removes none of them
  pub none_cut : (words : List ℕ) → IsRowSpared cone mv row.y row.x (row.x +ℤ pos ((row.count - 1) * row.pitch)) → IsRowCutBy cone mv row start words words
  none_cut words spared = record {
    here = λ i within.
        let short : i * row.pitch ≤ (row.count - 1) * row.pitch = mul-le-mul_right row.pitch (omega arith) in (
          (λ set. inl set),
          (λ either. elim either [ inl set ↦ set | inr removes ↦ absurd (spared (row.x +ℤ pos (i * row.pitch)) (omega (arith, ints)) (omega (arith, ints)) removes) ]),
        );
    others = λ j out. refl;
  }

  module _ (low high : ℤ) (cut : IsRowCut cone mv row.y row.x (row.x +ℤ pos ((row.count - 1) * row.pitch)) low high)
      (from end : ℕ) (below : AreBelow row.x row.pitch row.count low from) (through : AreBelow row.x row.pitch row.count (high +ℤ pos 1) end) where
    -- those between are removed, and no others
    removed_at : (i : ℕ) → i < row.count → from ≤ i → i < end → Removes cone mv (rational (point_of_row row.y row.x row.pitch i))
    removed_at i within above under =
        let less = (through.are i within).0 under in
        let x = row.x +ℤ pos (i * row.pitch) in
        cut.removes x (by_lt_z x low (λ small. (let early = (below.are i within).1 small in absurd (omega arith))) (λ large. large)) (omega (arith, ints))

    at_removed : (i : ℕ) → i < row.count → Removes cone mv (rational (point_of_row row.y row.x row.pitch i)) → (from ≤ i) × (i < end)
    at_removed i within removes =
        let short : i * row.pitch ≤ (row.count - 1) * row.pitch = mul-le-mul_right row.pitch (omega arith) in
        let x = row.x +ℤ pos (i * row.pitch) in
        let least = cut.first_least x (omega (arith, ints)) (omega (arith, ints)) removes in
        let greatest = cut.last_greatest x (omega (arith, ints)) (omega (arith, ints)) removes in (
          elim (cases_lt i from) [ inl early ↦ (let less = (below.are i within).0 early in absurd (omega (arith, ints))) | inr behind ↦ behind ],
          (through.are i within).1 (omega (arith, ints)),
        )

    -- the points that it removes came to those that are cut
    pub points_cut : (old new : List ℕ) → IsFilled (is_between (64 * start + from) (64 * start + end)) old new → IsRowCutBy cone mv row start old new
    points_cut old new filled = record {
      here = λ i within. at i within (is_between (64 * start + from) (64 * start + end) (64 * start + i)) refl;
      others = λ j out.
          let few = through.few in
          let beside : is_between (64 * start + from) (64 * start + end) j ≡ false = (elim out [ inl low ↦ grind (arith, nat_tests) | inr high ↦ grind (arith, nat_tests) ]) in
          filled.bits j ∙ ap (λ b. cond b 1 (bit_in old j)) beside;
    }
      where
        at : (i : ℕ) → i < row.count → (here : Bool) → is_between (64 * start + from) (64 * start + end) (64 * start + i) ≡ here
            → IsSetIn new (64 * start + i) ↔ (IsSetIn old (64 * start + i) ⊎ Removes cone mv (rational (point_of_row row.y row.x row.pitch i)))
        at i within true here =
            let set : IsSetIn new (64 * start + i) = filled.bits (64 * start + i) ∙ ap (λ b. cond b 1 (bit_in old (64 * start + i))) here in
            let between = between_at start from end i here in
            ((λ now. inr (removed_at i within between.0 between.1)), (λ either. set))
        at i within false here =
            let same : bit_in new (64 * start + i) ≡ bit_in old (64 * start + i) = filled.bits (64 * start + i) ∙ ap (λ b. cond b 1 (bit_in old (64 * start + i))) here in (
              (λ now. inl (sym same ∙ now)),
              (λ either. elim either [
                | inl was ↦ same ∙ was
                | inr removes ↦
                    let between = at_removed i within removes in
                    let set = at_between start from end i between.0 between.1 in absurd (grind (arith, nat_tests))
              ]),
            )

-- ---- as the code reads them

-- by the difference of the bound and the first place
pub below_read : (first bound z : ℤ) (pitch count p q n below : ℕ) → 1 ≤ pitch → below ≡ min ((unsigned_abs z + p - 1) / q) n → p ≡ pitch → q ≡ pitch → n ≡ count
    → z ≡ bound -ℤ first → pos 0 ≤ℤ z → AreBelow first pitch count bound below
below_read first bound z pitch count p q n below apart is p_is q_is n_is difference up =
    let way = natural_of z up in
    let way_is = way.is in
    below_are first bound pitch count way.number below apart (omega (arith, ints))
    (is ∙ ap (λ z. min ((unsigned_abs z + p - 1) / q) n) way_is ∙ ap (λ p. min ((way.number + p - 1) / q) n) p_is ∙ ap (λ q. min ((way.number + pitch - 1) / q) n) q_is
    ∙ ap (min ((way.number + pitch - 1) / pitch)) n_is)

pub read_below : (first bound : ℤ) (pitch count : ℕ) (f b : ℤ) (p n below : ℕ) → AreBelow f p n b below → f ≡ first → p ≡ pitch → n ≡ count → b ≡ bound
    → AreBelow first pitch count bound below
read_below first bound pitch count f b p n below are f_is p_is n_is b_is =
    subst (λ f. AreBelow f pitch count bound below) f_is (subst (λ p. AreBelow f p count bound below) p_is
    (subst (λ n. AreBelow f p n bound below) n_is (subst (λ b. AreBelow f p n b below) b_is are)))

pub read_row : (P : (y x last : ℤ) → Type 0) (y x last y0 x0 l : ℤ) → P y0 x0 l → y0 ≡ y → x0 ≡ x → l ≡ last → P y x last
read_row P y x last y0 x0 l so y_is x_is l_is = subst (λ y. P y x last) y_is (subst (λ x. P y0 x last) x_is (subst (P y0 x0) l_is so))
