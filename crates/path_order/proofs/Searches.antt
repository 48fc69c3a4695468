-- A search for the nearest entry, node by node.
use Rattle.std.proofs.Common.{◌≡◌, ◌≢◌, ℕ, ◌+◌, ◌-◌, ◌<◌, ◌≤◌, inl, inr, ℤ, ◌≤ℤ◌, ◌<ℤ◌, List, length, get_or, Option, None, Some, leb, rules, arith, refl, sym, ap, ◌∙◌, subst}
use Rattle.std.specs.Prelude.{IsTrue}
use Rattle.std.proofs.lemmas.Bool.{cases_lt}
use Rattle.std.proofs.lemmas.Int.{ints}
use Rattle.std.proofs.lemmas.Option.{none-some, same_Some}
use Rattle.integer_algebra.proofs.Order.{by_order}
use Rattle.plane_exact.specs.Plane.{GridPoint}
use Rattle.plane_exact.specs.Product.{dot_of}
use Rattle.path_order.specs.Order.{IsBefore}
use Rattle.path_order.specs.Extents.{Holds}
use Rattle.path_order.specs.Found.{IsKnown, IsNearestOf, IsNoLater}
use Rattle.path_order.specs.Index.{AreChildren, IsBelow, IsIndex}
use Rattle.path_order.specs.declared.entry.Entry.{Entry}
use Rattle.path_order.specs.declared.extent.Extent.{Extent}
use Rattle.path_order.specs.declared.found.Found.{Found}
use Rattle.path_order.proofs.Indexes.{halved_child, halved_leaf, node_holds}

-- being before goes on
before_on : (l m n : ℤ) (i j k : ℕ) → IsBefore l i m j → IsBefore m j n k → IsBefore l i n k
before_on l m n i j k one two =
    elim one [
      | inl less ↦ inl (elim two [ inl more ↦ omega (arith, ints) | inr same ↦ (let e = same.0 in omega (arith, ints)) ])
      | inr same ↦ (let e = same.0 in let low = same.1 in elim two [ inl more ↦ inl (omega (arith, ints)) | inr again ↦ (let f = again.0 in let high = again.1 in inr (e ∙ f, omega arith)) ])
    ]

-- one of two comes before the other
other_before : (m n : ℤ) (i j : ℕ) → ¬ IsBefore m i n j → IsBefore n j m i
other_before m n i j none =
    by_order m n (λ less. absurd (none (inl less)))
    (λ same. elim (cases_lt j i) [ inl below ↦ inr (sym same, omega arith) | inr above ↦ absurd (none (inr (same, above))) ])
    (λ more. inl more)

-- what isn't nearer than a box comes after what is nearer than the box
pub farther : (way least other : ℤ) (i j : ℕ) → way <ℤ least → least ≤ℤ other → IsBefore way i other j
farther way least other i j less far = inl (omega (arith, ints))

-- the code's test of two numbers, passed
pub passed : (i j : ℕ) → IsTrue (leb i j) → i ≤ j
passed i j t = search rules

-- what is as near as a box and has no greater number comes before what is in the box
pub as_far : (way least other : ℤ) (i low j : ℕ) → least ≤ℤ way → way ≤ℤ least → least ≤ℤ other → i ≤ low → low ≤ j → IsBefore way i other j
as_far way least other i low j near far on few more =
    by_order way other (λ less. inl less) (λ same. inr (same, omega arith)) (λ beyond. absurd (omega (arith, ints)))

module _ (place : GridPoint) (slots : List (Option Entry)) where
  -- nothing below the node comes before the best
  pub node_passed : (extents : List Extent) (node : ℕ) (box : Extent) (best : Option Found) → IsIndex slots extents → 1 ≤ node → node < length extents → box ≡ get_or extents node box
      → ((e : Entry) → Holds box e → IsNoLater place best e) → IsKnown place slots best → IsNearestOf place slots (IsBelow (length slots) node) best best
  node_passed extents node box best index some there read past known =
      record {
        known = known;
        kept = λ e before. before;
        each = λ j e below within is. past e (subst (λ x. Holds x e) (sym read) (node_holds slots extents index node j box e some below within is));
      }

  -- the node is a slot's
  pub slot_searched : (node : ℕ) (best result : Option Found) → length slots ≤ node → IsNearestOf place slots (λ j. j ≡ node - length slots) best result
      → IsNearestOf place slots (IsBelow (length slots) node) best result
  slot_searched node best result low searched =
      record {
        known = searched.known;
        kept = searched.kept;
        each = λ j e below within is. let at = halved_leaf below.0 (length slots + j) (length slots) node below.1 low (omega arith) in searched.each j e (omega arith) within is;
      }

  -- both nodes below are searched
  pub both_searched : (node a b : ℕ) (best found result : Option Found) → 1 ≤ node → node < length slots → AreChildren node a b
      → IsNearestOf place slots (IsBelow (length slots) a) best found → IsNearestOf place slots (IsBelow (length slots) b) found result → IsNearestOf place slots (IsBelow (length slots) node) best result
  both_searched node a b best found result some inner children one two =
      record {
        known = two.known;
        kept = λ e before. two.kept e (one.kept e before);
        each = λ j e below within is. let ne : length slots + j ≢ node = omega arith in
            elim (halved_child below.0 (length slots + j) node below.1 ne some) [
              | inl first ↦ elim children [
                | inl up ↦ two.kept e (one.each j e (first.0, first.1 ∙ sym up.0) within is)
                | inr down ↦ two.each j e (first.0, first.1 ∙ sym down.1) within is
              ]
              | inr second ↦ elim children [
                | inl up ↦ two.each j e (second.0, second.1 ∙ sym up.1) within is
                | inr down ↦ two.kept e (one.each j e (second.0, second.1 ∙ sym down.0) within is)
              ]
            ];
      }

  -- the slot is empty
  pub slot_empty : (slot : ℕ) (best : Option Found) → get_or slots slot None ≡ None → IsKnown place slots best → IsNearestOf place slots (λ j. j ≡ slot) best best
  slot_empty slot best empty known =
      record {
        known = known;
        kept = λ e before. before;
        each = λ j e at within is. absurd (none-some e (sym empty ∙ ap (λ k. get_or slots k None) (sym at) ∙ is));
      }

  -- the best so far stays the best
  pub best_kept : (slot : ℕ) (entry : Entry) (found held : Found) → get_or slots slot None ≡ Some entry → found.way ≡ dot_of place entry.at entry.at → found.number ≡ entry.number
      → IsBefore held.way held.number found.way found.number → IsKnown place slots (Some held) → IsNearestOf place slots (λ j. j ≡ slot) (Some held) (Some held)
  best_kept slot entry found held full way number before known =
      record {
        known = known;
        kept = λ e earlier. earlier;
        each = λ j e at within is. let same : entry ≡ e = same_Some entry e (sym full ∙ ap (λ k. get_or slots k None) (sym at) ∙ is) in
            subst (λ (x : Entry). IsBefore held.way held.number (dot_of place x.at x.at) x.number) same
            (subst (λ n. IsBefore held.way held.number (dot_of place entry.at entry.at) n) number (subst (λ w. IsBefore held.way held.number w found.number) way before));
      }

  -- what is in the slot is the best
  pub best_found : (slot : ℕ) (entry : Entry) (found : Found) (best : Option Found) → slot < length slots → get_or slots slot None ≡ Some entry → found.slot ≡ slot
      → found.way ≡ dot_of place entry.at entry.at → found.number ≡ entry.number → ((held : Found) → best ≡ Some held → ¬ IsBefore held.way held.number found.way found.number)
      → IsNearestOf place slots (λ j. j ≡ slot) best (Some found)
  best_found slot entry found best there full at_slot way number later =
      record {
        known = record { entry = entry; there = omega arith; is = ap (λ k. get_or slots k None) at_slot ∙ full; way = way; number = number };
        kept = λ e before. go best later e before;
        each = λ j e at within is. let same : entry ≡ e = same_Some entry e (sym full ∙ ap (λ k. get_or slots k None) (sym at) ∙ is) in
            subst (λ (x : Entry). IsBefore found.way found.number (dot_of place x.at x.at) x.number) same (inr (way, omega arith));
      }
    where
      go : (best : Option Found) → ((held : Found) → best ≡ Some held → ¬ IsBefore held.way held.number found.way found.number) → (e : Entry) → IsNoLater place best e → IsNoLater place (Some found) e
      go None later e before = absurd before
      go (Some held) later e before =
          before_on found.way held.way (dot_of place e.at e.at) found.number held.number e.number
          (other_before held.way found.way held.number found.number (later held refl)) before
