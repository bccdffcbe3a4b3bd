-- The classes that count, in order, are the finest Morse decomposition
use Rattle.std.proofs.Common.{◌≡◌, inl, inr, ◌<◌, ℕ, true, List, length, sym, ap, ◌∙◌, subst, arith}
use Rattle.std.specs.Prelude.{Contains, ◌↔◌, ◌==◌, not, slice_index}
use Rattle.std.specs.List.Sorted.{IsStrictlyIncreasing}
use Rattle.std.proofs.lemmas.Bool.{cases_order, not-true, not_from_false, eqb-false, ne_eqb, and_parts, and_from}
use Rattle.std.proofs.lemmas.List.Elements.{Contains-get_or}
use Rattle.conley_walk.specs.Walk.{Reaches, AreRecurrent}
use Rattle.conley_walk.proofs.WalkLemmas.{reaches_on}
use Rattle.conley_field.specs.Arithmetic.{Arithmetic}
use Rattle.conley_lefschetz.specs.Complex.{Layout}
use Rattle.conley_order.specs.ClassRows.{ClassRows, is_at_or_below}
use Rattle.conley_transitions.specs.Classes.{AreRecurrenceClasses}
use Rattle.conley_transitions.specs.Flow.{IsFlow, StepOf}
use Rattle.conley_transitions.specs.Morse.{set_at, IsAt, AreCountingClasses, IsReachOrder}
use Rattle.conley_transitions.proofs.FinestLemmas.{classes_are_morse, classes_are_finest}
use Rattle.conley_morse.specs.Covers.{lower_test, HaveFirstCells}
use Rattle.conley_graph.specs.Decomposition.{flow_of, IsFinestDecomposition}
use Rattle.conley_morse.specs.Making.{ClassCounts, AreCountedSoFar}
use Rattle.conley_graph.proofs.RegularLemmas.{counts_along}

module _ {F : Arithmetic} (c : Layout) (part_of : List ℕ) (lists sets numbers : List (List ℕ)) (classes : AreRecurrenceClasses c.faces part_of lists)
    (counted : AreCountedSoFar F c part_of lists (length lists) sets numbers) where
  -- a set has cells, so its first is one
  has_first : (i : ℕ) → i < length sets → Contains (set_at sets i) (slice_index (set_at sets i) 0)
  has_first i lt =
      let w = counted.come i lt in
      subst (λ (l : List ℕ). Contains l (slice_index l 0)) (sym w.2) (Contains-get_or (set_at lists w.0) 0 0 (classes.non_empty w.0 w.1))

  -- a cell of a set stands in the class that the set is
  in_class : (i x : ℕ) → (lt : i < length sets) → Contains (set_at sets i) x → Contains (set_at lists (counted.come i lt).0) x
  in_class i x lt h = subst (λ (l : List ℕ). Contains l x) (counted.come i lt).2 h

  -- sets with a common cell have one number
  one_number : (i j x : ℕ) → IsAt sets x i → IsAt sets x j → i ≡ j
  one_number i j x hi hj =
      let e = classes.once (counted.come i hi.0).0 (counted.come j hj.0).0 x (in_class i x hi.0 hi.1) (in_class j x hj.0 hj.1) in
      let same : set_at sets i ≡ set_at sets j = (counted.come i hi.0).2 ∙ ap (set_at lists) e ∙ sym (counted.come j hj.0).2 in
      let first : slice_index (set_at sets i) 0 ≡ slice_index (set_at sets j) 0 = ap (λ (l : List ℕ). slice_index l 0) same in
      elim (cases_order i j) [
        | inl is ↦ is
        | inr other ↦ elim other [
          | inl less ↦ absurd (omega (arith, counted.in_order i j less hj.0, first))
          | inr more ↦ absurd (omega (arith, counted.in_order j i more hi.0, first))
        ]
      ]

  pub counting_classes : AreCountingClasses (flow_of F c part_of) sets
  counting_classes = record {
    non_empty = λ i lt none.
        let h = subst (λ (l : List ℕ). Contains l (slice_index (set_at sets i) 0)) none (has_first i lt) in
        absurd (omega (arith, h.1));
    classes = λ i x y at.
        let w = counted.come i at.0 in
        subst (λ (l : List ℕ). Contains l y ↔ AreRecurrent (StepOf (flow_of F c part_of)) x y) (sym w.2) (classes.same w.0 x y (in_class i x at.0 at.1));
    once = one_number;
    all = λ x. (
      (λ at.
          let w = counted.come at.0 at.1.0 in
          let h = in_class at.0 x at.1.0 at.1.1 in
          (classes.cells w.0 x h, w.3 x h)),
      (λ p.
          let k = classes.all x p.0 in
          let counts : ClassCounts (flow_of F c part_of) (set_at lists k.0) = λ y hy.
          counts_along (flow_of F c part_of) x y p.0 (classes.cells k.0 y hy) ((classes.same k.0 x y k.1.1).0 hy) p.1 in
          let w = counted.all k.0 k.1.0 counts in
          (w.0, (w.1, subst (λ (l : List ℕ). Contains l x) (sym w.2) k.1.1))),
    );
  }

  module _ (rows : ClassRows) (reach : (a b : ℕ) → a < length part_of → b < length part_of → (is_at_or_below rows a b ≡ true)
      ↔ Reaches (StepOf (flow_of F c part_of)) b a) where
    first_cell : (i : ℕ) → i < length sets → slice_index (set_at sets i) 0 < length part_of
    first_cell i lt = classes.cells (counted.come i lt).0 (slice_index (set_at sets i) 0) (in_class i (slice_index (set_at sets i) 0) lt (has_first i lt))

    pub first_cells : length rows.class_of ≡ length part_of → HaveFirstCells rows sets
    first_cells count i lt = (let h = has_first i lt in omega (arith, h.1), omega (arith, first_cell i lt, count))

    pub lower_is_reach : IsReachOrder (flow_of F c part_of) sets (lower_test rows sets)
    lower_is_reach i j li lj = (
      (λ t.
          let p = and_parts (not (i == j)) (is_at_or_below rows (slice_index (set_at sets j) 0) (slice_index (set_at sets i) 0)) t in (
            eqb-false i j (not-true (i == j) p.0),
            (
              slice_index (set_at sets i) 0,
              slice_index (set_at sets j) 0,
              has_first i li,
              has_first j lj,
              (reach (slice_index (set_at sets j) 0) (slice_index (set_at sets i) 0) (first_cell j lj) (first_cell i li)).0 p.1,
            ),
          )),
      (λ p.
          let r = p.1 in
          let from = (counting_classes.classes i (slice_index (set_at sets i) 0) r.0 (li, has_first i li)).0 r.2 in
          let to = (counting_classes.classes j r.1 (slice_index (set_at sets j) 0) (lj, r.3)).0 (has_first j lj) in
          and_from (not (i == j)) (is_at_or_below rows (slice_index (set_at sets j) 0) (slice_index (set_at sets i) 0))
          (not_from_false (i == j) (ne_eqb i j p.0))
          ((reach (slice_index (set_at sets j) 0) (slice_index (set_at sets i) 0) (first_cell j lj) (first_cell i li)).1
          (reaches_on from.there (reaches_on r.4 to.there)))),
    )

    pub finest_decomposition : IsFlow (flow_of F c part_of) → IsFinestDecomposition F c part_of sets
    finest_decomposition ok = record {
      morse = (lower_test rows sets, classes_are_morse (flow_of F c part_of) ok sets counting_classes (lower_test rows sets) lower_is_reach);
      finest = classes_are_finest (flow_of F c part_of) ok sets counting_classes;
      classes = counting_classes;
      ascending = λ i lt. let w = counted.come i lt in subst IsStrictlyIncreasing (sym w.2) (classes.ascending w.0);
      in_order = counted.in_order;
    }
