-- Which classes count
use Rattle.std.proofs.Common.{inl, inr, ◌⊎◌, ◌<◌, ℕ, List, length, sym, ◌∙◌, subst}
use Rattle.std.specs.Prelude.{Contains, ◌↔◌, slice_index}
use Rattle.std.proofs.lemmas.Bool.{cases_eq}
use Rattle.std.proofs.lemmas.List.Elements.{Contains-get_or}
use Rattle.conley_walk.proofs.WalkLemmas.{reaches_by_step}
use Rattle.conley_field.specs.Arithmetic.{Arithmetic}
use Rattle.conley_lefschetz.specs.Complex.{Layout}
use Rattle.conley_lefschetz.specs.Conley.{IsRegular}
use Rattle.conley_mvf.specs.Partition.{AreCellsOf}
use Rattle.conley_transitions.specs.Step.{Step}
use Rattle.conley_transitions.specs.Classes.{AreRecurrenceClasses}
use Rattle.conley_transitions.specs.Flow.{StepOf, Counts}
use Rattle.conley_transitions.specs.Morse.{set_at}
use Rattle.conley_graph.specs.Decomposition.{flow_of}
use Rattle.conley_graph.proofs.RegularLemmas.{regular_same, counts_along}
use Rattle.conley_morse.specs.Making.{LiesInOnePart, HasTwoParts, ClassCounts}

module _ (c : Layout) (part_of : List ℕ) (lists : List (List ℕ)) (classes : AreRecurrenceClasses c.faces part_of lists) (k : ℕ) (below : k < length lists) where
  has_first : Contains (set_at lists k) (slice_index (set_at lists k) 0)
  has_first = Contains-get_or (set_at lists k) 0 0 (classes.non_empty k below)

  -- the class has all cells of one part
  one_part : LiesInOnePart part_of (set_at lists k) → (x : ℕ) → Contains (set_at lists k) x → AreCellsOf part_of (slice_index part_of x) (set_at lists k)
  one_part one x hx = record {
    same = λ z. (
      (λ hz. (classes.cells k z hz, one z hz ∙ sym (one x hx))),
      (λ p.
          let cx = classes.cells k x hx in
          (classes.same k x z hx).1 (record {
            there = reaches_by_step {Step = Step c.faces part_of} {x = x} {y = z} (inr (cx, p));
            back = reaches_by_step {Step = Step c.faces part_of} {x = z} {y = x} (inr (p.0, (cx, sym p.1)));
          })),
    );
  }

  module _ {F : Arithmetic} where
    counts_from_first : Counts (StepOf (flow_of F c part_of)) (flow_of F c part_of) (slice_index (set_at lists k) 0)
        → ClassCounts (flow_of F c part_of) (set_at lists k)
    counts_from_first counts x hx =
        counts_along (flow_of F c part_of) (slice_index (set_at lists k) 0) x (classes.cells k (slice_index (set_at lists k) 0) has_first)
        (classes.cells k x hx)
        ((classes.same k (slice_index (set_at lists k) 0) x has_first).0 hx) counts

    pub class_counts : HasTwoParts part_of (set_at lists k) ⊎ (LiesInOnePart part_of (set_at lists k) × ¬ IsRegular F c (set_at lists k))
        → ClassCounts (flow_of F c part_of) (set_at lists k)
    class_counts (inl two) = counts_from_first (inl (two.0, (classes.same k (slice_index (set_at lists k) 0) two.0 has_first).0 two.1, (λ s. two.2 s.1.1)))
    class_counts (inr critical) =
        counts_from_first (inr (λ regular. critical.1 (regular (set_at lists k) (one_part critical.0 (slice_index (set_at lists k) 0) has_first))))

    pub class_passed : LiesInOnePart part_of (set_at lists k) → IsRegular F c (set_at lists k) → ¬ ClassCounts (flow_of F c part_of) (set_at lists k)
    class_passed one regular counts = elim (counts (slice_index (set_at lists k) 0) has_first) [
      | inl two ↦
          let inside = (classes.same k (slice_index (set_at lists k) 0) two.0 has_first).1 two.1 in
          two.2 (classes.cells k (slice_index (set_at lists k) 0) has_first, (classes.cells k two.0 inside, one two.0 inside))
      | inr irregular ↦
          let own = one_part one (slice_index (set_at lists k) 0) has_first in
          irregular (λ cells are. regular_same c (set_at lists k) cells (λ x. (
            (λ h. (are.same x).1 ((own.same x).0 h)),
            (λ h. (own.same x).1 ((are.same x).0 h)),
          )) regular)
    ]
