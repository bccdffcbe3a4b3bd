-- what was counted is the finest decomposition
use Rattle.std.proofs.Common.{arith, ◌≡◌, ◌<◌, ℕ, true, List, length, subst, sym}
use Rattle.std.specs.Prelude.{◌↔◌}
use Rattle.conley_walk.specs.Walk.{Reaches}
use Rattle.conley_lists.specs.Lists.{items_of, IsDigraph}
use Rattle.conley_lists.proofs.ListLemmas.{length-items_of}
use Rattle.conley_order.specs.ClassRows.{is_at_or_below}
use Rattle.conley_transitions.specs.Classes.{AreRecurrenceClasses}
use Rattle.conley_transitions.specs.Step.{Step}
use Rattle.conley_transitions.specs.Flow.{IsFlow}
use Rattle.conley_morse.specs.Covers.{lower_test, AreCoversSoFar}
use Rattle.conley_graph.specs.Decomposition.{flow_of, IsFinestDecomposition}
use Rattle.conley_morse.specs.Making.{AreCountedSoFar}
use Rattle.conley_transitions.proofs.ClassLemmas.{gathered_classes}
use Rattle.conley_morse.proofs.FinestLemmas.{finest_decomposition, first_cells, lower_is_reach}
use Rattle.conley_morse.proofs.OrderLemmas.{covers_of_reach}
use Rattle.conley_morse.proofs.decomposition.morse.Given.{Over}
use Rattle.conley_morse.proofs.decomposition.morse.Goals.{In_ok-classes, In_ok-sets}
use Rattle.conley_morse.proofs.decomposition.morse.Goals as goal

is_field : (g : Over) (c : In_ok-classes g) → IsFlow (flow_of (g.F.Field.arithmetic c.args.complex.now.0) c.args.complex.now.1 c.args.partition.now)
is_field g c = record {
  digraph = subst (λ (l : List (List ℕ)). IsDigraph l) c.faces-faces.ensures.faces c.count-order.ensures.order.digraph;
  parts =
      c.requires.count;
}

classes : (g : Over) (c : In_ok-classes g) → AreRecurrenceClasses c.args.complex.now.1.faces c.args.partition.now (items_of c.in_ok-classes.classes.items)
classes g c =
    let steps = rw c.faces-faces.ensures.faces at c.in_ok-digraph.ensures.steps in
    let reach = rw c.faces-faces.ensures.faces at c.in_ok-digraph.ensures.reach in
    gathered_classes (flow_of (g.F.Field.arithmetic c.args.complex.now.0) c.args.complex.now.1 c.args.partition.now) (is_field g c) c.in_ok-digraph.digraph
    (omega (arith, steps.count, c.requires.count)) reach c.in_ok-grading.grading.class_of
    (items_of c.in_ok-classes.classes.items) c.in_ok-grading.ensures.classes (rw c.classes.ensures at c.in_ok-classes.ensures)

-- reach of cells by their classes
cell_reach : (g : Over) (c : In_ok-sets g) (a b : ℕ) → a < length c.args.partition.now → b < length c.args.partition.now
    → (is_at_or_below c.in_ok-grading.grading a b ≡ true) ↔ Reaches (Step c.args.complex.now.1.faces c.args.partition.now) b a
cell_reach g c a b la lb =
    let steps = rw c.faces-faces.ensures.faces at c.in_ok-digraph.ensures.steps in
    let reach = rw c.faces-faces.ensures.faces at c.in_ok-digraph.ensures.reach in
    let r = c.in_ok-grading.ensures.reach a b (omega (arith, la, steps.count, c.requires.count)) (omega (arith, lb, steps.count, c.requires.count)) in
    ((λ t. (reach b a).0 (r.0 t)), (λ w. r.1 ((reach b a).1 w)))

all_counted : (g : Over) (c : In_ok-sets g) →
    AreCountedSoFar (g.F.Field.arithmetic c.args.complex.now.0) c.args.complex.now.1 c.args.partition.now (items_of c.in_ok-classes.classes.items)
    (length (items_of c.in_ok-classes.classes.items)) (items_of c.in_ok-sets.sets.items) (items_of c.in_ok-sets.numbers.items)
all_counted g c =
    subst (λ (n : ℕ). AreCountedSoFar (g.F.Field.arithmetic c.args.complex.now.0) c.args.complex.now.1 c.args.partition.now
    (items_of c.in_ok-classes.classes.items) n (items_of c.in_ok-sets.sets.items) (items_of c.in_ok-sets.numbers.items))
    (sym (length-items_of c.in_ok-classes.classes.items)) c.in_ok-sets.ensures

finest : (g : Over) (c : In_ok-sets g) (d : In_ok-classes g) → AreRecurrenceClasses c.args.complex.now.1.faces c.args.partition.now
    (items_of c.in_ok-classes.classes.items)
    → IsFlow (flow_of (g.F.Field.arithmetic c.args.complex.now.0) c.args.complex.now.1 c.args.partition.now)
    → IsFinestDecomposition (g.F.Field.arithmetic c.args.complex.now.0) c.args.complex.now.1 c.args.partition.now (items_of c.in_ok-sets.sets.items)
finest g c d are ok =
    finest_decomposition {F = g.F.Field.arithmetic c.args.complex.now.0} c.args.complex.now.1 c.args.partition.now (items_of c.in_ok-classes.classes.items)
    (items_of c.in_ok-sets.sets.items) (items_of c.in_ok-sets.numbers.items) are (all_counted g c)
    c.in_ok-grading.grading (cell_reach g c) ok

pub gathered-requires-clause-in_order : goal.gathered-requires-clause-in_order
gathered-requires-clause-in_order g c =
    rw c.classes.ensures (λ x k lx lk. let classes = c.in_ok-grading.ensures.classes in classes.in_order x k (omega (arith, lx, classes.count)) lk)

pub counted-requires-clause-field : goal.counted-requires-clause-field
counted-requires-clause-field g c = is_field g (goal.at.counted-requires-clause-field g c).In_ok-classes

pub counted-requires-clause-classes : goal.counted-requires-clause-classes
counted-requires-clause-classes g c = classes g (goal.at.counted-requires-clause-classes g c).In_ok-classes

pub returns-then-len-gt-MOST-clause-too_many : goal.returns-then-len-gt-MOST-clause-too_many
returns-then-len-gt-MOST-clause-too_many g c = λ n e.
    let d = (goal.at.returns-then-len-gt-MOST-clause-too_many g c).In_ok-sets in
    let f = (goal.at.returns-then-len-gt-MOST-clause-too_many g c).In_ok-classes in
    let same : c.len-then-len-gt-MOST.result ≡ n = cc in
    let long = length-items_of c.in_ok-sets.sets.items in
    (omega (arith, same), (items_of c.in_ok-sets.sets.items, finest g d f (classes g f) (is_field g f), omega (arith, same, long)))

pub covers-requires-clause-firsts : goal.covers-requires-clause-firsts
covers-requires-clause-firsts g c =
    let d = (goal.at.covers-requires-clause-firsts g c).In_ok-sets in
    let f = (goal.at.covers-requires-clause-firsts g c).In_ok-classes in
    let steps = rw c.faces-faces.ensures.faces at c.in_ok-digraph.ensures.steps in
    rw c.deref.ensures.value (first_cells {F = g.F.Field.arithmetic c.args.complex.now.0} c.args.complex.now.1 c.args.partition.now
    (items_of c.in_ok-classes.classes.items) (items_of c.in_ok-sets.sets.items) (items_of c.in_ok-sets.numbers.items) (classes g f)
    (all_counted g d) c.in_ok-grading.grading (cell_reach g d) (omega (arith, steps.count, c.requires.count, c.in_ok-grading.ensures.classes.count)))

pub returns-clause-graph : goal.returns-clause-graph
returns-clause-graph g c =
    let d = (goal.at.returns-clause-graph g c).In_ok-sets in
    let f = (goal.at.returns-clause-graph g c).In_ok-classes in
    let sets = c.in_ok-sets.sets.items in
    let long = length-items_of sets in
    let test = lower_test c.in_ok-grading.grading (items_of sets) in
    let found = rw c.deref.ensures.value at c.in_ok-order.ensures in
    record {
      sets = finest g d f (classes g f) (is_field g f);
      numbers_count = omega (arith, c.in_ok-sets.ensures.numbers_count, long, length-items_of c.in_ok-sets.numbers.items);
      numbers = λ i lt. c.in_ok-sets.ensures.conley i (omega (arith, lt, long));
      order = covers_of_reach (flow_of (g.F.Field.arithmetic c.args.complex.now.0) c.args.complex.now.1 c.args.partition.now) (items_of sets) test
          c.in_ok-order.order.items
          (lower_is_reach {F = g.F.Field.arithmetic c.args.complex.now.0} c.args.complex.now.1 c.args.partition.now (items_of c.in_ok-classes.classes.items)
          (items_of sets) (items_of c.in_ok-sets.numbers.items) (classes g f) (all_counted g d) c.in_ok-grading.grading
          (cell_reach g d)) (subst (λ (n : ℕ). AreCoversSoFar test n n c.in_ok-order.order.items) (sym long) found);
    }

pub returns-clause-grading_count : goal.returns-clause-grading_count
returns-clause-grading_count g c =
    let steps = rw c.faces-faces.ensures.faces at c.in_ok-digraph.ensures.steps in
    omega (arith, steps.count, c.requires.count, c.in_ok-grading.ensures.classes.count)

pub returns-clause-grading : goal.returns-clause-grading
returns-clause-grading g c = cell_reach g (goal.at.returns-clause-grading g c).In_ok-sets
