use Rattle.std.proofs.Common.{◌≡◌, ◌<◌, inl, ℕ, true, List, length, get_or, sym, ◌∙◌, arith, subst}
use Rattle.std.specs.Prelude.{◌↔◌}
use Rattle.std.proofs.lemmas.List.Elements.{Contains-get_or}
use Rattle.conley_lists.specs.Lists.{items_of, IsDigraph}
use Rattle.conley_walk.proofs.WalkLemmas.{reaches_by_step}
use Rattle.conley_lists.proofs.ListLemmas.{length-items_of, step_begins}
use Rattle.conley_chains.specs.Matrix.{IsTable}
use Rattle.conley_homotopy.specs.Graded.{IsStrict}
use Rattle.conley_homotopy.specs.Reduction.{IsReducedTo}
use Rattle.conley_order.specs.Preorder.{IsBelow}
use Rattle.conley_order.specs.ClassRows.{is_at_or_below}
use Rattle.conley_transitions.specs.Morse.{set_at, IsAt}
use Rattle.conley_graded.specs.Structure.{generators, generators_of}
use Rattle.conley_equivalence.specs.MapTables.{maps_of}
use Rattle.conley_certificate.specs.Problem.{Problem, IsProblem, problem_of, cell_count, Below}
use Rattle.conley_certificate.specs.Reduced.{ListsReduction}
use Rattle.conley_certificate.proofs.FitsLemmas.{graph_fits}
use Rattle.conley_certificate.proofs.ReducedLemmas.{generator_set, ListsReduction-IsAnalysis, ListsReduction-KeepsCells}
use Rattle.conley_analysis.proofs.ReachLemmas.{reduced-reach, base_cell, strict-reach, reach_connection, lists_reduction, table_at}
use Rattle.conley_analysis.proofs.analysis.analyze.Given.{Over}
use Rattle.conley_analysis.proofs.analysis.analyze.Goals.{In_ok-small}
use Rattle.conley_analysis.proofs.analysis.analyze.Goals as goal

abbrev problem : (g : Over) (c : In_ok-small g) → Problem
problem g c = problem_of (g.F.Field.arithmetic c.args.complex.now.0) c.args.complex.now.1 c.args.partition.now

is_problem : (g : Over) (c : In_ok-small g) → IsProblem (problem g c)
is_problem g c = record {
  scalars = g.met.F.Field.is_field c.args.complex.now.0;
  layout = c.faces.ensures.laws;
  flow = record { digraph = subst (λ (l : List (List ℕ)). IsDigraph l) c.faces.ensures.faces c.count-cells.ensures.order.digraph; parts = c.requires.count };
}

cells : (g : Over) (c : In_ok-small g) → length c.in_ok-sets.field-0.grading.class_of ≡ cell_count (problem g c)
cells g c = c.in_ok-sets.ensures.grading_count ∙ c.requires.count ∙ c.faces.ensures.laws.complex.faces_count

reach : (g : Over) (c : In_ok-small g) (a b : ℕ) → a < cell_count (problem g c) → b < cell_count (problem g c)
    → (is_at_or_below c.in_ok-sets.field-0.grading a b ≡ true) ↔ Below (problem g c) a b
reach g c a b la lb = c.in_ok-sets.ensures.grading a b (omega (arith, la, c.requires.count, c.faces.ensures.laws.complex.faces_count))
    (omega (arith, lb, c.requires.count, c.faces.ensures.laws.complex.faces_count))

base_count : (g : Over) (c : In_ok-small g) → length c.in_ok-graded.graded.base ≡ cell_count (problem g c)
base_count g c = c.in_ok-graded.ensures.count ∙ c.faces.ensures.laws.complex.dims_count

items : (g : Over) (c : In_ok-small g) (x : ℕ) → x < cell_count (problem g c) → get_or c.in_ok-graded.graded.base x 0 ≡ x
items g c x cell = c.in_ok-graded.ensures.bases x (omega (arith, cell, c.faces.ensures.laws.complex.dims_count))

reduced : (g : Over) (c : In_ok-small g) →
    IsReducedTo (g.F.Field.arithmetic c.args.complex.now.0) (IsBelow (length c.in_ok-sets.field-0.grading.class_of)
    (is_at_or_below c.in_ok-sets.field-0.grading))
    (generators c.in_ok-graded.graded.base c.args.complex.now.1.dims c.args.complex.now.1.boundary) (generators_of c.in_ok-small.field-0.complex)
    (maps_of c.in_ok-small.field-0.equivalence)
reduced g c = rw (c.in_ok-graded.ensures.field, c.in_ok-graded.ensures.grading, c.in_ok-graded.ensures.dims, c.in_ok-graded.ensures.matrix)
    at c.in_ok-small.ensures.reduction

strict : (g : Over) (c : In_ok-small g) → IsStrict (IsBelow (length c.in_ok-sets.field-0.grading.class_of) (is_at_or_below c.in_ok-sets.field-0.grading))
    (generators_of c.in_ok-small.field-0.complex)
strict g c = rw c.in_ok-graded.ensures.grading at c.in_ok-small.ensures.strict

pub over_reach-requires-clause-digraph : goal.over_reach-requires-clause-digraph
over_reach-requires-clause-digraph g c = subst (λ (l : List (List ℕ)). IsDigraph l) c.faces.ensures.faces c.count-cells.ensures.order.digraph

pub over_reach-requires-clause-down : goal.over_reach-requires-clause-down
over_reach-requires-clause-down g c x y step =
    let faces = c.args.complex.now.1.faces in
    let x_cell = step_begins faces x y step in
    let y_cell = subst (λ (l : List (List ℕ)). IsDigraph l) c.faces.ensures.faces c.count-cells.ensures.order.digraph x y step in
    (c.in_ok-sets.ensures.grading y x (omega (arith, y_cell, c.requires.count)) (omega (arith, x_cell, c.requires.count))).1
    (reaches_by_step (inl (record { cell = x_cell; walk = reaches_by_step step })))

pub named-requires-clause-cells : goal.named-requires-clause-cells
named-requires-clause-cells g c = rw c.deref.ensures.value (λ i below k d within.
    let sets = items_of c.in_ok-sets.field-0.sets.items in
    let x = get_or (set_at sets i) k d in
    let at : IsAt sets x i = (omega (arith, below, length-items_of c.in_ok-sets.field-0.sets.items), Contains-get_or (set_at sets i) k d within) in
    let cell = ((c.in_ok-sets.ensures.graph.sets.classes.all x).0 (i, at)).0 in
    omega (arith, cell, c.requires.count, c.faces.ensures.laws.complex.faces_count, c.faces.ensures.laws.complex.dims_count, c.count.ensures.count))

pub named-requires-clause-once : goal.named-requires-clause-once
named-requires-clause-once g c = rw c.deref.ensures.value c.in_ok-sets.ensures.graph.sets.classes.once

pub named-requires-clause-somewhere : goal.named-requires-clause-somewhere
named-requires-clause-somewhere g c =
    let s = (goal.at.named-requires-clause-somewhere g c).In_ok-small in
    rw c.deref.ensures.value (λ h below.
    generator_set (problem g s) (is_problem g s) (items_of c.in_ok-sets.field-0.sets.items) (items_of c.in_ok-sets.field-0.numbers.items)
    c.in_ok-sets.field-0.order.items c.in_ok-sets.ensures.graph
    (generators_of c.in_ok-small.field-0.complex) (maps_of c.in_ok-small.field-0.equivalence)
    (reach_connection (problem g s) (is_problem g s) _ _ (cells g s) (reach g s) c.in_ok-graded.graded.base (base_count g s) (items g s) _ _ (reduced g s)
    (strict g s))
    h below (base_cell (problem g s) (is_problem g s) _ _ (cells g s) (reach g s) c.in_ok-graded.graded.base (base_count g s) (items g s) _ _ (reduced g s) h
    below))

pub returns-clause-analysis : goal.returns-clause-analysis
returns-clause-analysis g c =
    let s = (goal.at.returns-clause-analysis g c).In_ok-small in
    let small = c.in_ok-small.field-0.complex in
    let from : ListsReduction (problem g s) _ small.base = lists_reduction (problem g s) (is_problem g s) _ c.in_ok-sets.ensures.graph small.base small.dims
    small.matrix
    (reduced-reach (problem g s) (is_problem g s) _ _ (cells g s) (reach g s) c.in_ok-graded.graded.base (base_count g s) (items g s) _ _ (reduced g s))
    (strict-reach (problem g s) (is_problem g s) _ _ (cells g s) (reach g s) c.in_ok-graded.graded.base (base_count g s) (items g s) _ _ (reduced g s)
    (strict g s))
    c.into_matrix-matrix.ensures c.in_ok-generators.ensures.count (rw c.deref.ensures.value at c.in_ok-generators.ensures.sets)
    c.in_ok-generators.ensures.dims in
    ListsReduction-IsAnalysis (problem g s) (is_problem g s) _ small.base from

pub returns-clause-cells : goal.returns-clause-cells
returns-clause-cells g c =
    let s = (goal.at.returns-clause-cells g c).In_ok-small in
    let small = c.in_ok-small.field-0.complex in
    let from : ListsReduction (problem g s) _ small.base = lists_reduction (problem g s) (is_problem g s) _ c.in_ok-sets.ensures.graph small.base small.dims
    small.matrix
    (reduced-reach (problem g s) (is_problem g s) _ _ (cells g s) (reach g s) c.in_ok-graded.graded.base (base_count g s) (items g s) _ _ (reduced g s))
    (strict-reach (problem g s) (is_problem g s) _ _ (cells g s) (reach g s) c.in_ok-graded.graded.base (base_count g s) (items g s) _ _ (reduced g s)
    (strict g s))
    c.into_matrix-matrix.ensures c.in_ok-generators.ensures.count (rw c.deref.ensures.value at c.in_ok-generators.ensures.sets)
    c.in_ok-generators.ensures.dims in
    (small.base, ListsReduction-KeepsCells (problem g s) (is_problem g s) _ small.base from)

pub returns-clause-fits : goal.returns-clause-fits
returns-clause-fits g c =
    let s = (goal.at.returns-clause-fits g c).In_ok-small in
    let F = g.F.Field.arithmetic c.args.complex.now.0 in
    let tables = rw c.in_ok-graded.ensures.field at c.in_ok-small.ensures.tables in
    let filtered = rw (c.in_ok-small.ensures.field, c.in_ok-graded.ensures.field) at c.count-filtered.ensures.filtered in
    let names = sym c.in_ok-generators.ensures.count in
    let count = base_count g s in
    graph_fits (problem g s) (is_problem g s) _ c.in_ok-sets.ensures.graph
    (subst (λ t. IsTable F (length c.in_ok-generators.generators.items) (length c.in_ok-generators.generators.items) t)
    (sym c.into_matrix-matrix.ensures) (table_at _ _ _ _ _ filtered.table names names))
    (table_at _ _ _ _ _ tables.phi count names) (table_at _ _ _ _ _ tables.psi names count) (table_at _ _ _ _ _ tables.gamma count count)
    (table_at _ _ _ _ _ tables.gamma2 names names)
