-- what the tests say of isolation
use Rattle.std.proofs.Common.{arith, ◌<◌, ℕ, List, length, refl, sym, ◌∙◌, subst}
use Rattle.std.specs.Prelude.{Contains}
use Rattle.std.proofs.lemmas.Bool.{false≢true}
use Rattle.std.proofs.lemmas.List.Elements.{All-contains}
use Rattle.conley_lists.specs.Lists.{items_of, IsDigraph}
use Rattle.conley_faces.specs.Face.{IsLocallyClosed}
use Rattle.conley_transitions.specs.Flow.{IsFlow}
use Rattle.conley_graph.specs.Decomposition.{flow_of}
use Rattle.conley_isolation.proofs.IsolatedLemmas.{is_isolated, all_invariant, is_union, is_closed}
use Rattle.conley_isolation.proofs.set_report.is_isolated.Given.{Over}
use Rattle.conley_isolation.proofs.set_report.is_isolated.Goals.{After-all_faces-closures}
use Rattle.conley_isolation.proofs.set_report.is_isolated.Goals as goal

ok : (g : Over) (c : After-all_faces-closures g) → IsFlow (flow_of (g.F.Field.arithmetic c.args.complex.now.0) c.args.complex.now.1 c.args.partition.now)
ok g c = record {
  digraph = subst (λ (l : List (List ℕ)). IsDigraph l) c.faces-faces.ensures.faces c.all_faces-closures.ensures.order.digraph;
  parts =
      c.requires.field.count;
}

cells : (g : Over) (c : After-all_faces-closures g) → (x : ℕ) → Contains c.args.set.now x → x < length c.args.partition.now
cells g c x h = omega (arith, All-contains (λ q. q < length c.args.complex.now.1.faces) c.args.set.now x c.requires.set.cells h, c.requires.field.count)

pub returns-then-not-has_all-clause-isolated : goal.returns-then-not-has_all-clause-isolated
returns-then-not-has_all-clause-isolated g c =
    let d = (goal.at.returns-then-not-has_all-clause-isolated g c).After-all_faces-closures in (
      (λ e. absurd (false≢true e)),
      (λ isolated. absurd (false≢true (c.if-not-has_all.ensures.1
          (all_invariant (flow_of (g.F.Field.arithmetic c.args.complex.now.0) c.args.complex.now.1 c.args.partition.now) (ok g d) c.args.set.now (cells g d)
          c.args.invariant.now c.requires.invariant.invariant isolated)))),
    )

pub returns-then-not-branch-clause-isolated : goal.returns-then-not-branch-clause-isolated
returns-then-not-branch-clause-isolated g c =
    let d = (goal.at.returns-then-not-branch-clause-isolated g c).After-all_faces-closures in (
      (λ e. absurd (false≢true e)),
      (λ isolated. absurd (false≢true (sym c.if-not-branch.true ∙ c.in_ok-is_union.ensures.1
          (is_union (flow_of (g.F.Field.arithmetic c.args.complex.now.0) c.args.complex.now.1 c.args.partition.now) (ok g d) c.args.set.now (cells g d)
          isolated)))),
    )

pub returns-in-Some-clause-isolated : goal.returns-in-Some-clause-isolated
returns-in-Some-clause-isolated g c =
    let d = (goal.at.returns-in-Some-clause-isolated g c).After-all_faces-closures in (
      (λ e. absurd (false≢true e)),
      (λ isolated.
          let closed = is_closed (flow_of (g.F.Field.arithmetic c.args.complex.now.0) c.args.complex.now.1 c.args.partition.now) (ok g d) c.args.set.now
          (cells g d) isolated in
          sym (c.in-Some.ensures.none.1 (subst (λ (l : List (List ℕ)). IsLocallyClosed l c.args.set.now) (sym c.faces-faces.ensures.faces) closed))),
    )

pub returns-clause-closed : goal.returns-clause-closed
returns-clause-closed g c = λ e. subst (λ (l : List (List ℕ)). IsLocallyClosed l c.args.set.now) c.faces-faces.ensures.faces (c.in_default.ensures.none.0 refl)

pub returns-clause-isolated : goal.returns-clause-isolated
returns-clause-isolated g c =
    let d = (goal.at.returns-clause-isolated g c).After-all_faces-closures in (
      (λ e.
          is_isolated (flow_of (g.F.Field.arithmetic c.args.complex.now.0) c.args.complex.now.1 c.args.partition.now) (ok g d) c.args.set.now (cells g d)
          c.args.invariant.now (items_of c.all_faces-closures.result.now) c.requires.invariant.invariant
          (c.if-not-has_all.ensures.0 refl) (c.in_ok-is_union.ensures.0 c.if-not-branch.false)
          (subst (λ (l : List (List ℕ)). IsLocallyClosed l c.args.set.now) c.faces-faces.ensures.faces (c.in_default.ensures.none.0 refl))
          (rw c.faces-faces.ensures.faces at c.all_faces-closures.ensures.faces)),
      (λ isolated. refl),
    )
