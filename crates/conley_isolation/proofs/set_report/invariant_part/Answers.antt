use Rattle.std.proofs.Common.{arith, get_or, ◌<◌, ℕ, length, sym, subst}
use Rattle.std.specs.Prelude.{Contains}
use Rattle.std.proofs.lemmas.List.Elements.{All-contains, Contains-get_or}
use Rattle.conley_lists.specs.Lists.{items_of, IsDigraph}
use Rattle.conley_lists.proofs.ListLemmas.{All-from_contained, length-items_of, place_of}
use Rattle.conley_digraph.proofs.TurningLemmas.{turned_digraph}
use Rattle.conley_homology.proofs.PlaceLemmas.{length-most}
use Rattle.conley_transitions.specs.Flow.{Flow}
use Rattle.conley_transitions.specs.Lasso.{IsInInvariantPart}
use Rattle.conley_graph.specs.Decomposition.{flow_of}
use Rattle.conley_isolation.specs.Making.{IsWithin}
use Rattle.conley_isolation.proofs.WithinLemmas.{steps_digraph}
use Rattle.conley_isolation.proofs.StartLemmas.{start_place, between_starts}
use Rattle.conley_isolation.proofs.set_report.invariant_part.Given.{Over}
use Rattle.conley_isolation.proofs.set_report.invariant_part.Goals.{In_ok-within, In_ok-starts}
use Rattle.conley_isolation.proofs.set_report.invariant_part.Goals as goal

within : (g : Over) (c : In_ok-within g) → IsWithin c.args.complex.now.1.faces c.args.partition.now c.args.set.now c.in_ok-within.within.parts.items
    c.in_ok-within.within.firsts.items (items_of c.in_ok-within.within.steps.items)
within g c = rw c.faces-faces.ensures.faces at c.in_ok-within.ensures

few : (g : Over) (c : In_ok-within g) → length c.args.set.now < 4294967296
few g c = omega (
  arith,
  length-most c.args.set.now (length c.args.complex.now.1.faces) c.requires.set.ascending c.requires.set.cells,
  (rw c.faces-faces.ensures.faces at c.count-order.ensures.order).few,
)

digraph : (g : Over) (c : In_ok-within g) → IsDigraph (items_of c.in_ok-within.within.steps.items)
digraph g c = steps_digraph c.args.complex.now.1.faces c.args.partition.now c.args.set.now (items_of c.in_ok-within.within.steps.items) (within g c).steps

cell : (g : Over) (c : In_ok-within g) (x : ℕ) → Contains c.args.set.now x → x < length c.args.complex.now.1.faces
cell g c x h = All-contains (λ q. q < length c.args.complex.now.1.faces) c.args.set.now x c.requires.set.cells h

flow : (g : Over) (c : In_ok-within g) → Flow
flow g c = flow_of (g.F.Field.arithmetic c.args.complex.now.0) c.args.complex.now.1 c.args.partition.now

in_field : (g : Over) (c : In_ok-within g) (x : ℕ) → Contains c.args.set.now x → x < length c.args.partition.now
in_field g c x h = omega (arith, cell g c x h, c.requires.field.count)

-- a start is a place
start : (g : Over) (c : In_ok-starts g) (d : In_ok-within g) → IsWithin c.args.complex.now.1.faces c.args.partition.now c.args.set.now
    c.in_ok-within.within.parts.items c.in_ok-within.within.firsts.items (items_of c.in_ok-within.within.steps.items) →
    ((x : ℕ) → Contains c.args.set.now x → x < length c.args.partition.now) → (i : ℕ) → Contains c.in_ok-starts.starts.items i → i < length c.args.set.now
start g c d is cells i h =
    start_place (flow_of (g.F.Field.arithmetic c.args.complex.now.0) c.args.complex.now.1 c.args.partition.now) c.args.set.now
    c.in_ok-within.within.parts.items c.in_ok-within.within.firsts.items (items_of c.in_ok-within.within.steps.items) cells is i
    ((c.in_ok-starts.ensures i).0 h)

pub starts-requires-clause-few : goal.starts-requires-clause-few
starts-requires-clause-few g c = few g (goal.at.starts-requires-clause-few g c).In_ok-within

pub reached_from-requires-clause-digraph : goal.reached_from-requires-clause-digraph
reached_from-requires-clause-digraph g c = rw c.deref.ensures.value (digraph g (goal.at.reached_from-requires-clause-digraph g c).In_ok-within)

pub reached_from-requires-clause-nodes : goal.reached_from-requires-clause-nodes
reached_from-requires-clause-nodes g c =
    let at = goal.at.reached_from-requires-clause-nodes g c in
    let is = within g at.In_ok-within in
    rw (c.deref.ensures.value, c.deref-2.ensures.value) (λ k d lt.
    omega (
      arith,
      start g at.In_ok-starts at.In_ok-within is (in_field g at.In_ok-within) (get_or c.in_ok-starts.starts.items k d)
          (Contains-get_or c.in_ok-starts.starts.items k d lt),
      is.steps.count,
      length-items_of c.in_ok-within.within.steps.items,
    ))

pub turned_round-requires-clause-digraph : goal.turned_round-requires-clause-digraph
turned_round-requires-clause-digraph g c = rw c.deref-3.ensures.value (digraph g (goal.at.turned_round-requires-clause-digraph g c).In_ok-within)

pub turned_round-requires-clause-count : goal.turned_round-requires-clause-count
turned_round-requires-clause-count g c =
    let d = (goal.at.turned_round-requires-clause-count g c).In_ok-within in
    rw c.deref-3.ensures.value (omega (arith, few g d, (within g d).steps.count, length-items_of c.in_ok-within.within.steps.items))

pub reached_from-requires-2-clause-digraph : goal.reached_from-requires-2-clause-digraph
reached_from-requires-2-clause-digraph g c =
    rw c.deref-4.ensures.value (turned_digraph (items_of c.in_ok-within.within.steps.items) (items_of c.in_ok-turned.turned.items)
    (rw c.deref-3.ensures.value at c.in_ok-turned.ensures))

pub reached_from-requires-2-clause-nodes : goal.reached_from-requires-2-clause-nodes
reached_from-requires-2-clause-nodes g c =
    let at = goal.at.reached_from-requires-2-clause-nodes g c in
    let is = within g at.In_ok-within in
    let round = rw c.deref-3.ensures.value at c.in_ok-turned.ensures in
    rw (c.deref-4.ensures.value, c.deref-5.ensures.value) (λ k d lt. omega (
      arith,
      start g at.In_ok-starts at.In_ok-within is (in_field g at.In_ok-within) (get_or c.in_ok-starts.starts.items k d)
          (Contains-get_or c.in_ok-starts.starts.items k d lt),
      is.steps.count,
      round.count,
      length-items_of c.in_ok-turned.turned.items,
    ))

pub returns : goal.returns
returns g c =
    let at = goal.at.returns g c in
    let set = c.args.set.now in
    let flow = flow_of (g.F.Field.arithmetic c.args.complex.now.0) c.args.complex.now.1 c.args.partition.now in
    let round = rw c.deref-3.ensures.value at c.in_ok-turned.ensures in
    let both = λ (x : ℕ). rw (c.deref-6.ensures.value, c.deref-7.ensures.value) at (c.in_ok-part.ensures.same x) in
    let forward = λ (i : ℕ). rw (c.deref.ensures.value, c.deref-2.ensures.value) at (c.in_ok-forward.ensures.reach i) in
    let backward = λ (i : ℕ). rw (c.deref-4.ensures.value, c.deref-5.ensures.value) at (c.in_ok-backward.ensures.reach i) in
    let between = between_starts flow set c.in_ok-within.within.parts.items c.in_ok-within.within.firsts.items (items_of c.in_ok-within.within.steps.items)
    (in_field g at.In_ok-within) (within g at.In_ok-within) c.in_ok-starts.starts.items
    (items_of c.in_ok-turned.turned.items) c.in_ok-starts.ensures round in
    record {
      list = record {
        ascending = c.in_ok-part.ensures.ascending;
        cells = All-from_contained (λ q. q < length c.args.complex.now.1.faces) c.in_ok-part.part.items (λ x h. cell g at.In_ok-within x ((both x).0 h).0);
      };
      invariant = λ x. (
        (λ h. let k = ((both x).0 h).1 in subst (IsInInvariantPart flow set) k.2 ((between k.0 k.1).0 ((forward k.0).0 k.3, (backward k.0).0 k.4))),
        (λ inv.
            let here : Contains set x = inv.1 x inv.2 in
            let p = place_of set x here in
            let w = (between p.0 p.1).1 (subst (IsInInvariantPart flow set) (sym p.2) inv) in
            (both x).1 (here, (p.0, p.1, p.2, (forward p.0).1 w.0, (backward p.0).1 w.1))),
      );
    }
