use Rattle.std.proofs.Common.{arith, ℕ, length, ap, sym, subst}
use Rattle.std.specs.Prelude.{◌↔◌}
use Rattle.conley_lists.specs.Lists.{items_of, ListedStep, IsDigraph, entries_of}
use Rattle.conley_lists.proofs.ListLemmas.{length-items_of}
use Rattle.conley_lists.proofs.EntryLemmas.{none_out_of_range}
use Rattle.conley_lefschetz.specs.Fault.{StoodBefore}
use Rattle.conley_lefschetz.proofs.FaceLemmas.{ends, no_cycle}
use Rattle.conley_lefschetz.proofs.incidences.faces_of.Goals as goal

pub face_lists-requires : goal.face_lists-requires
face_lists-requires c = λ k lt. (ends c.args.dims.now c.args.incidences.now c.requires.faultless k lt).0

pub new-requires : goal.new-requires
new-requires c =
    omega (
      arith,
      ap length c.deref.ensures.value,
      ap (λ l. length (entries_of (items_of l))) c.deref.ensures.value,
      c.in_ok-lists.ensures.count,
      c.in_ok-lists.ensures.entries,
      c.requires.few,
    )

pub returns-in-Ok : goal.returns-in-Ok
returns-in-Ok c =
    let steps = subst (λ l. (x y : ℕ) → ListedStep (items_of l) x y ↔ StoodBefore c.args.incidences.now (length c.args.incidences.now) x y)
    (sym c.deref.ensures.value) c.in_ok-lists.ensures.steps in
    record {
      count = omega (arith, c.in-Ok.ensures.ok.1.count, length-items_of c.deref.result.now, ap length c.deref.ensures.value, c.in_ok-lists.ensures.count);
      steps = λ x y. (
        (λ s. (steps x y).0 ((c.in-Ok.ensures.ok.1.same x y).0 s)),
        (λ s. (c.in-Ok.ensures.ok.1.same x y).1 ((steps x y).1 s)),
      );
      ascending = c.in-Ok.ensures.ok.1.ascending;
    }

pub unreachable-requires : goal.unreachable-requires
unreachable-requires c =
    let steps = subst (λ l. (x y : ℕ) → ListedStep (items_of l) x y ↔ StoodBefore c.args.incidences.now (length c.args.incidences.now) x y)
    (sym c.deref.ensures.value) c.in_ok-lists.ensures.steps in
    let digraph : IsDigraph (items_of c.deref.result.now) = λ x y s.
    let u = (steps x y).0 s in
    omega (
      arith,
      (ends c.args.dims.now c.args.incidences.now c.requires.faultless u.0 u.1).1,
      u.3,
      length-items_of c.deref.result.now,
      ap length c.deref.ensures.value,
      c.in_ok-lists.ensures.count,
    ) in
    none_out_of_range (items_of c.deref.result.now) digraph c.in-Err-Range.field-0-0 (c.in-Err-Range.ensures.range c.in-Err-Range.field-0-0 (cc))

pub unreachable-requires-in-Err-Cycle : goal.unreachable-requires-in-Err-Cycle
unreachable-requires-in-Err-Cycle c =
    let steps = subst (λ l. (x y : ℕ) → ListedStep (items_of l) x y ↔ StoodBefore c.args.incidences.now (length c.args.incidences.now) x y)
    (sym c.deref.ensures.value) c.in_ok-lists.ensures.steps in
    no_cycle c.args.dims.now c.args.incidences.now c.requires.faultless (items_of c.deref.result.now) (λ x y s. (steps x y).0 s) c.in-Err-Cycle.field-0-0
    (c.in-Err-Cycle.ensures.cycle c.in-Err-Cycle.field-0-0 (cc)).1.below
