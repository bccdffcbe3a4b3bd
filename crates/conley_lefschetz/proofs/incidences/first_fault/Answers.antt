use Rattle.std.proofs.Common.{arith, refl, map, ap, sym, ◌∙◌, subst, ℕ}
use Rattle.std.proofs.lemmas.List.{take_all, get_or_default}
use Rattle.conley_lefschetz.specs.Making.{cells_in_triple, NextFault}
use Rattle.conley_lefschetz.proofs.IncidenceLemmas.{fault_here, none_more, stood_keys, keys_more}
use Rattle.conley_lefschetz.proofs.incidences.first_fault.Goals as goal

pub returns-then-why-ne0-clause-fault : goal.returns-then-why-ne0-clause-fault
returns-then-why-ne0-clause-fault c =
    let stood = stood_keys c.args.incidences.now c.loop-k.k (omega (arith, c.loop-k-test.true)) c.loop-k.stood.keys c.loop-k.invariant.places in
    let at = get_or_default c.args.incidences.now c.loop-k.k (0, 0, 0) c.index-incidences-k.result c.loop-k-test.true ∙ sym c.index-incidences-k.is in
    let next = subst (λ (i : ℕ × ℕ × ℕ). NextFault c.args.dims.now c.loop-k.stood.keys c.next_fault.new.stood.keys i.0 i.1 i.2 c.in_ok-why.why) (sym at)
    c.in_ok-why.ensures in
    fault_here c.args.dims.now c.args.incidences.now c.loop-k.k c.loop-k-test.true c.loop-k.stood.keys c.next_fault.new.stood.keys stood
    c.loop-k.invariant.none c.in_ok-why.why c.if-why-ne0.true next

pub loop-k-preserved : goal.loop-k-preserved
loop-k-preserved c =
    let stood = stood_keys c.args.incidences.now c.loop-k.k (omega (arith, c.loop-k-test.true)) c.loop-k.stood.keys c.loop-k.invariant.places in
    let at = get_or_default c.args.incidences.now c.loop-k.k (0, 0, 0) c.index-incidences-k.result c.loop-k-test.true ∙ sym c.index-incidences-k.is in
    let next = subst (λ (i : ℕ × ℕ × ℕ). NextFault c.args.dims.now c.loop-k.stood.keys c.next_fault.new.stood.keys i.0 i.1 i.2 c.in_ok-why.why) (sym at)
    c.in_ok-why.ensures in
    let n = rw c.if-why-ne0.false at next in
    record {
      places = keys_more c.args.incidences.now c.loop-k.k c.loop-k-test.true c.loop-k.stood.keys c.next_fault.new.stood.keys c.loop-k.invariant.places
          (n.noted refl);
      none = none_more c.args.dims.now c.args.incidences.now c.loop-k.k c.loop-k-test.true c.loop-k.stood.keys c.next_fault.new.stood.keys stood
          c.loop-k.invariant.none n;
    }

pub returns-clause-fault : goal.returns-clause-fault
returns-clause-fault c = λ l q fault. c.loop-k.invariant.none l q (omega (arith, fault.0, c.loop-k-test.false)) fault

pub returns-clause-noted : goal.returns-clause-noted
returns-clause-noted c = λ _. c.loop-k.invariant.places ∙ ap (map cells_in_triple) (take_all c.loop-k.k c.args.incidences.now
    (omega (arith, c.loop-k-test.false)))
