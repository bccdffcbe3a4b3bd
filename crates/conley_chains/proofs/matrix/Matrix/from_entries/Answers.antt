use Rattle.std.proofs.Common.{length, take, arith, ◌==◌, subst, Option, refl}
use Rattle.conley_chains.specs.declared.error.MatrixError.{MatrixError}
use Rattle.conley_chains.specs.Faults.{triple_at, stands_in, is_outside, own_fault_within}
use Rattle.conley_chains.specs.Placing.{StopsAt}
use Rattle.conley_chains.proofs.FaultLemmas.{first_fault-repeated, first_fault-own, faultless-new, new-triple, stood-triple}
use Rattle.conley_chains.proofs.EntriesLemmas.{triples-AreApart, triples-not_zero, triples-codes, kept-KeepsRows, kept-code}
use Rattle.conley_chains.proofs.matrix.Matrix.from_entries.Goals as goal

pub returns-in-Some-clause-first : goal.returns-in-Some-clause-first
returns-in-Some-clause-first g c known =
    let es = c.args.entries.now in
    let ps = c.in_ok-placed.placed.items in
    let first = c.in-Some.ensures.first in
    rw (← c.order.ensures) (first_fault-repeated (length es) (length ps) (λ k. is_outside c.args.rows c.args.columns c.order.result (triple_at es k))
    (λ k. (triple_at es k).2 == 0)
    (λ k. stands_in (take k es) (triple_at es k).0 (triple_at es k).1)
    c.in_ok-placed.ensures.placed.within c.in_ok-placed.ensures.fine c.in-Some.k first.within
    (stood-triple es ps c.in_ok-placed.ensures.placed c.in-Some.k first)
    (new-triple es ps c.in_ok-placed.ensures.placed c.in-Some.k (omega (arith, first.within)) first.apart))

pub returns-in-Some-fault-clause-first : goal.returns-in-Some-fault-clause-first
returns-in-Some-fault-clause-first g c known =
    let es = c.args.entries.now in
    let ps = c.in_ok-placed.placed.items in
    let stops = subst (λ (f : Option MatrixError). StopsAt (own_fault_within c.args.rows c.args.columns c.order.result es) (length es) (length ps) f)
    c.in-Some-fault.is c.in_ok-placed.ensures.fault in
    rw (← c.order.ensures) (first_fault-own (length es) (length ps) (λ k. is_outside c.args.rows c.args.columns c.order.result (triple_at es k))
    (λ k. (triple_at es k).2 == 0)
    (λ k. stands_in (take k es) (triple_at es k).0 (triple_at es k).1)
    c.in_ok-placed.ensures.placed.within c.in_ok-placed.ensures.fine c.in-Some-fault.error stops.0 stops.1
    (new-triple es ps c.in_ok-placed.ensures.placed (length ps) (omega arith) c.in_default.ensures.none))

pub columns_of-requires-clause-apart : goal.columns_of-requires-clause-apart
columns_of-requires-clause-apart g c =
    rw c.deref.ensures.value (triples-AreApart c.args.rows c.args.columns c.order.result c.args.entries.now c.in_ok-placed.placed.items
    c.sort_by_place.new.placed.items
    c.in_ok-placed.ensures.placed c.in_ok-placed.ensures.fine c.sort_by_place.ensures.permutation c.sort_by_place.ensures.in_order c.in_default.ensures.none)

pub columns_of-requires-clause-not_zero : goal.columns_of-requires-clause-not_zero
columns_of-requires-clause-not_zero g c =
    rw c.deref.ensures.value (triples-not_zero c.args.rows c.args.columns c.order.result c.args.entries.now c.in_ok-placed.placed.items
    c.sort_by_place.new.placed.items
    c.in_ok-placed.ensures.placed c.in_ok-placed.ensures.fine c.sort_by_place.ensures.permutation c.sort_by_place.ensures.in_order c.in_default.ensures.none)

pub from_columns-requires : goal.from_columns-requires
from_columns-requires g c =
    let stops = subst (λ (f : Option MatrixError). StopsAt (own_fault_within c.args.rows c.args.columns c.order.result c.args.entries.now)
    (length c.args.entries.now) (length c.in_ok-placed.placed.items) f)
    c.in_default-fault.is c.in_ok-placed.ensures.fault in
    kept-KeepsRows c.args.rows c.args.columns c.order.result c.args.entries.now c.in_ok-placed.placed.items c.sort_by_place.new.placed.items
    c.in_ok-placed.ensures.placed c.in_ok-placed.ensures.fine c.sort_by_place.ensures.permutation c.sort_by_place.ensures.in_order c.in_default.ensures.none
    stops
    c.in_ok-kept.kept.items c.in_ok-kept.ensures.count (rw c.deref.ensures.value at c.in_ok-kept.ensures.entries)

pub returns-clause-faultless : goal.returns-clause-faultless
returns-clause-faultless g c k below =
    let es = c.args.entries.now in
    let ps = c.in_ok-placed.placed.items in
    let stops = subst (λ (f : Option MatrixError). StopsAt (own_fault_within c.args.rows c.args.columns c.order.result es) (length es) (length ps) f)
    c.in_default-fault.is c.in_ok-placed.ensures.fault in
    rw (← c.order.ensures) (faultless-new (length es) (length ps) (λ k. is_outside c.args.rows c.args.columns c.order.result (triple_at es k))
    (λ k. (triple_at es k).2 == 0)
    (λ k. stands_in (take k es) (triple_at es k).0 (triple_at es k).1)
    c.in_ok-placed.ensures.placed.within c.in_ok-placed.ensures.fine (new-triple es ps c.in_ok-placed.ensures.placed (length ps) (omega arith)
    c.in_default.ensures.none) k (omega (arith, stops)))

pub returns-clause-entries : goal.returns-clause-entries
returns-clause-entries g c row column =
    let stops = subst (λ (f : Option MatrixError). StopsAt (own_fault_within c.args.rows c.args.columns c.order.result c.args.entries.now)
    (length c.args.entries.now) (length c.in_ok-placed.placed.items) f)
    c.in_default-fault.is c.in_ok-placed.ensures.fault in
    rw c.from_columns.ensures (kept-code c.args.rows c.args.columns c.order.result c.args.entries.now c.in_ok-placed.placed.items
    c.sort_by_place.new.placed.items
    c.in_ok-placed.ensures.placed c.in_ok-placed.ensures.fine c.sort_by_place.ensures.permutation c.sort_by_place.ensures.in_order c.in_default.ensures.none
    stops
    c.in_ok-kept.kept.items c.in_ok-kept.ensures.count (rw c.deref.ensures.value at c.in_ok-kept.ensures.entries) row column)

pub returns-clause-table : goal.returns-clause-table
returns-clause-table g c =
    let stops = subst (λ (f : Option MatrixError). StopsAt (own_fault_within c.args.rows c.args.columns c.order.result c.args.entries.now)
    (length c.args.entries.now) (length c.in_ok-placed.placed.items) f)
    c.in_default-fault.is c.in_ok-placed.ensures.fault in
    rw c.from_columns.ensures (record {
      rows = refl;
      columns = c.in_ok-kept.ensures.count;
      codes = rw (← c.order.ensures) (c.in_ok-kept.ensures.codes c.order.result (rw c.deref.ensures.value
          (triples-codes c.args.rows c.args.columns c.order.result c.args.entries.now c.in_ok-placed.placed.items
          c.sort_by_place.new.placed.items c.in_ok-placed.ensures.placed c.in_ok-placed.ensures.fine c.sort_by_place.ensures.permutation
          c.sort_by_place.ensures.in_order c.in_default.ensures.none)));
      keeps_rows = kept-KeepsRows c.args.rows c.args.columns c.order.result c.args.entries.now c.in_ok-placed.placed.items c.sort_by_place.new.placed.items
          c.in_ok-placed.ensures.placed c.in_ok-placed.ensures.fine c.sort_by_place.ensures.permutation c.sort_by_place.ensures.in_order
          c.in_default.ensures.none stops
          c.in_ok-kept.kept.items c.in_ok-kept.ensures.count (rw c.deref.ensures.value at c.in_ok-kept.ensures.entries);
    })
