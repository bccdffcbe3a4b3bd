use Rattle.std.proofs.Common.{arith, ◌≡◌, ◌<◌, ◌+◌, length, ◌≤◌, take, drop, ap, length-append}
use Rattle.conley_lists.specs.Lists.{items_of, entries_of}
use Rattle.conley_lists.proofs.ListLemmas.{length-items_of, take_whole}
use Rattle.conley_lists.proofs.EntryLemmas.{entries_split, entries_more, first_found, digraph_from_entries}
use Rattle.std.proofs.lemmas.List.Elements.{All-append}
use Rattle.conley_lists.proofs.lists.first_out_of_range.Goals as goal
use Rattle.conley_lists.proofs.lists.first_out_of_range.Goals.{After-list-item}

-- the entries so far and those of this list are no more than all
within : (c : After-list-item) → c.loop-list.before + length c.list-item.result.items ≤ length (entries_of (items_of c.args.lists.now))
within c =
    let split = entries_split c.args.lists.now c.loop-list.list-index c.list-item.result c.loop-list-test.true c.list-item.is in
    let total = ap length split in
    let parts = simp length-append at total in
    omega (arith, parts, c.loop-list.invariant.counted)

pub overflow_add-result : goal.overflow_add-result
overflow_add-result c = let found = rw c.deref.ensures.value at c.in-Some.ensures.found in
    omega (arith, within (goal.at.overflow_add-result c).After-list-item, found.0, c.requires)

pub overflow_cast-result : goal.overflow_cast-result
overflow_cast-result c = let found = rw c.deref.ensures.value at c.in-Some.ensures.found in
    omega (arith, within (goal.at.overflow_cast-result c).After-list-item, found.0, c.requires)

pub returns-in-Some-clause-found : goal.returns-in-Some-clause-found
returns-in-Some-clause-found c =
    let rows = c.args.lists.now in
    let i = c.loop-list.list-index in
    let found = rw c.deref.ensures.value at c.in-Some.ensures.found in
    rw c.loop-list.invariant.counted
    (first_found (items_of rows) (entries_of (items_of (take i rows))) c.list-item.result.items (entries_of (items_of (drop (i + 1) rows))) (length rows)
    c.in-Some.place
    (entries_split rows i c.list-item.result c.loop-list-test.true c.list-item.is) (length-items_of rows) c.loop-list.invariant.in_range found.2 found.0
    found.1)

pub overflow_add-before : goal.overflow_add-before
overflow_add-before c = omega (arith, within (goal.at.overflow_add-before c).After-list-item, c.len-before.ensures, c.list-item.result.ok.0, c.requires)

pub loop-list-preserved : goal.loop-list-preserved
loop-list-preserved c =
    let more = entries_more c.args.lists.now c.loop-list.list-index c.list-item.result c.loop-list-test.true c.list-item.is in
    let none = rw c.deref.ensures.value at c.in_default.ensures.none in
    record {
      counted = rw more (simp length-append (omega (arith, c.loop-list.invariant.counted, c.len-before.ensures, c.list-item.result.ok.0)));
      in_range = rw more (All-append (λ y. y < length c.args.lists.now) _ _ c.loop-list.invariant.in_range none);
    }

pub returns-clause-none : goal.returns-clause-none
returns-clause-none c =
    let all : take c.loop-list.list-index c.args.lists.now ≡ c.args.lists.now = take_whole _ _ c.loop-list-test.false in
    let in_range = rw all at c.loop-list.invariant.in_range in
    digraph_from_entries (items_of c.args.lists.now) (rw (length-items_of c.args.lists.now) in_range)
