use Rattle.std.proofs.Common.{arith, ◌≡◌, ◌<◌, ◌^◌, ℕ, [], Option, Some, None, length, get_or, sym, ◌∙◌, subst}
use Rattle.conley_first.specs.Places.{FindsFirst, FindsFirstPlace}
use Rattle.conley_lists.specs.Lists.{items_of, ListedStep}
use Rattle.conley_lists.proofs.ListLemmas.{length-items_of}
use Rattle.conley_faces.specs.Face.{IsGap}
use Rattle.conley_mvf.specs.Partition.{IsWhole}
use Rattle.conley_mvf.specs.Fault.{IsUnknown, IsFirstFault, IsClear}
use Rattle.conley_mvf.specs.Making.{FindsFirstGap, TellsFirst, NumbersSoFar}
use Rattle.conley_mvf.specs.declared.error.PartError.{PartError}
use Rattle.conley_mvf.specs.declared.error.PartError.TheVariants.{Repeated, EmptyPart, Gap}
use Rattle.conley_mvf.proofs.FaultLemmas.{first_repeated, first_empty, first_gap, clear_unknown, clear_repeated, clear_empty, accepted}
use Rattle.conley_mvf.proofs.GapLemmas.{gaps_of_same}
use Rattle.conley_mvf.proofs.WholeLemmas.{list_within_entries, all_known, cell_lists, is_partition, are_closed, firsts_are_least, numbers_are_whole}
use Rattle.conley_mvf.proofs.partition.Partition.whole.Goals.{In_default, In_default-2, In_default-first_empty, In_default-first_gap, After-deref-3, After-deref-4}
use Rattle.conley_mvf.proofs.partition.Partition.whole.Goals as goal

-- all numbers are cells
cells : (c : In_default) → (k x : ℕ) → ListedStep (items_of c.args.parts.now) k x → x < c.count-count.result
cells c = all_known c.count-count.result (items_of c.args.parts.now) c.in_default.ensures

-- no number is unknown, and none stood earlier
known : (c : In_default-2) → IsClear c.args.faces.now (items_of c.args.parts.now) 3
known c =
    let faces = c.args.faces.now in
    let lists = items_of c.args.parts.now in
    let unknown = subst (λ n. FindsFirst (IsUnknown n lists) None) c.count-count.ensures.count c.in_default.ensures in
    clear_repeated faces lists (clear_unknown faces lists unknown) (rw c.in_default-2.is at c.in_ok-list.ensures)

-- no list is empty either
filled : (c : In_default-first_empty) → IsClear c.args.faces.now (items_of c.args.parts.now) 3 → IsClear c.args.faces.now (items_of c.args.parts.now) 4
filled c before =
    let none = subst (λ n. FindsFirstPlace n (λ k. get_or (items_of c.args.parts.now) k [] ≡ []) None) (sym (length-items_of c.args.parts.now))
    c.in_default-first_empty.ensures in
    clear_empty c.args.faces.now (items_of c.args.parts.now) before none

-- no list has a gap
closed : (c : In_default-first_gap) → FindsFirstGap (λ k. IsGap c.args.faces.now (get_or (items_of c.args.parts.now) k [])) None
closed c = gaps_of_same c.args.faces.now (items_of c.in_ok-lists.lists.items) (items_of c.args.parts.now) c.in_ok-lists.ensures.same None
    (rw c.deref.ensures.value at c.in_default-first_gap.ensures)

-- the first cell of the list of each cell
tells : (c : After-deref-3) → TellsFirst (items_of c.in_ok-lists.lists.items) (length (items_of c.in_ok-lists.lists.items)) c.count-count.result
    c.in_ok-least.least.items
tells c = rw (length-items_of c.in_ok-lists.lists.items) (rw c.deref-2.ensures.value at c.in_ok-least.ensures)

-- the numbers of the parts
numbers : (c : After-deref-4) → (next : ℕ) × NumbersSoFar c.in_ok-least.least.items (length c.in_ok-least.least.items) c.in_ok-part_of.part_of.items next
numbers c = rw c.deref-3.ensures.value at c.in_ok-part_of.ensures

whole : (c : After-deref-4) → TellsFirst (items_of c.in_ok-lists.lists.items) (length (items_of c.in_ok-lists.lists.items)) c.count-count.result
    c.in_ok-least.least.items → IsWhole (items_of c.args.parts.now) c.in_ok-part_of.part_of.items
whole c tells =
    numbers_are_whole c.count-count.result (items_of c.args.parts.now) (items_of c.in_ok-lists.lists.items) c.in_ok-lists.ensures c.in_default.ensures
    (rw c.in_default-2.is at c.in_ok-list.ensures) c.in_ok-least.least.items tells
    c.in_ok-part_of.part_of.items (numbers c).0 (numbers c).1

pub overflow_cast-result-in-Some : goal.overflow_cast-result-in-Some
overflow_cast-result-in-Some c = omega (arith, c.in-Some.ensures.0.0, list_within_entries (items_of c.args.parts.now) c.in-Some.list, c.requires.entries)

pub first_repeat-requires : goal.first_repeat-requires
first_repeat-requires c = cells (goal.at.first_repeat-requires c).In_default

pub overflow_cast-result-in-Some-2-2 : goal.overflow_cast-result-in-Some-2-2
overflow_cast-result-in-Some-2-2 c =
    let found = rw c.in-Some-2.is at c.in_ok-list.ensures in
    omega (arith, found.0.3.0, list_within_entries (items_of c.args.parts.now) c.in-Some-2.list, c.requires.entries)

pub returns-in-Some-2-clause-err : goal.returns-in-Some-2-clause-err
returns-in-Some-2-clause-err c = λ error e ne.
    let faces = c.args.faces.now in
    let lists = items_of c.args.parts.now in
    let unknown = subst (λ n. FindsFirst (IsUnknown n lists) None) c.count-count.ensures.count c.in_default.ensures in
    let same : Repeated c.in-Some-2.list c.in-Some-2.place ≡ error = cc in
    subst (λ (fault : PartError). IsFirstFault faces lists fault) same
    (first_repeated faces lists (clear_unknown faces lists unknown) c.in-Some-2.list c.in-Some-2.place (rw c.in-Some-2.is at c.in_ok-list.ensures))

pub returns-in-Some-first_empty-clause-err : goal.returns-in-Some-first_empty-clause-err
returns-in-Some-first_empty-clause-err c = λ error e ne.
    let faces = c.args.faces.now in
    let lists = items_of c.args.parts.now in
    let same : EmptyPart c.in-Some-first_empty.k ≡ error = cc in
    let found = subst (λ n. FindsFirstPlace n (λ k. get_or lists k [] ≡ []) (Some c.in-Some-first_empty.k)) (sym (length-items_of c.args.parts.now))
    c.in-Some-first_empty.ensures in
    subst (λ (fault : PartError). IsFirstFault faces lists fault) same
    (first_empty faces lists (known (goal.at.returns-in-Some-first_empty-clause-err c).In_default-2) c.in-Some-first_empty.k found)

pub first_gap-requires : goal.first_gap-requires
first_gap-requires c =
    let d = (goal.at.first_gap-requires c).In_default in
    rw c.deref.ensures.value
    (cell_lists c.args.faces.now (items_of c.in_ok-lists.lists.items) (items_of c.args.parts.now) c.in_ok-lists.ensures
    (λ k x s. omega (arith, cells d k x s, c.count-count.ensures.count)))

pub returns-in-Some-first_gap-clause-err : goal.returns-in-Some-first_gap-clause-err
returns-in-Some-first_gap-clause-err c = λ error e ne.
    let faces = c.args.faces.now in
    let lists = items_of c.args.parts.now in
    let at = goal.at.returns-in-Some-first_gap-clause-err c in
    let answer : Option (ℕ × (ℕ × ℕ × ℕ)) = Some (c.in-Some-first_gap.k, (c.in-Some-first_gap.x, c.in-Some-first_gap.y, c.in-Some-first_gap.z)) in
    let same : Gap c.in-Some-first_gap.k c.in-Some-first_gap.x c.in-Some-first_gap.y c.in-Some-first_gap.z ≡ error = cc in
    let found = gaps_of_same faces (items_of c.in_ok-lists.lists.items) lists c.in_ok-lists.ensures.same answer
    (rw c.deref.ensures.value at c.in-Some-first_gap.ensures) in
    subst (λ (fault : PartError). IsFirstFault faces lists fault) same
    (first_gap faces lists (filled at.In_default-first_empty (known at.In_default-2)) c.in-Some-first_gap.k c.in-Some-first_gap.x c.in-Some-first_gap.y
    c.in-Some-first_gap.z found)

pub firsts_of-requires-clause-cells : goal.firsts_of-requires-clause-cells
firsts_of-requires-clause-cells c =
    let d = (goal.at.firsts_of-requires-clause-cells c).In_default in
    rw c.deref-2.ensures.value (λ k x s. cells d k x ((c.in_ok-lists.ensures.same k x).0 s))

pub numbers_of-requires-clause-least : goal.numbers_of-requires-clause-least
numbers_of-requires-clause-least c =
    let tells = tells (goal.at.numbers_of-requires-clause-least c).After-deref-3 in
    rw c.deref-3.ensures.value
    (firsts_are_least c.count-count.result (items_of c.args.parts.now) (items_of c.in_ok-lists.lists.items) c.in_ok-lists.ensures c.in_default.ensures
    (rw c.in_default-2.is at c.in_ok-list.ensures) c.in_ok-least.least.items tells)

pub gathered-requires-clause-few : goal.gathered-requires-clause-few
gathered-requires-clause-few c =
    let at = goal.at.gathered-requires-clause-few c in
    let d = at.After-deref-4 in
    let few : length c.in_ok-least.least.items < 2 ^ 32 = omega (
      arith,
      (tells at.After-deref-3).count,
      c.count-count.ensures.count,
      c.count-count.ensures.order.few,
    ) in
    rw c.deref-4.ensures.value (is_partition c.in_ok-least.least.items c.in_ok-part_of.part_of.items (numbers d).0 few (numbers d).1).few

pub gathered-requires-clause-in_order : goal.gathered-requires-clause-in_order
gathered-requires-clause-in_order c =
    let at = goal.at.gathered-requires-clause-in_order c in
    let d = at.After-deref-4 in
    let few : length c.in_ok-least.least.items < 2 ^ 32 = omega (
      arith,
      (tells at.After-deref-3).count,
      c.count-count.ensures.count,
      c.count-count.ensures.order.few,
    ) in
    rw c.deref-4.ensures.value (is_partition c.in_ok-least.least.items c.in_ok-part_of.part_of.items (numbers d).0 few (numbers d).1).in_order

pub returns-clause-parts : goal.returns-clause-parts
returns-clause-parts c = whole (goal.at.returns-clause-parts c).After-deref-4 (tells (goal.at.returns-clause-parts c).After-deref-3)

pub returns-clause-closed : goal.returns-clause-closed
returns-clause-closed c =
    let at = goal.at.returns-clause-closed c in
    let tells = tells at.After-deref-3 in
    let count : length c.in_ok-part_of.part_of.items ≡ length c.args.faces.now = (numbers at.After-deref-4).1.count ∙ tells.count
    ∙ c.count-count.ensures.count in
    are_closed c.args.faces.now (items_of c.args.parts.now) c.in_ok-part_of.part_of.items c.count-count.ensures.order count (whole at.After-deref-4 tells)
    (closed at.In_default-first_gap)

pub returns-clause-accepted : goal.returns-clause-accepted
returns-clause-accepted c =
    let at = goal.at.returns-clause-accepted c in
    accepted c.args.faces.now (items_of c.args.parts.now) (filled at.In_default-first_empty (known at.In_default-2)) (closed at.In_default-first_gap)
