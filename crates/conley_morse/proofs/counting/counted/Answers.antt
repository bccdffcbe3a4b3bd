-- one class more
use Rattle.std.proofs.Common.{arith, ◌≡◌, ◌<◌, [], length, get_or, sym, ◌∙◌}
use Rattle.std.proofs.lemmas.Iterator.Consumers.{YieldsList-turn}
use Rattle.std.proofs.lemmas.Iterator.Adapters.{YieldsList-from_vec}
use Rattle.std.proofs.lemmas.List.{length_push}
use Rattle.conley_lists.specs.Lists.{items_of}
use Rattle.conley_lists.proofs.ListLemmas.{row_of, length-items_of, All-from_contained}
use Rattle.conley_graph.specs.Decomposition.{flow_of}
use Rattle.conley_morse.proofs.RegularLemmas.{class_counts, class_passed}
use Rattle.conley_transitions.proofs.ClassLemmas.{class_cells, class_closed}
use Rattle.conley_morse.proofs.CountedLemmas.{counted_same, counted_more}
use Rattle.conley_morse.proofs.counting.counted.Goals as goal

pub numbers_where_counted-requires-clause-some : goal.numbers_where_counted-requires-clause-some
numbers_where_counted-requires-clause-some g c =
    let all = c.args.classes.items in
    let n = length c.loop-class.yielded in
    let given = c.into_iter-class-iterator.ensures.into_iter_gives in
    let t : (n < length all) × (c.in-Some.class ≡ get_or all n c.in-Some.class) = YieldsList-turn
    (YieldsList-from_vec {s = c.into_iter-class-iterator.result} all given.0 (given.1 ∙ c.args.classes.ok.0)) c.loop-class.yielded
    c.loop-class.class-iterator c.loop-class.yielded_by c.next.result c.next.new.self c.in-Some.class c.in-Some.is c.next.ensures.steps in
    let is = row_of all n c.in-Some.class t.0 t.1 in
    rw (c.deref.ensures.value, ← is) (c.requires.classes.non_empty n (omega (arith, t.0, length-items_of all)))

pub numbers_where_counted-requires-clause-cells : goal.numbers_where_counted-requires-clause-cells
numbers_where_counted-requires-clause-cells g c =
    let all = c.args.classes.items in
    let n = length c.loop-class.yielded in
    let given = c.into_iter-class-iterator.ensures.into_iter_gives in
    let t : (n < length all) × (c.in-Some.class ≡ get_or all n c.in-Some.class) = YieldsList-turn
    (YieldsList-from_vec {s = c.into_iter-class-iterator.result} all given.0 (given.1 ∙ c.args.classes.ok.0)) c.loop-class.yielded
    c.loop-class.class-iterator c.loop-class.yielded_by c.next.result c.next.new.self c.in-Some.class c.in-Some.is c.next.ensures.steps in
    let is = row_of all n c.in-Some.class t.0 t.1 in
    rw (c.deref.ensures.value, ← is) (All-from_contained (λ x. x < length c.args.partition.now) (get_or (items_of all) n []) (c.requires.classes.cells n))

pub numbers_where_counted-requires-clause-set : goal.numbers_where_counted-requires-clause-set
numbers_where_counted-requires-clause-set g c =
    let all = c.args.classes.items in
    let n = length c.loop-class.yielded in
    let given = c.into_iter-class-iterator.ensures.into_iter_gives in
    let t : (n < length all) × (c.in-Some.class ≡ get_or all n c.in-Some.class) = YieldsList-turn
    (YieldsList-from_vec {s = c.into_iter-class-iterator.result} all given.0 (given.1 ∙ c.args.classes.ok.0)) c.loop-class.yielded
    c.loop-class.class-iterator c.loop-class.yielded_by c.next.result c.next.new.self c.in-Some.class c.in-Some.is c.next.ensures.steps in
    let is = row_of all n c.in-Some.class t.0 t.1 in
    rw (c.deref.ensures.value, ← is) (class_cells (flow_of (g.F.Field.arithmetic c.args.complex.now.0) c.args.complex.now.1 c.args.partition.now)
    c.requires.field (items_of all) c.requires.classes n)

pub numbers_where_counted-requires-clause-closed : goal.numbers_where_counted-requires-clause-closed
numbers_where_counted-requires-clause-closed g c =
    let all = c.args.classes.items in
    let n = length c.loop-class.yielded in
    let given = c.into_iter-class-iterator.ensures.into_iter_gives in
    let t : (n < length all) × (c.in-Some.class ≡ get_or all n c.in-Some.class) = YieldsList-turn
    (YieldsList-from_vec {s = c.into_iter-class-iterator.result} all given.0 (given.1 ∙ c.args.classes.ok.0)) c.loop-class.yielded
    c.loop-class.class-iterator c.loop-class.yielded_by c.next.result c.next.new.self c.in-Some.class c.in-Some.is c.next.ensures.steps in
    let is = row_of all n c.in-Some.class t.0 t.1 in
    rw (c.deref.ensures.value, ← is) (class_closed (flow_of (g.F.Field.arithmetic c.args.complex.now.0) c.args.complex.now.1 c.args.partition.now)
    c.requires.field (items_of all) c.requires.classes n)

pub loop-class-preserved : goal.loop-class-preserved
loop-class-preserved g c =
    let all = c.args.classes.items in
    let n = length c.loop-class.yielded in
    let given = c.into_iter-class-iterator.ensures.into_iter_gives in
    let t : (n < length all) × (c.in-Some.class ≡ get_or all n c.in-Some.class) = YieldsList-turn
    (YieldsList-from_vec {s = c.into_iter-class-iterator.result} all given.0 (given.1 ∙ c.args.classes.ok.0)) c.loop-class.yielded
    c.loop-class.class-iterator c.loop-class.yielded_by c.next.result c.next.new.self c.in-Some.class c.in-Some.is c.next.ensures.steps in
    let is = row_of all n c.in-Some.class t.0 t.1 in
    let below : n < length (items_of all) = omega (arith, t.0, length-items_of all) in
    let passed = rw (c.deref.ensures.value, ← is) at (rw c.in_default.is at c.in_ok-of_class.ensures.passed) in
    rw (length_push c.loop-class.yielded c.in-Some.class)
    (counted_same {F = g.F.Field.arithmetic c.args.complex.now.0} c.args.complex.now.1 c.args.partition.now (items_of all) c.requires.classes n below
    (items_of c.loop-class.sets.items) (items_of c.loop-class.numbers.items) c.loop-class.invariant
    (class_passed c.args.complex.now.1 c.args.partition.now (items_of all) c.requires.classes n below {F = g.F.Field.arithmetic c.args.complex.now.0} passed.0
    passed.1))

pub loop-class-preserved-in-Continue-branch-4 : goal.loop-class-preserved-in-Continue-branch-4
loop-class-preserved-in-Continue-branch-4 g c =
    let all = c.args.classes.items in
    let n = length c.loop-class.yielded in
    let given = c.into_iter-class-iterator.ensures.into_iter_gives in
    let t : (n < length all) × (c.in-Some.class ≡ get_or all n c.in-Some.class) = YieldsList-turn
    (YieldsList-from_vec {s = c.into_iter-class-iterator.result} all given.0 (given.1 ∙ c.args.classes.ok.0)) c.loop-class.yielded
    c.loop-class.class-iterator c.loop-class.yielded_by c.next.result c.next.new.self c.in-Some.class c.in-Some.is c.next.ensures.steps in
    let is = row_of all n c.in-Some.class t.0 t.1 in
    let below : n < length (items_of all) = omega (arith, t.0, length-items_of all) in
    let counts = rw (c.deref.ensures.value, ← is) at (rw c.in-Some-2.is at c.in_ok-of_class.ensures.counted) in
    let numbers = rw (c.deref.ensures.value, ← is) at (rw c.in-Some-2.is at c.in_ok-of_class.ensures.numbers) in
    rw (length_push c.loop-class.yielded c.in-Some.class, c.in_ok-push.ensures.items, c.in_ok-push-2.ensures.items)
    (counted_more {F = g.F.Field.arithmetic c.args.complex.now.0} c.args.complex.now.1 c.args.partition.now (items_of all) c.requires.classes n below
    c.loop-class.sets.items c.loop-class.numbers.items c.in-Some.class c.in-Some-2.of_class (sym is) c.loop-class.invariant
    (class_counts c.args.complex.now.1 c.args.partition.now (items_of all) c.requires.classes n below {F = g.F.Field.arithmetic c.args.complex.now.0} counts)
    numbers)
