-- the row of one class more
use Rattle.std.proofs.Common.{arith, ◌≡◌, ◌<◌, length, sym, ◌∙◌, subst, Vec, Global, ℕ}
use Rattle.std.specs.Prelude.{slice_index}
use Rattle.std.proofs.Math.ListN.{length-set}
use Rattle.std.proofs.lemmas.List.{map-set}
use Rattle.conley_lists.specs.Lists.{items_of}
use Rattle.conley_lists.proofs.ListLemmas.{length-items_of}
use Rattle.conley_digraph.specs.Rows.{IsRowOf}
use Rattle.conley_digraph.proofs.RowLemmas.{members_of, all_rows, have_rows, rows_more}
use Rattle.conley_digraph.proofs.rows.class_rows.Goals as goal

pub row_of-requires-clause-members : goal.row_of-requires-clause-members
row_of-requires-clause-members c =
    let class_of = c.args.class_of.now in
    let members = c.in_ok-members.members.items in
    let x = slice_index c.args.order.now c.loop-x.x-index in
    let count : length class_of ≡ length c.args.steps.now = c.requires.classes.count ∙ length-items_of c.args.steps.now in
    let within = c.in_ok-members.ensures.below x (omega (arith, c.requires.order.nodes c.loop-x.x-index c.loop-x-test.true, c.requires.classes.count)) in
    members_of class_of members (length c.args.steps.now) (slice_index class_of x) c.index.result.now c.deref-in-loop-x.result.now c.in_ok-members.ensures count
    (omega (arith, within, length-items_of members)) c.index.ensures c.deref-in-loop-x.ensures.value

pub row_of-requires-clause-rows : goal.row_of-requires-clause-rows
row_of-requires-clause-rows c =
    rw c.deref.ensures.value (λ x lx e.
    have_rows (items_of c.args.steps.now) c.args.class_of.now c.args.order.now c.loop-x.x-index (items_of c.loop-x.rows.items) c.loop-x.invariant.so_far
    c.requires.order c.requires.digraph c.loop-x-test.true
    x (omega (arith, lx, length-items_of c.args.steps.now)) e)

pub loop-x-preserved : goal.loop-x-preserved
loop-x-preserved c =
    let lists = items_of c.args.steps.now in
    let class_of = c.args.class_of.now in
    let rows = c.loop-x.rows.items in
    let row = c.in_ok-row.row in
    let x = slice_index c.args.order.now c.loop-x.x-index in
    let class = slice_index class_of x in
    let node = c.requires.order.nodes c.loop-x.x-index c.loop-x-test.true in
    let within : class < length (items_of rows) = omega (
      arith,
      c.in_ok-members.ensures.below x (omega (arith, node, c.requires.classes.count)),
      c.loop-x.invariant.count,
      length-items_of rows,
      length-items_of c.in_ok-members.members.items,
    ) in
    let made = rw c.deref.ensures.value at c.in_ok-row.ensures in
    rw (map-set (λ (r : Vec ℕ Global). r.items) rows class row) (record {
      count = length-set rows class row ∙ c.loop-x.invariant.count;
      so_far = rows_more lists class_of c.args.order.now c.loop-x.x-index (items_of rows) c.loop-x.invariant.so_far row.items within
          (λ y ly e. subst (λ n. IsRowOf lists class_of n y row.items) (sym (length-items_of rows))
          (made y (omega (arith, ly, length-items_of c.args.steps.now)) e));
    })

pub returns : goal.returns
returns c =
    let rows = c.loop-x.rows.items in
    let members = c.in_ok-members.members.items in
    all_rows (items_of c.args.steps.now) c.args.class_of.now c.args.order.now c.loop-x.x-index (items_of rows) (items_of members) c.loop-x.invariant.so_far
    (omega (arith, c.loop-x-test.false)) c.requires.order
    c.in_ok-members.ensures c.requires.classes.count (omega (arith, c.loop-x.invariant.count, length-items_of rows, length-items_of members))
