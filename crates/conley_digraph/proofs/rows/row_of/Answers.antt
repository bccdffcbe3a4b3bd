-- one member more
use Rattle.std.proofs.Common.{arith, ◌≡◌, inl, inr, ◌+◌, ◌/◌, length, sym, ap, ◌∙◌, subst, take}
use Rattle.std.specs.Prelude.{Contains, slice_index}
use Rattle.std.proofs.Math.ListN.{replicate}
use Rattle.std.proofs.lemmas.List.{take_more, take_all}
use Rattle.std.proofs.lemmas.List.Elements.{Contains-get_or, Contains-push_cases}
use Rattle.conley_lists.specs.Lists.{items_of, ListedStep}
use Rattle.conley_lists.proofs.ListLemmas.{Contains-none, lent_whole, length-items_of}
use Rattle.conley_digraph.specs.Rows.{IsRowSoFar}
use Rattle.conley_digraph.proofs.RowLemmas.{row_start, row_done}
use Rattle.conley_digraph.proofs.rows.row_of.Goals as goal

pub loop-x-init : goal.loop-x-init
loop-x-init c =
    let old = c.in_ok-row.row.items in
    let empty : old ≡ replicate (length c.args.rows.now / 64 + 1) 0 = c.in_ok-row.ensures.items_if_clones_equal (λ y e. e) in
    let bits = rw c.deref_mut.ensures.value at c.set_bit.ensures.kept in
    let width : length c.set_bit.new.words ≡ length old = c.set_bit.auto.words ∙ ap length c.deref_mut.ensures.value in
    let whole : length old ≡ c.in_ok-row.row.len = omega (arith, c.in_ok-row.row.ok.0) in
    rw (lent_whole c.set_bit.new.words old c.in_ok-row.row.len (width ∙ whole) whole) (record {
      row = row_start (items_of c.args.steps.now) c.args.class_of.now (length c.args.rows.now) c.args.class old c.set_bit.new.words c.requires.classes empty
          width c.set_bit.ensures.set bits;
      heads = λ x y m. Contains-none x m;
    })

pub join_heads-requires-clause-node : goal.join_heads-requires-clause-node
join_heads-requires-clause-node c = ((c.requires.members (slice_index c.args.members.now c.loop-x.x-index)).0
    (Contains-get_or c.args.members.now c.loop-x.x-index 0 c.loop-x-test.true)).0

pub join_heads-requires-clause-row : goal.join_heads-requires-clause-row
join_heads-requires-clause-row c =
    let member = (c.requires.members (slice_index c.args.members.now c.loop-x.x-index)).0 (Contains-get_or c.args.members.now c.loop-x.x-index 0
    c.loop-x-test.true) in
    rw c.deref_mut-in-loop-x.ensures.value (subst (λ k. IsRowSoFar (items_of c.args.steps.now) c.args.class_of.now (length c.args.rows.now) k
    c.loop-x.row.items) (sym member.1) c.loop-x.invariant.row)

pub loop-x-preserved : goal.loop-x-preserved
loop-x-preserved c =
    let lists = items_of c.args.steps.now in
    let members = c.args.members.now in
    let member = (c.requires.members (slice_index members c.loop-x.x-index)).0 (Contains-get_or members c.loop-x.x-index 0 c.loop-x-test.true) in
    let old = c.loop-x.row.items in
    let new = c.join_heads.new.row in
    let joins = rw c.deref_mut-in-loop-x.ensures.value at c.join_heads.ensures.heads in
    let width : length new ≡ length old = c.join_heads.auto.row ∙ ap length c.deref_mut-in-loop-x.ensures.value in
    let whole : length old ≡ c.loop-x.row.len = omega (arith, c.loop-x.row.ok.0) in
    rw (lent_whole new old c.loop-x.row.len (width ∙ whole) whole, take_more members c.loop-x.x-index 0 c.loop-x-test.true) (record {
      row = subst (λ k. IsRowSoFar lists c.args.class_of.now (length c.args.rows.now) k new) member.1 c.join_heads.ensures.row;
      heads = λ x y m step. elim (Contains-push_cases (take c.loop-x.x-index members) (slice_index members c.loop-x.x-index) x m) [
        | inl d ↦ joins.kept (slice_index c.args.class_of.now y) (c.loop-x.invariant.heads x y d step)
        | inr e ↦ joins.joined y (subst (λ z. ListedStep lists z y) (sym e) step)
      ];
    })

pub returns : goal.returns
returns c = λ x lx e.
    let lists = items_of c.args.steps.now in
    let count = length-items_of c.args.steps.now in
    let all : take c.loop-x.x-index c.args.members.now ≡ c.args.members.now = take_all c.loop-x.x-index c.args.members.now (omega (arith, c.loop-x-test.false))
    in
    row_done lists c.args.class_of.now (length c.args.rows.now) c.args.class c.loop-x.row.items c.requires.digraph c.loop-x.invariant.row
    (λ a b la f step. c.loop-x.invariant.heads a b (subst (λ m. Contains m a) (sym all) ((c.requires.members a).1 (omega (arith, la, count), f))) step)
    x (omega (arith, lx, count)) e
