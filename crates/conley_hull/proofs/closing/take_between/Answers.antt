-- one cell of the list more
use Rattle.std.proofs.Common.{arith, ◌≡◌, inl, inr, ℕ, List, [], length, get_or, ap, subst, sym, ◌∙◌}
use Rattle.std.proofs.lemmas.Bool.{cases_eq}
use Rattle.conley_lists.specs.Lists.{items_of, ListedStep}
use Rattle.conley_lists.proofs.ListLemmas.{row_of, place_of}
use Rattle.conley_hull.specs.Making.{IsClosedOver, IsSettled}
use Rattle.conley_hull.proofs.ClosingLemmas.{closes-on}
use Rattle.conley_hull.proofs.WaitLemmas.{moved-on, settled-on}
use Rattle.conley_hull.proofs.closing.take_between.Goals.{After-deref-y-items}
use Rattle.conley_hull.proofs.closing.take_between.Goals as goal

-- the list of x
row : (c : After-deref-y-items) → get_or (items_of c.args.lists.now) c.args.x [] ≡ c.deref-y-items.result.now
row c = row_of c.args.lists.now c.args.x c.index-lists-x.result c.requires.cell c.index-lists-x.is ∙ sym c.deref-y-items.ensures.value

pub loop-y-preserved : goal.loop-y-preserved
loop-y-preserved c =
    let lists = items_of c.args.lists.now in
    let list = get_or lists c.args.x [] in
    let old = c.args.labels.now.items in
    let mid = c.loop-y.labels.items in
    let new = c.take_in.new.labels.items in
    let waited = c.loop-y.waiting.items in
    let waits = c.take_in.new.waiting.items in
    let done = c.in_ok-take_in.ensures in
    let is = row (goal.at.loop-y-preserved c).After-deref-y-items in
    record {
      table = done.table;
      closes = closes-on (IsClosedOver (ListedStep lists)) old mid new c.loop-y.invariant.closes done.closes;
      waits = moved-on old mid new c.args.waiting.now.items waited waits c.loop-y.invariant.closes.count c.loop-y.invariant.waits done.waits;
      settled = λ j z lt step. elim (cases_eq j c.loop-y.y-index) [
        | inl e ↦
            let at : get_or list j 0 ≡ get_or c.deref-y-items.result.now c.loop-y.y-index 0 = ap (λ (l : List ℕ). get_or l j 0) is
            ∙ ap (λ (i : ℕ). get_or c.deref-y-items.result.now i 0) e in
            subst (λ (y : ℕ). ListedStep lists y z → IsSettled new waits c.args.x y z) (sym at) (done.settled z) step
        | inr ne ↦ settled-on mid new waited waits c.args.x (get_or list j 0) z done.closes.coarser done.waits
            (c.loop-y.invariant.settled j z (omega arith) step)
      ];
      work = omega (arith, done.work, c.loop-y.invariant.work);
    }

pub returns-clause-settled : goal.returns-clause-settled
returns-clause-settled c = λ y z step further.
    let lists = items_of c.args.lists.now in
    let is = row (goal.at.returns-clause-settled c).After-deref-y-items in
    let p = place_of (get_or lists c.args.x []) y step in
    subst (λ (i : ℕ). ListedStep lists i z → IsSettled c.loop-y.labels.items c.loop-y.waiting.items c.args.x i z) p.2
    (c.loop-y.invariant.settled p.0 z (omega (arith, p.1, ap (λ (l : List ℕ). length l) is, c.loop-y-test.false))) further
