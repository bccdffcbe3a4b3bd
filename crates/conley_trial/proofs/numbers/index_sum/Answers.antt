use Rattle.std.proofs.Common.{ℕ, List, [], get_or, sym, ◌∙◌, ap, arith}
use Rattle.conley_lists.specs.Lists.{items_of}
use Rattle.conley_lists.proofs.ListLemmas.{row_of, length-items_of, take_whole}
use Rattle.conley_trial.specs.Numbers as spec
use Rattle.std.proofs.lemmas.List.Sums.{sum_by_more}
use Rattle.conley_trial.proofs.numbers.index_sum.Goals as goal

pub loop-row-preserved : goal.loop-row-preserved
loop-row-preserved c =
    let numbers = items_of c.args.numbers.now in
    let row = c.deref.ensures.value ∙ sym (row_of c.args.numbers.now c.loop-row.row-index c.row-item.result c.loop-row-test.true c.row-item.is) in
    let more = sum_by_more (λ (r : List ℕ). get_or r c.args.k 0) numbers c.loop-row.row-index []
    (omega (arith, c.loop-row-test.true, length-items_of c.args.numbers.now)) in
    let number = c.number_at.ensures ∙ ap (λ (r : List ℕ). get_or r c.args.k 0) row in
    record {
      sum = omega (arith, more, number, c.loop-row.invariant.sum);
      few = omega (arith, c.loop-row.invariant.few);
    }

pub returns : goal.returns
returns c = c.loop-row.invariant.sum ∙ ap (λ (l : List (List ℕ)). spec.index_sum l c.args.k)
    (take_whole c.loop-row.row-index (items_of c.args.numbers.now) (omega (arith, c.loop-row-test.false, length-items_of c.args.numbers.now)))
