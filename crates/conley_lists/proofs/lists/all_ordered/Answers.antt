use Rattle.std.proofs.Common.{◌≡◌, ◌+◌, ℕ, [], ◌∷◌, ◌++◌, take, Vec, Global, sym, ap, ◌∙◌}
use Rattle.std.proofs.lemmas.List.{take_more}
use Rattle.conley_lists.proofs.EntryLemmas.{ordered_more}
use Rattle.conley_lists.proofs.lists.all_ordered.Goals as goal

pub loop-list-preserved : goal.loop-list-preserved
loop-list-preserved c =
    let is = c.list-item.is in
    let more : take (c.loop-list.list-index + 1) c.args.lists.now ≡ take c.loop-list.list-index c.args.lists.now ++ c.list-item.result ∷ [] =
    take_more c.args.lists.now c.loop-list.list-index c.list-item.result c.loop-list-test.true
    ∙ ap (λ (r : Vec ℕ Global). take c.loop-list.list-index c.args.lists.now ++ r ∷ []) (sym is) in
    let same = rw c.deref.ensures.value at c.in_ok-ordered.ensures.same in
    let short = rw c.deref.ensures.value at c.in_ok-ordered.ensures.no_longer in
    rw (more, c.in_ok-push.ensures.items) (ordered_more _ _ _ _ c.loop-list.invariant c.in_ok-ordered.ensures.ascending same short)
