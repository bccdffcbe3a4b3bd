use Rattle.std.proofs.Common.{arith, ◌≡◌, ◌+◌, ◌<◌, ℕ, [], ◌∷◌, ◌++◌, length, take, Vec, Global, sym, ap, ◌∙◌}
use Rattle.std.proofs.lemmas.List.{take_more}
use Rattle.conley_lists.proofs.EntryLemmas.{ordered_more}
use Rattle.conley_input.proofs.SetLemmas.{names_more, sets_more}
use Rattle.conley_input.proofs.sets.read_sets.Goals as goal

pub loop-k-preserved : goal.loop-k-preserved
loop-k-preserved c =
    let list = c.index-lists-k.result in
    let within : c.loop-k.k < length c.args.lists.now = omega (arith, c.loop-k-test.true, c.requires) in
    let more : take (c.loop-k.k + 1) c.args.lists.now ≡ take c.loop-k.k c.args.lists.now ++ list ∷ [] =
    take_more c.args.lists.now c.loop-k.k list within ∙ ap (λ (r : Vec ℕ Global). take c.loop-k.k c.args.lists.now ++ r ∷ []) (sym c.index-lists-k.is) in
    record {
      names = rw c.in_ok-push.ensures.items (names_more _ _ c.args.names.now c.loop-k.k c.index-names-k.result c.loop-k-test.true c.index-names-k.is
          c.loop-k.invariant.names c.in_ok-name.ensures.cases);
      cells = rw (more, c.in_ok-push.ensures.items, sets_more) (ordered_more _ _ _ _ c.loop-k.invariant.cells c.in_ok-cells.ensures.ascending
          (rw c.deref.ensures.value at c.in_ok-cells.ensures.same) (rw c.deref.ensures.value at c.in_ok-cells.ensures.no_longer));
    }
