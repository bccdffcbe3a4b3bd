use Rattle.std.proofs.lemmas.List.Filters.{dedup_is}
use Rattle.std.proofs.lemmas.List.Kept.{Contains-dedup_nat, Contains-from_dedup}
use Rattle.std.proofs.lemmas.List.Sorted.{Contains-permutation, IsPermutation-sym}
use Rattle.std.proofs.lemmas.Map.Keys.{IsStrictlyIncreasing-dedup}
use Rattle.conley_lists.proofs.lists.ordered.Goals as goal

pub returns-clause-ascending : goal.returns-clause-ascending
returns-clause-ascending c =
    let is = dedup_is _ _ _ c.dedup.ensures.filtered in
    rw is (IsStrictlyIncreasing-dedup _ c.sort_unstable.ensures.sorted)

pub returns-clause-same : goal.returns-clause-same
returns-clause-same c =
    let is = dedup_is _ _ _ c.dedup.ensures.filtered in
    let moved = c.sort_unstable.ensures.permutation in
    let from = c.in_ok-copy.ensures.items in
    λ y. (
      λ h. rw (← from) (Contains-permutation _ _ y (IsPermutation-sym _ _ moved) (Contains-from_dedup _ _ y (rw is at h))),
      λ h. rw is (Contains-dedup_nat _ y (Contains-permutation _ _ y moved (rw from h))),
    )
