-- what the tests of the first places say of all
use Rattle.std.proofs.Common.{arith, ◌≡◌, ◌≤◌, ◌<◌, length, get_or, refl, sym, ap, ◌∙◌, below_more}
use Rattle.std.specs.Prelude.{Contains}
use Rattle.std.proofs.lemmas.Bool.{false≢true}
use Rattle.std.proofs.lemmas.List.{get_or_default}
use Rattle.std.proofs.lemmas.List.Elements.{All-contains, Contains-get_or}
use Rattle.conley_lists.proofs.ListLemmas.{place_of}
use Rattle.conley_homology.proofs.PlaceLemmas.{length-most}
use Rattle.conley_isolation.proofs.PlaceLemmas.{parts_numbered}
use Rattle.conley_isolation.proofs.set_report.is_union.Goals.{else-index-i-via-then-index-i+else-not-has_all, else-index-i-via-else-index-i}
use Rattle.conley_isolation.proofs.set_report.is_union.Goals as goal

pub firsts_of-requires-clause-few : goal.firsts_of-requires-clause-few
firsts_of-requires-clause-few c =
    rw c.deref.ensures.value (omega (
      arith,
      c.in_ok-parts.ensures.count,
      length-most c.args.set.now (length c.args.partition.now) c.requires.set
          c.requires.cells,
      c.count.ensures.partition.few,
    ))

pub firsts_of-requires-clause-parts : goal.firsts_of-requires-clause-parts
firsts_of-requires-clause-parts c =
    let parts = c.in_ok-parts.parts.items in
    rw c.deref.ensures.value (λ k d lt. (c.count.ensures.count (get_or parts k d)).1 (parts_numbered c.args.partition.now c.args.set.now parts
    (λ x h. All-contains (λ q. q < length c.args.partition.now) c.args.set.now x c.requires.cells h) c.in_ok-parts.ensures.count c.in_ok-parts.ensures.parts k
    d lt))

pub returns-then-not-has_all : goal.returns-then-not-has_all
returns-then-not-has_all c = (
  (λ e. absurd (false≢true e)),
  (λ all.
      let i = c.loop-i.i in
      let x = get_or c.args.set.now i 0 in
      let lt : i < length c.args.set.now = omega (arith, c.loop-i-test.true, ap length c.deref-p-items.ensures.value, c.in_ok-parts.ensures.count) in
      let here : Contains c.args.set.now x = Contains-get_or c.args.set.now i 0 lt in
      let same : get_or c.deref-p-items.result.now i 0 ≡ get_or c.args.partition.now x 0 =
      rw c.deref-p-items.ensures.value (c.in_ok-parts.ensures.parts i lt) in
      absurd (false≢true (c.if-not-has_all.ensures.1 (λ y h.
      let v = (c.cells_of.ensures.cells y).0 h in
      all x y here (All-contains (λ q. q < length c.args.partition.now) c.args.set.now x c.requires.cells here, (v.0, v.1 ∙ same)))))),
)

pub loop-i-preserved : goal.loop-i-preserved
loop-i-preserved c =
    let i = c.loop-i.i in
    let firsts = c.in_ok-firsts.firsts.items in
    let have = rw c.deref.ensures.value at c.in_ok-firsts.ensures in
    let lt : i < length firsts = omega (arith, c.loop-i-test.true, ap length c.deref-p-items.ensures.value, have.count) in
    below_more _ _ c.loop-i.invariant (elim c.else-index-i.branch [
      | else-index-i-via-then-index-i+else-not-has_all w ↦ λ e y v. w.if-not-has_all.ensures.0 refl y ((w.cells_of.ensures.cells y).1 v)
      | else-index-i-via-else-index-i w ↦ λ e y v. absurd (w.if-index-i.false (c.index.ensures ∙ get_or_default firsts i c.index.result.now 0 lt ∙ e))
    ])

pub returns : goal.returns
returns c = (
  (λ _ x y h share.
      let firsts = c.in_ok-firsts.firsts.items in
      let have = rw c.deref.ensures.value at c.in_ok-firsts.ensures in
      let k = place_of c.args.set.now x h in
      let f = get_or firsts k.0 0 in
      let lk : k.0 < length c.in_ok-parts.parts.items = omega (arith, k.1, c.in_ok-parts.ensures.count) in
      let before : f ≤ k.0 = have.before k.0 lk in
      let part = have.part k.0 lk in
      let same : get_or c.deref-p-items.result.now f 0 ≡ get_or c.args.partition.now x 0 =
      rw c.deref-p-items.ensures.value (part ∙ c.in_ok-parts.ensures.parts k.0 k.1 ∙ ap (λ v. get_or c.args.partition.now v 0) k.2) in
      c.loop-i.invariant f (omega (arith, before, lk, c.loop-i-test.false, ap length c.deref-p-items.ensures.value))
      (have.same f k.0 (omega (arith, before, lk)) lk part) y (share.1.0, share.1.1 ∙ sym same)),
  (λ _. refl),
)
