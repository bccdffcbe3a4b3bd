use Rattle.std.proofs.Common.{arith, ◌<◌, ℕ, length, get_or, ap, ◌∙◌, subst}
use Rattle.std.specs.Prelude.{Contains, not}
use Rattle.std.proofs.lemmas.List.{get_or_default}
use Rattle.std.proofs.lemmas.List.Elements.{All-contains}
use Rattle.conley_lists.specs.Lists.{items_of}
use Rattle.conley_homology.proofs.PlaceLemmas.{length-most}
use Rattle.conley_isolation.specs.Making.{HaveFirsts, LinksFirsts}
use Rattle.conley_isolation.proofs.PlaceLemmas.{parts_numbered}
use Rattle.conley_isolation.proofs.WithinLemmas.{has_steps}
use Rattle.conley_isolation.proofs.within.within_set.Goals.{After-count, After-deref-2}
use Rattle.conley_isolation.proofs.within.within_set.Goals as goal

cells : (c : After-count) → (x : ℕ) → Contains c.args.set.now x → x < length c.args.partition.now
cells c x h = omega (arith, All-contains (λ q. q < length c.args.faces.now) c.args.set.now x c.requires.set.cells h, c.requires.field.count)

few : (c : After-count) → length c.args.set.now < 4294967296
few c = omega (
  arith,
  length-most c.args.set.now (length c.args.faces.now) c.requires.set.ascending c.requires.set.cells,
  c.requires.field.count,
  c.count.ensures.partition.few,
)

have : (c : After-deref-2) → HaveFirsts c.in_ok-parts.parts.items c.in_ok-firsts.firsts.items
have c = rw c.deref.ensures.value at c.in_ok-firsts.ensures

pub firsts_of-requires-clause-few : goal.firsts_of-requires-clause-few
firsts_of-requires-clause-few c = rw c.deref.ensures.value (omega (arith, c.in_ok-parts.ensures.count, few c))

pub firsts_of-requires-clause-parts : goal.firsts_of-requires-clause-parts
firsts_of-requires-clause-parts c =
    let parts = c.in_ok-parts.parts.items in
    rw c.deref.ensures.value (λ k d lt. (c.count.ensures.count (get_or parts k d)).1 (parts_numbered c.args.partition.now c.args.set.now parts (cells c)
    c.in_ok-parts.ensures.count c.in_ok-parts.ensures.parts k d lt))

pub face_steps-requires-clause-few : goal.face_steps-requires-clause-few
face_steps-requires-clause-few c = few (goal.at.face_steps-requires-clause-few c).After-count

pub link_firsts-requires-clause-few : goal.link_firsts-requires-clause-few
link_firsts-requires-clause-few c = rw c.deref-2.ensures.value (omega (
  arith,
  (have c).count,
  c.in_ok-parts.ensures.count,
  few (goal.at.link_firsts-requires-clause-few c).After-count,
))

pub link_firsts-requires-clause-firsts : goal.link_firsts-requires-clause-firsts
link_firsts-requires-clause-firsts c =
    let firsts = c.in_ok-firsts.firsts.items in
    rw c.deref-2.ensures.value (λ k d lt. omega (arith, (have c).before k (omega (arith, lt, (have c).count)), lt, get_or_default firsts k d 0 lt))

pub returns : goal.returns
returns c =
    let at = goal.at.returns c in
    let parts = c.in_ok-parts.parts.items in
    let firsts = c.in_ok-firsts.firsts.items in
    let steps = items_of c.in_ok-steps.steps.items in
    let new = items_of c.link_firsts.new.lists.items in
    let of_firsts = have at.After-deref-2 in
    let links : LinksFirsts firsts (length c.args.set.now) steps new = subst (λ n. LinksFirsts firsts n steps new)
    (of_firsts.count ∙ c.in_ok-parts.ensures.count) (rw c.deref-2.ensures.value at c.in_ok-link_firsts.ensures) in
    record {
      count = c.in_ok-parts.ensures.count;
      part = c.in_ok-parts.ensures.parts;
      have_firsts = of_firsts;
      steps = has_steps c.args.faces.now c.args.set.now c.requires.set.ascending c.count-order.ensures.order.digraph c.args.partition.now parts firsts
          (cells at.After-count) c.in_ok-parts.ensures.count c.in_ok-parts.ensures.parts of_firsts
          c.is_none-direct.result (λ e. c.find_gap.ensures.none.0 (c.is_none-direct.ensures ∙ ap not e)) steps new c.in_ok-steps.ensures links;
    }
