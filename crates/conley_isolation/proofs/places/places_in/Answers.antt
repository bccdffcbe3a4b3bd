use Rattle.std.proofs.Common.{arith, get_or, sym, ◌∙◌, subst}
use Rattle.std.specs.Prelude.{Contains}
use Rattle.std.proofs.lemmas.List.{get_or_default}
use Rattle.std.proofs.lemmas.List.Elements.{Contains-get_or}
use Rattle.conley_lists.proofs.ListLemmas as lists
use Rattle.conley_lists.proofs.TestLemmas.{not_contained}
use Rattle.conley_isolation.proofs.PlaceLemmas.{places-more, places-other}
use Rattle.conley_isolation.proofs.places.places_in.Goals.{in-Some+in_ok-push, in_default}
use Rattle.conley_isolation.proofs.places.places_in.Goals as goal

pub loop-x-preserved : goal.loop-x-preserved
loop-x-preserved c =
    let set = c.args.set.now in
    elim c.match-place_of.branch [
      | in-Some+in_ok-push w ↦
          rw (w.places-is, w.in_ok-push.ensures.items)
          (places-more set c.args.cells.now c.loop-x.x-index c.loop-x.places.items w.in-Some.place c.requires.set w.in-Some.ensures.some.0
          w.in-Some.ensures.some.1 c.loop-x.invariant)
      | in_default w ↦
          rw w.places-is
          (places-other set c.args.cells.now c.loop-x.x-index c.loop-x.places.items (λ i li e. not_contained set _ w.in_default.ensures.none
          (subst (Contains set) (sym e) (Contains-get_or set i 0 li))) c.loop-x.invariant)
    ]

pub returns : goal.returns
returns c = λ i.
    let cells = c.args.cells.now in
    let x = get_or c.args.set.now i 0 in
    let w = c.loop-x.invariant i in (
      (λ h. let k = (w.0 h).1 in (
        (w.0 h).0,
        (
          k.0,
          omega (arith, k.1, c.loop-x-test.false, c.loop-x.auto.x-index-end),
          get_or_default cells k.0 x 0 (omega (arith, k.1, c.loop-x.auto.x-index-end)) ∙ k.2,
        ),
      )),
      (λ h. let p = lists.place_of cells x h.1 in w.1 (h.0, (p.0, omega (arith, p.1, c.loop-x-test.false), p.2))),
    )
