use Rattle.std.proofs.Common.{arith, ◌<◌, ◌≤◌, get_or, refl, below_more}
use Rattle.std.proofs.lemmas.Bool.{false≢true}
use Rattle.std.proofs.lemmas.List.Elements.{Contains-get_or}
use Rattle.conley_lists.proofs.ListLemmas.{place_of, at_least}
use Rattle.conley_faces.proofs.lists.first_common.Goals as goal

pub returns-then-lies_below-clause-none : goal.returns-then-lies_below-clause-none
returns-then-lies_below-clause-none c = λ z h d. let less = c.if-lies_below.ensures.0 refl z z h d in omega arith

pub returns-then-lies_below-2-clause-none : goal.returns-then-lies_below-2-clause-none
returns-then-lies_below-2-clause-none c = λ z h d. let less = c.if-lies_below-2.ensures.0 refl z z d h in omega arith

pub returns-then-stands_in-clause-found : goal.returns-then-stands_in-clause-found
returns-then-stands_in-clause-found c =
    let list = c.args.list.now in
    let i = c.loop-z.z-index in (
      Contains-get_or list i 0 c.loop-z-test.true,
      c.if-stands_in.ensures.0 refl,
      λ w h d.
          let p = place_of list w h in
          let before : p.0 < i → get_or list i 0 ≤ get_or list p.0 0 = λ lt. absurd (c.loop-z.invariant p.0 lt (rw p.2 d)) in
          let least = at_least list c.requires.list i p.0 before p.1 in
          rw p.2 at least,
    )

pub loop-z-preserved : goal.loop-z-preserved
loop-z-preserved c = below_more _ _ c.loop-z.invariant (λ d. false≢true (c.if-stands_in.ensures.1 d))

pub returns-clause-none : goal.returns-clause-none
returns-clause-none c = λ z h d.
    let p = place_of c.args.list.now z h in
    c.loop-z.invariant p.0 (omega (arith, p.1, c.loop-z-test.false)) (rw p.2 d)
