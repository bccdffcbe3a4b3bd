use Rattle.std.proofs.Common.{arith, sym, ◌∙◌, ◌-◌, get_or, length}
use Rattle.std.proofs.lemmas.Bool.{eqb-false, ltb-true, lt-ltb}
use Rattle.std.proofs.lemmas.List.Elements.{Contains-get_or}
use Rattle.conley_lists.proofs.ListLemmas.{place_of, at_least}
use Rattle.conley_faces.proofs.lists.lies_below.Goals as goal

pub returns : goal.returns
returns c =
    let list = c.args.list.now in
    let other = c.args.other.now in
    let some = eqb-false _ 0 (sym c.is_empty.ensures ∙ c.if-is_empty.false) in
    let some' = eqb-false _ 0 (sym c.is_empty-2.ensures ∙ c.if-is_empty-2.false) in (
      (λ t y z h h'.
          let less = ltb-true _ _ t in
          let p = place_of list y h in
          let q = place_of other z h' in
          let last = at_least list c.requires.list p.0 (length list - 1) (λ below. absurd (omega (arith, p.1))) (omega arith) in
          let first = at_least other c.requires.other 0 q.0 (λ below. absurd (omega arith)) q.1 in
          omega (arith, less, last, first, p.2, q.2)),
      (λ all. lt-ltb _ _ (all (get_or list (length list - 1) 0) (get_or other 0 0) (Contains-get_or list (length list - 1) 0 (omega arith))
          (Contains-get_or other 0 0 (omega arith)))),
    )
