use Rattle.std.proofs.Common.{arith, ◌<◌, inl, inr, length}
use Rattle.std.proofs.lemmas.List.Elements.{All-contains}
use Rattle.conley_lists.specs.Lists.{items_of}
use Rattle.conley_isolation.proofs.PlaceLemmas.{parts_numbered}
use Rattle.conley_isolation.proofs.WithinLemmas.{steps_digraph}
use Rattle.conley_isolation.proofs.starts.starts.Goals as goal

pub crossing-requires-clause-digraph : goal.crossing-requires-clause-digraph
crossing-requires-clause-digraph g c =
    rw c.deref-2.ensures.value (steps_digraph c.args.complex.now.1.faces c.args.partition.now c.args.set.now (items_of c.args.within.now.steps.items)
    c.requires.within.steps)

pub put_firsts-requires-clause-parts : goal.put_firsts-requires-clause-parts
put_firsts-requires-clause-parts g c =
    rw c.deref-3.ensures.value
    (parts_numbered c.args.partition.now c.args.set.now c.args.within.now.parts.items
    (λ x h. omega (arith, All-contains (λ q. q < length c.args.complex.now.1.faces) c.args.set.now x c.requires.set.cells h, c.requires.field.count))
    c.requires.within.count c.requires.within.part)

pub returns : goal.returns
returns g c = λ i.
    let p = rw (c.deref-3.ensures.value, c.deref-4.ensures.value) at (c.in_ok-put_firsts.ensures i) in
    let q = rw (c.deref.ensures.value, c.deref-2.ensures.value) at (c.in_ok-starts.ensures i) in
    ((λ h. elim (p.0 h) [ inl old ↦ inl (q.0 old) | inr k ↦ inr k ]), (λ s. elim s [ inl cross ↦ p.1 (inl (q.1 cross)) | inr k ↦ p.1 (inr k) ]))
