use Rattle.std.proofs.Common.{◌≡◌, ◌<◌, length, get_or, ap, ◌∙◌, arith}
use Rattle.std.specs.Prelude.{slice_index}
use Rattle.std.proofs.lemmas.List.{get_or_default}
use Rattle.conley_lists.specs.Lists.{items_of}
use Rattle.conley_analysis.proofs.NamingLemmas.{none_named, named_more, number_at}
use Rattle.conley_analysis.proofs.naming.named.Goals as goal

pub loop-g-init : goal.loop-g-init
loop-g-init r c = rw c.new-names.ensures.items (none_named (items_of c.args.sets.now) c.args.complex.now.base c.args.complex.now.dims)

pub loop-g-preserved : goal.loop-g-preserved
loop-g-preserved r c =
    let s = c.args.complex.now in
    let within : c.loop-g.g < length s.base = omega (arith, c.loop-g-test.true, c.count-g-end.ensures.count) in
    let at = c.requires.somewhere c.loop-g.g within in
    let number = c.in_ok-number.number.items in
    let base : c.base-base.result ≡ get_or s.base c.loop-g.g 0 = c.base-base.ensures.base in
    let in_number : c.base-base.result < length number = (let cell = c.requires.bases c.loop-g.g 0 within in
    omega (arith, cell, base, c.in_ok-number.ensures.width)) in
    let read : c.index.result.now ≡ slice_index number (get_or s.base c.loop-g.g 0) = c.index.ensures
    ∙ get_or_default number c.base-base.result c.index.result.now 0 in_number ∙ ap (λ x. get_or number x 0) base in
    rw c.in_ok-push.ensures.items (named_more (items_of c.args.sets.now) s.base s.dims c.loop-g.g c.loop-g.names.items _ c.loop-g.invariant
    (number_at (items_of c.args.sets.now) number (get_or s.base c.loop-g.g 0) c.index.result.now at.0 c.in_ok-number.ensures.numbers at.1 read) c.dim.ensures)

pub returns-clause-sets : goal.returns-clause-sets
returns-clause-sets r c g within = c.loop-g.invariant.at g (omega (arith, within, c.loop-g-test.false, c.count-g-end.ensures.count))
