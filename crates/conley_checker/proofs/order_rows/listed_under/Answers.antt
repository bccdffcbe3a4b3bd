use Rattle.std.proofs.Common.{◌≡◌, ◌<◌, ℕ, arith, sym, ◌∙◌, subst, length}
use Rattle.std.proofs.lemmas.Grind.{common_steps}
use Rattle.std.proofs.lemmas.List.{get_or_default}
use Rattle.conley_lists.specs.Lists.{items_of}
use Rattle.conley_lists.proofs.ListLemmas.{length-items_of}
use Rattle.conley_certificate.specs.Certificate.{set_count}
use Rattle.conley_certificate_file.specs.CertificateMeaning.{meaning_of}
use Rattle.conley_checker.specs.Rows.{AreListed}
use Rattle.conley_checker.proofs.OrderRows.{listed_more}
use Rattle.conley_checker.proofs.order_rows.listed_under.Goals as goal

pub put_under-requires : goal.put_under-requires
put_under-requires c =
    let C = meaning_of c.args.certificate.now in
    let below : c.loop-k.k < length C.order = grind (arith, common_steps, c.len-k-end.ensures, c.loop-k-test.true) in
    let within = c.requires.sets c.loop-k.k c.index-pair.result.now below in
    omega (arith, subst (λ (e : ℕ × ℕ). e.0 < set_count C) (sym c.index-pair.ensures) within.0, c.loop-k.invariant.count, length-items_of c.loop-k.lists.items)

pub loop-k-preserved : goal.loop-k-preserved
loop-k-preserved c =
    let C = meaning_of c.args.certificate.now in
    let below : c.loop-k.k < length C.order = grind (arith, common_steps, c.len-k-end.ensures, c.loop-k-test.true) in
    listed_more C c.loop-k.k (items_of c.loop-k.lists.items) (items_of c.put_under.new.lists.items) c.index-pair.result.now c.loop-k.invariant below
    (c.index-pair.ensures ∙ get_or_default C.order c.loop-k.k c.index-pair.result.now (0, 0) below) c.in_ok-put_under.ensures.puts

pub returns : goal.returns
returns c =
    let C = meaning_of c.args.certificate.now in
    let all : c.loop-k.k ≡ length C.order = grind (arith, common_steps, c.len-k-end.ensures, c.loop-k-test.false, c.loop-k.auto.k-end) in
    subst (λ (n : ℕ). AreListed C n (items_of c.loop-k.lists.items)) all c.loop-k.invariant
