-- from the labels to the parts
use Rattle.std.proofs.Common.{arith, ◌∙◌, ◌≡◌, ◌<◌, ◌^◌, ℕ, length, sym}
use Rattle.conley_mvf.specs.Making.{TellsFirstByLabel, NumbersSoFar}
use Rattle.conley_mvf.proofs.WholeLemmas.{is_partition}
use Rattle.conley_mvf.proofs.LabelLemmas.{parts_by_label, closed_by_label}
use Rattle.conley_mvf.proofs.partition.Partition.labelled.Goals as goal

pub gathered-requires-clause-in_order : goal.gathered-requires-clause-in_order
gathered-requires-clause-in_order c =
    let least = c.in_ok-least.least.items in
    let tells = c.in_ok-least.ensures in
    let numbers : (next : ℕ) × NumbersSoFar least (length least) c.in_ok-part_of.part_of.items next = rw c.deref.ensures.value at c.in_ok-part_of.ensures in
    let few : length least < 2 ^ 32 = omega (arith, tells.count, c.requires.count, c.count-order.ensures.count, c.count-order.ensures.order.few) in
    rw c.deref-2.ensures.value (is_partition least c.in_ok-part_of.part_of.items numbers.0 few numbers.1).in_order

pub returns-clause-parts : goal.returns-clause-parts
returns-clause-parts c =
    let least = c.in_ok-least.least.items in
    let numbers : (next : ℕ) × NumbersSoFar least (length least) c.in_ok-part_of.part_of.items next = rw c.deref.ensures.value at c.in_ok-part_of.ensures in
    parts_by_label c.args.labels.now least c.in_ok-part_of.part_of.items numbers.0 c.in_ok-least.ensures numbers.1

pub returns-clause-closed : goal.returns-clause-closed
returns-clause-closed c =
    let least = c.in_ok-least.least.items in
    let tells = c.in_ok-least.ensures in
    let numbers : (next : ℕ) × NumbersSoFar least (length least) c.in_ok-part_of.part_of.items next = rw c.deref.ensures.value at c.in_ok-part_of.ensures in
    closed_by_label c.args.faces.now c.args.labels.now c.in_ok-part_of.part_of.items (omega (arith, numbers.1.count, tells.count, c.requires.count))
    c.requires.closed
    (parts_by_label c.args.labels.now least c.in_ok-part_of.part_of.items numbers.0 c.in_ok-least.ensures numbers.1)
