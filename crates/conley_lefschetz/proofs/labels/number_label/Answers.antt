use Rattle.std.proofs.Common.{arith, refl, sym, ◌∙◌}
use Rattle.conley_lefschetz.proofs.LabelLemmas.{numbers_new, numbers_old}
use Rattle.conley_lefschetz.proofs.labels.number_label.Goals as goal

pub returns-then-added : goal.returns-then-added
returns-then-added c = numbers_new c.args.numbers.now.keys c.args.label _ c.insert_full.new.self.keys refl (sym c.if-added.true ∙ c.in_ok-number.ensures.added)
    c.in_ok-number.ensures.keys

pub returns : goal.returns
returns c = numbers_old c.args.numbers.now.keys c.args.label _ c.insert_full.new.self.keys c.in_ok-number.number refl (grind arith) c.in_ok-number.ensures.index
