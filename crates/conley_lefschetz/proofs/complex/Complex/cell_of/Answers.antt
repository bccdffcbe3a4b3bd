use Rattle.std.proofs.Common.{sym, ap}
use Rattle.conley_lefschetz.proofs.LabelLemmas.{label_of, no_label}
use Rattle.conley_lefschetz.proofs.complex.Complex.cell_of.Goals as goal

pub returns-in-Some-clause-some : goal.returns-in-Some-clause-some
returns-in-Some-clause-some g c =
    let labels = ap (λ v. v.1.labels) c.self.view_is in
    rw (← labels) (label_of c.self.inside.names.keys c.args.label.now c.in-Some.k (sym c.in-Some.ensures.index))

pub returns-in-None-clause-none : goal.returns-in-None-clause-none
returns-in-None-clause-none g c =
    let labels = ap (λ v. v.1.labels) c.self.view_is in
    rw (← labels) (no_label c.self.inside.names.keys c.args.label.now (sym c.in-None.ensures.index))
