use Rattle.conley_lefschetz.proofs.ConleyLemmas.{numbers_are_one}
use Rattle.conley_isolation.proofs.OnceLemmas.{report_once}
use Rattle.conley_isolation.proofs.laws.report_is_one.Goals as goal

pub returns : goal.returns
returns c = λ F layout laws. report_once {F = F} layout (numbers_are_one laws layout)
