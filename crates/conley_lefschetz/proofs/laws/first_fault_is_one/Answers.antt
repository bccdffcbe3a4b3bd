use Rattle.conley_lefschetz.proofs.FaultLemmas.{first_is_one}
use Rattle.conley_lefschetz.proofs.laws.first_fault_is_one.Goals as goal

pub returns : goal.returns
returns c = first_is_one
