use Rattle.conley_mvf.proofs.FaultLemmas.{first_is_one}
use Rattle.conley_mvf.proofs.laws.first_fault_is_one.Goals as goal

pub returns : goal.returns
returns c = λ faces lists. first_is_one faces lists
