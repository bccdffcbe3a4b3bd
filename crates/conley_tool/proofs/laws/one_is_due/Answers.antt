use Rattle.conley_tool.proofs.OneDueLemmas.{due_once, due_alike}
use Rattle.conley_tool.proofs.laws.one_is_due.Goals as goal

pub returns : goal.returns
returns c = record { one = due_once; alike = due_alike }
