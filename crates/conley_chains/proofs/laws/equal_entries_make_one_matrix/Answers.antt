use Rattle.conley_chains.proofs.EqualLemmas.{same_entries}
use Rattle.conley_chains.proofs.laws.equal_entries_make_one_matrix.Goals as goal

pub returns : goal.returns
returns c = same_entries
