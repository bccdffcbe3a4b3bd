use Rattle.conley_chains.proofs.EqualLemmas.{same_coefficients}
use Rattle.conley_chains.proofs.laws.equal_codes_make_one_chain.Goals as goal

pub returns : goal.returns
returns c = same_coefficients
