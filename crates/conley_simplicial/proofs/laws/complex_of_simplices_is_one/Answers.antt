use Rattle.conley_simplicial.proofs.OnceLemmas.{complex_once}
use Rattle.conley_simplicial.proofs.laws.complex_of_simplices_is_one.Goals as goal

pub returns : goal.returns
returns c = complex_once
