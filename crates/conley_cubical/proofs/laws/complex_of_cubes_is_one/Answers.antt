use Rattle.conley_cubical.proofs.OnceLemmas.{complex_once}
use Rattle.conley_cubical.proofs.laws.complex_of_cubes_is_one.Goals as goal

pub returns : goal.returns
returns c = complex_once
