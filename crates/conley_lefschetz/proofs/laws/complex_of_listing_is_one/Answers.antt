use Rattle.conley_lefschetz.proofs.OnceLemmas.{complex_once}
use Rattle.conley_lefschetz.proofs.laws.complex_of_listing_is_one.Goals as goal

pub returns : goal.returns
returns c = complex_once
