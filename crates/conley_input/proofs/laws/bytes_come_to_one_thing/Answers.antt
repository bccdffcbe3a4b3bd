use Rattle.conley_input.proofs.OnceLemmas.{read_once, refused_once, not_refused_and_read}
use Rattle.conley_input.proofs.laws.bytes_come_to_one_thing.Goals as goal

pub returns : goal.returns
returns c = record { problem = read_once; refusal = refused_once; never_both = not_refused_and_read }
