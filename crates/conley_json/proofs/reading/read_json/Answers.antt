use Rattle.std.proofs.Common.{rules}
use Rattle.conley_json.proofs.JsonLemmas.{json_of-some, json_of-none}
use Rattle.conley_json.proofs.reading.read_json.Goals as goal

pub returns-in-Ok-clause-ok : goal.returns-in-Ok-clause-ok
returns-in-Ok-clause-ok c = json_of-some _ _ c.in-Ok.ensures.ok.0 c.in-Ok.ensures.ok.1

pub returns-else-is_memory-clause-not_json : goal.returns-else-is_memory-clause-not_json
returns-else-is_memory-clause-not_json c = λ e. json_of-none _ (c.in-Err.ensures.err (search rules))
