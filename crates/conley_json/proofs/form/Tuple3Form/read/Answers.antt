use Rattle.std.proofs.Common.{arith}
use Rattle.conley_json.proofs.FormLemmas.{three_items-none}
use Rattle.conley_json.proofs.form.Tuple3Form.read.Goals as goal

pub returns-then-len-ne3 : goal.returns-then-len-ne3
returns-then-len-ne3 g c = grind (arith, three_items-none)
