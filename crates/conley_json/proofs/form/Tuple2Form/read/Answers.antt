use Rattle.std.proofs.Common.{arith}
use Rattle.conley_json.proofs.FormLemmas.{two_items-none}
use Rattle.conley_json.proofs.form.Tuple2Form.read.Goals as goal

pub returns-then-len-ne2 : goal.returns-then-len-ne2
returns-then-len-ne2 g c = grind (arith, two_items-none)
