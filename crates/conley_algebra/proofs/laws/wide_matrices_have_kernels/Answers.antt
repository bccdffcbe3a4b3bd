use Rattle.conley_algebra.proofs.KernelLemmas.{kernel}
use Rattle.conley_algebra.proofs.laws.wide_matrices_have_kernels.Goals as goal

pub returns : goal.returns
returns g c = kernel (g.met.F.Field.is_field c.args.field.now)
