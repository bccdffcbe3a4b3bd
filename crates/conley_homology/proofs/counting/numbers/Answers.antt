use Rattle.std.proofs.Common.{get_or}
use Rattle.conley_homology.proofs.counting.numbers.Goals as goal

pub returns-clause-regular : goal.returns-clause-regular
returns-clause-regular g c = c.regular_sets_have_zeros.ensures c.args.set.now c.in_ok-numbers.numbers.items c.in_ok-numbers.ensures

pub returns-clause-one_length : goal.returns-clause-one_length
returns-clause-one_length g c = λ k r z below basis.
    let own = c.in_ok-numbers.ensures.basis k below in
    c.conley_numbers_are_one.ensures.one_length c.args.set.now k r (get_or c.in_ok-numbers.numbers.items k 0) z own.0 basis own.1
