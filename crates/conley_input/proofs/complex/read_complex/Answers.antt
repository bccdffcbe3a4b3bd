use Rattle.std.proofs.Common.{◌≡◌, Err, ap, subst}
use Rattle.std.proofs.lemmas.Result.{err_from_is_err_and}
use Rattle.conley_field.specs.Arithmetic.{Arithmetic}
use Rattle.conley_input.specs.Meaning.{complex_of, file_of}
use Rattle.conley_input.specs.Refusals.{FailsIn, IsFirstIn, IsFirstRefusal}
use Rattle.conley_input.specs.declared.error.FileFault.{FileFault}
use Rattle.conley_input.specs.declared.error.FileFault.TheVariants as fault_of
use Rattle.conley_input.specs.declared.error.InputError.TheVariants as InputError
use Rattle.conley_input.proofs.LimitLemmas.{no_limit, few_labels, few_listed, few_names, dims_within}
use Rattle.conley_input.proofs.RefusalLemmas.{clear_complex, first_complex, first_name}
use Rattle.conley_input.proofs.complex.read_complex.Goals as goal

pub returns-in_err-scalars-clause-err : goal.returns-in_err-scalars-clause-err
returns-in_err-scalars-clause-err c = λ fault e.
    let p = err_from_is_err_and c.from_residual.result c.from_residual.ensures.1 in
    let q = rw (p.1, p.2) at e in
    let same : c.in_err-scalars.field-0.0 ≡ InputError.Bad fault = cc in
    c.in_err-scalars.ensures.err fault (ap (λ x. Err x) same)

pub first_bad_name-bad_name-requires-clause-labels : goal.first_bad_name-bad_name-requires-clause-labels
first_bad_name-bad_name-requires-clause-labels c = few_labels (file_of c.args.file) (no_limit (file_of c.args.file) c.in_ok-refuse_sizes.ensures.ok)

pub first_bad_name-bad_name-requires-clause-names : goal.first_bad_name-bad_name-requires-clause-names
first_bad_name-bad_name-requires-clause-names c = few_names (file_of c.args.file) (no_limit (file_of c.args.file) c.in_ok-refuse_sizes.ensures.ok)

pub made-requires-clause-labels : goal.made-requires-clause-labels
made-requires-clause-labels c = few_labels (file_of c.args.file) (no_limit (file_of c.args.file) c.in_ok-refuse_sizes.ensures.ok)

pub made-requires-clause-listed : goal.made-requires-clause-listed
made-requires-clause-listed c = few_listed (file_of c.args.file) (no_limit (file_of c.args.file) c.in_ok-refuse_sizes.ensures.ok)

pub made-requires-clause-dims : goal.made-requires-clause-dims
made-requires-clause-dims c = dims_within (file_of c.args.file) (no_limit (file_of c.args.file) c.in_ok-refuse_sizes.ensures.ok)

pub returns-in-Err-Bad-clause-err : goal.returns-in-Err-Bad-clause-err
returns-in-Err-Bad-clause-err c = λ fault e.
    let file = file_of c.args.file in
    let refused = c.in-Err-Bad.fault in
    let is : c.in-Err-Bad.field-0 ≡ InputError.Bad refused = cc in
    let first = subst (λ (F : Arithmetic). IsFirstIn F (complex_of c.args.file.complex) refused) c.in_ok-scalars.ensures.field
    (c.in-Err-Bad.ensures.err refused (ap (λ x. Err x) is)) in
    let told : c.earlier.result ≡ fault = cc in
    subst (IsFirstRefusal file) told (first_complex file c.in_ok-refuse_sizes.ensures.ok refused c.earlier.result c.first_bad_name-bad_name.result first
    c.first_bad_name-bad_name.ensures.some c.first_bad_name-bad_name.ensures.first c.first_bad_name-bad_name.ensures.none c.earlier.ensures.label
    c.earlier.ensures.name c.earlier.ensures.none)

pub returns-in-Some-clause-err : goal.returns-in-Some-clause-err
returns-in-Some-clause-err c = λ fault e.
    let file = file_of c.args.file in
    let accepted = subst (λ (F : Arithmetic). (fault : FileFault) → ¬ FailsIn F (complex_of c.args.file.complex) fault) c.in_ok-scalars.ensures.field
    c.in-Ok.ensures.accepted in
    let told : fault_of.BadLabel c.in-Some.k ≡ fault = cc in
    subst (IsFirstRefusal file) told (first_name file c.in_ok-refuse_sizes.ensures.ok c.in-Some.k c.in-Some.ensures.some c.in-Some.ensures.first
    (λ j. accepted (fault_of.BadLabel j)))

pub returns-clause-clear : goal.returns-clause-clear
returns-clause-clear c =
    let accepted = subst (λ (F : Arithmetic). (fault : FileFault) → ¬ FailsIn F (complex_of c.args.file.complex) fault) c.in_ok-scalars.ensures.field
    c.in-Ok.ensures.accepted in
    clear_complex (file_of c.args.file) c.in_ok-refuse_sizes.ensures.ok accepted c.in_default.ensures.none
