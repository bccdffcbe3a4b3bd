use Rattle.std.proofs.Common.{arith, ◌≡◌, ℕ, List, Some, None, Err, map, length, sym, ◌∙◌, ap, subst}
use Rattle.std.proofs.lemmas.Result.{err_from_is_err_and}
use Rattle.conley_json.specs.Meaning.{texts}
use Rattle.conley_first.specs.Places.{FindsFirst}
use Rattle.conley_input.specs.Refusals.{IsUnknown, IsFirstRefusal}
use Rattle.conley_input.specs.declared.error.InputError.TheVariants as InputError
use Rattle.conley_input.proofs.PartLemmas.{known, unknown_first}
use Rattle.conley_input.proofs.SetLemmas.{texts_are, first_are, others_are, first_within, others_within}
use Rattle.conley_input.proofs.parts.read_lists.Goals as goal

pub returns-in_err-lists-clause-err : goal.returns-in_err-lists-clause-err
returns-in_err-lists-clause-err c = λ file is clear fault e.
    let p = err_from_is_err_and c.from_residual-in_err-lists.result c.from_residual-in_err-lists.ensures.1 in
    let q = rw (p.1, p.2) at e in
    let same : c.in_err-lists.field-0.0 ≡ InputError.Bad fault = cc in
    let found = c.in_err-lists.ensures.err fault (ap (λ x. Err x) same) in
    let layout = c.args.complex.now.1 in
    let are = texts_are c.args.parts.items c.args.sets.items c.deref.result.now (c.deref.ensures.value ∙ c.in_ok-labels.ensures) in
    let first = subst (λ (ts : List (List (List ℕ))). FindsFirst (IsUnknown layout.labels ts) (Some (found.0, found.1))) are found.3 in
    subst (IsFirstRefusal file) (sym found.2) (unknown_first file layout (map texts c.args.parts.items) (map texts c.args.sets.items) is clear found.0 found.1
    first)

pub returns-clause-clear : goal.returns-clause-clear
returns-clause-clear c = λ file is clear.
    let layout = c.args.complex.now.1 in
    let are = texts_are c.args.parts.items c.args.sets.items c.deref.result.now (c.deref.ensures.value ∙ c.in_ok-labels.ensures) in
    let none = subst (λ (ts : List (List (List ℕ))). FindsFirst (IsUnknown layout.labels ts) None) are c.in_ok-lists.ensures.known in
    known file layout (map texts c.args.parts.items) (map texts c.args.sets.items) is clear none

pub returns-clause-parts : goal.returns-clause-parts
returns-clause-parts c =
    let count : c.len-count.result ≡ length c.args.parts.items = omega (arith, c.len-count.ensures, c.args.parts.ok.0) in
    first_are c.args.complex.now.1.labels (length c.args.complex.now.1.dims) c.len-count.result c.args.parts.items c.args.sets.items c.deref.result.now
    c.in_ok-lists.lists.items c.in_ok-pair.pair.0.items c.in_ok-pair.pair.1.items
    (c.deref.ensures.value ∙ c.in_ok-labels.ensures) count c.in_ok-lists.ensures.ok c.in_ok-lists.ensures.within c.in_ok-pair.ensures.first
    c.in_ok-pair.ensures.others

pub returns-clause-sets : goal.returns-clause-sets
returns-clause-sets c =
    let count : c.len-count.result ≡ length c.args.parts.items = omega (arith, c.len-count.ensures, c.args.parts.ok.0) in
    others_are c.args.complex.now.1.labels (length c.args.complex.now.1.dims) c.len-count.result c.args.parts.items c.args.sets.items c.deref.result.now
    c.in_ok-lists.lists.items c.in_ok-pair.pair.0.items c.in_ok-pair.pair.1.items
    (c.deref.ensures.value ∙ c.in_ok-labels.ensures) count c.in_ok-lists.ensures.ok c.in_ok-lists.ensures.within c.in_ok-pair.ensures.first
    c.in_ok-pair.ensures.others

pub returns-clause-parts_within : goal.returns-clause-parts_within
returns-clause-parts_within c =
    let count : c.len-count.result ≡ length c.args.parts.items = omega (arith, c.len-count.ensures, c.args.parts.ok.0) in
    first_within c.args.complex.now.1.labels (length c.args.complex.now.1.dims) c.len-count.result c.args.parts.items c.args.sets.items c.deref.result.now
    c.in_ok-lists.lists.items c.in_ok-pair.pair.0.items c.in_ok-pair.pair.1.items
    (c.deref.ensures.value ∙ c.in_ok-labels.ensures) count c.in_ok-lists.ensures.ok c.in_ok-lists.ensures.within c.in_ok-pair.ensures.first
    c.in_ok-pair.ensures.others

pub returns-clause-sets_within : goal.returns-clause-sets_within
returns-clause-sets_within c =
    let count : c.len-count.result ≡ length c.args.parts.items = omega (arith, c.len-count.ensures, c.args.parts.ok.0) in
    others_within c.args.complex.now.1.labels (length c.args.complex.now.1.dims) c.len-count.result c.args.parts.items c.args.sets.items c.deref.result.now
    c.in_ok-lists.lists.items c.in_ok-pair.pair.0.items c.in_ok-pair.pair.1.items
    (c.deref.ensures.value ∙ c.in_ok-labels.ensures) count c.in_ok-lists.ensures.ok c.in_ok-lists.ensures.within c.in_ok-pair.ensures.first
    c.in_ok-pair.ensures.others
