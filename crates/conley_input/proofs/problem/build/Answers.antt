use Rattle.std.proofs.Common.{◌≡◌, ◌<◌, ℕ, List, Vec, Err, length, sym, ap, ◌∙◌, subst}
use Rattle.std.specs.declared.alloc.Global.{Global}
use Rattle.std.proofs.lemmas.Result.{err_from_is_err_and}
use Rattle.conley_lefschetz.specs.Listing.{bytes_of}
use Rattle.conley_field.specs.AnyField.{arithmetic_of}
use Rattle.conley_lists.specs.Lists.{items_of, ListedStep}
use Rattle.conley_lists.proofs.ListLemmas.{length-items_of}
use Rattle.conley_input.specs.Meaning.{file_of}
use Rattle.conley_input.specs.declared.error.InputError.TheVariants as InputError
use Rattle.conley_input.specs.declared.file.SetsFile.{SetsFile}
use Rattle.conley_input.proofs.SetLemmas.{set_names, cells_count}
use Rattle.conley_input.proofs.BuildLemmas.{listed_as, field_as, names_as, sets_as, built, built_sound}
use Rattle.conley_input.proofs.problem.build.Goals as goal

pub returns-in_err-complex-clause-err : goal.returns-in_err-complex-clause-err
returns-in_err-complex-clause-err c = λ fault e.
    let p = err_from_is_err_and c.from_residual.result c.from_residual.ensures.1 in
    let q = rw (p.1, p.2) at e in
    let same : c.in_err-complex.field-0.0 ≡ InputError.Bad fault = cc in
    c.in_err-complex.ensures.err fault (ap (λ x. Err x) same)

pub returns-in_err-parts-clause-err : goal.returns-in_err-parts-clause-err
returns-in_err-parts-clause-err c = λ fault e.
    let p = err_from_is_err_and c.from_residual-in_err-parts.result c.from_residual-in_err-parts.ensures.1 in
    let q = rw (p.1, p.2) at e in
    let same : c.in_err-parts.field-0.0 ≡ InputError.Bad fault = cc in
    let listed = listed_as c.args.file c.in_ok-complex.complex.1 c.in_ok-complex.field c.in_ok-complex.listed c.in_ok-complex.ensures.complex
    c.in_ok-complex.ensures.field c.in_ok-complex.ensures.sets in
    c.in_err-parts.ensures.err (file_of c.args.file) listed c.in_ok-complex.ensures.clear fault (ap (λ x. Err x) same)

pub read_field-requires : goal.read_field-requires
read_field-requires c = subst (λ (ls : List (Vec ℕ Global)). (k x : ℕ) → ListedStep (items_of ls) k x → x < length c.in_ok-complex.complex.1.dims)
    (sym c.deref.ensures.value) c.in_ok-parts.ensures.parts_within

pub returns-in_err-partition-clause-err : goal.returns-in_err-partition-clause-err
returns-in_err-partition-clause-err c = λ fault e.
    let p = err_from_is_err_and c.from_residual-in_err-partition.result c.from_residual-in_err-partition.ensures.1 in
    let q = rw (p.1, p.2) at e in
    let same : c.in_err-partition.field-0.0 ≡ InputError.Bad fault = cc in
    let file = c.args.file in
    let layout = c.in_ok-complex.complex.1 in
    let parts : List (List ℕ) = items_of c.deref.result.now in
    let parts_are = ap (λ (ls : List (Vec ℕ Global)). items_of ls) c.deref.ensures.value ∙ c.in_ok-parts.ensures.parts in
    let of = field_as file layout c.in_ok-complex.field c.in_ok-complex.listed c.in_ok-complex.ensures.complex c.in_ok-complex.ensures.field
    c.in_ok-complex.ensures.sets parts parts_are in
    let listed = listed_as file layout c.in_ok-complex.field c.in_ok-complex.listed c.in_ok-complex.ensures.complex c.in_ok-complex.ensures.field
    c.in_ok-complex.ensures.sets in
    let clear = c.in_ok-parts.ensures.clear (file_of file) listed c.in_ok-complex.ensures.clear in
    c.in_err-partition.ensures.err (file_of file) of clear fault (ap (λ x. Err x) same)

pub read_sets-requires : goal.read_sets-requires
read_sets-requires c =
    let lists = c.in_ok-complex.listed.lists.items in
    let cells : length c.in_ok-parts.cells.items ≡ length lists = sym (length-items_of c.in_ok-parts.cells.items) ∙ ap length c.in_ok-parts.ensures.sets
    ∙ cells_count c.in_ok-complex.complex.1.labels lists in
    let paired = ap (λ (s : SetsFile). length s.names.items) c.in_ok-complex.ensures.sets ∙ c.requires
    ∙ sym (ap (λ (s : SetsFile). length s.lists.items) c.in_ok-complex.ensures.sets) in
    ap length c.deref-2.ensures.value ∙ paired ∙ sym (ap length c.deref-3.ensures.value ∙ cells)

pub returns-clause-ok : goal.returns-clause-ok
returns-clause-ok c =
    let file = c.args.file in
    let layout = c.in_ok-complex.complex.1 in
    let parts : List (List ℕ) = items_of c.deref.result.now in
    let cells : List (List ℕ) = items_of c.deref-3.result.now in
    let complex = c.in_ok-complex.ensures.complex in
    let same_field = c.in_ok-complex.ensures.field in
    let same_sets = c.in_ok-complex.ensures.sets in
    let parts_are = ap (λ (ls : List (Vec ℕ Global)). items_of ls) c.deref.ensures.value ∙ c.in_ok-parts.ensures.parts in
    let cells_are = ap (λ (ls : List (Vec ℕ Global)). items_of ls) c.deref-3.ensures.value ∙ c.in_ok-parts.ensures.sets in
    let of = field_as file layout c.in_ok-complex.field c.in_ok-complex.listed complex same_field same_sets parts parts_are in
    let listed = listed_as file layout c.in_ok-complex.field c.in_ok-complex.listed complex same_field same_sets in
    let clear = c.in_ok-parts.ensures.clear (file_of file) listed c.in_ok-complex.ensures.clear in
    let names = names_as file layout c.in_ok-complex.field c.in_ok-complex.listed complex same_field same_sets (set_names c.in_ok-sets.sets.items)
    (c.in_ok-sets.ensures.names ∙ ap bytes_of c.deref-2.ensures.value) in
    let within = subst (λ (ls : List (Vec ℕ Global)). (k x : ℕ) → ListedStep (items_of ls) k x → x < length layout.dims) (sym c.deref-3.ensures.value)
    c.in_ok-parts.ensures.sets_within in
    built (file_of file) (arithmetic_of c.in_ok-complex.complex.0).order layout c.in_ok-partition.partition c.in_ok-sets.sets.items
    c.in_ok-complex.field.is_hull parts cells c.in_ok-complex.ensures.order of
    (c.in_ok-partition.ensures.ok (file_of file) of clear) c.in_ok-partition.ensures.parts c.in_ok-partition.ensures.field c.count-numbers.ensures.partition
    names c.in_ok-sets.ensures.cells (sets_as file layout c.in_ok-complex.field c.in_ok-complex.listed complex same_field same_sets cells cells_are) within

pub returns-clause-sound : goal.returns-clause-sound
returns-clause-sound c =
    let file = c.args.file in
    let layout = c.in_ok-complex.complex.1 in
    let parts : List (List ℕ) = items_of c.deref.result.now in
    let cells : List (List ℕ) = items_of c.deref-3.result.now in
    let complex = c.in_ok-complex.ensures.complex in
    let same_field = c.in_ok-complex.ensures.field in
    let same_sets = c.in_ok-complex.ensures.sets in
    let parts_are = ap (λ (ls : List (Vec ℕ Global)). items_of ls) c.deref.ensures.value ∙ c.in_ok-parts.ensures.parts in
    let cells_are = ap (λ (ls : List (Vec ℕ Global)). items_of ls) c.deref-3.ensures.value ∙ c.in_ok-parts.ensures.sets in
    let of = field_as file layout c.in_ok-complex.field c.in_ok-complex.listed complex same_field same_sets parts parts_are in
    let listed = listed_as file layout c.in_ok-complex.field c.in_ok-complex.listed complex same_field same_sets in
    let clear = c.in_ok-parts.ensures.clear (file_of file) listed c.in_ok-complex.ensures.clear in
    let names = names_as file layout c.in_ok-complex.field c.in_ok-complex.listed complex same_field same_sets (set_names c.in_ok-sets.sets.items)
    (c.in_ok-sets.ensures.names ∙ ap bytes_of c.deref-2.ensures.value) in
    let within = subst (λ (ls : List (Vec ℕ Global)). (k x : ℕ) → ListedStep (items_of ls) k x → x < length layout.dims) (sym c.deref-3.ensures.value)
    c.in_ok-parts.ensures.sets_within in
    built_sound (file_of file) (arithmetic_of c.in_ok-complex.complex.0).order layout c.in_ok-partition.partition c.in_ok-sets.sets.items
    c.in_ok-complex.field.is_hull parts cells c.in_ok-complex.ensures.order of
    (c.in_ok-partition.ensures.ok (file_of file) of clear) c.in_ok-partition.ensures.parts c.in_ok-partition.ensures.field c.count-numbers.ensures.partition
    names c.in_ok-sets.ensures.cells (sets_as file layout c.in_ok-complex.field c.in_ok-complex.listed complex same_field same_sets cells cells_are) within
