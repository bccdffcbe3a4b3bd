use Rattle.std.proofs.Common.{◌≡◌, ℕ, ℤ, List, Vec, String, IfOk, OnOk, All, length, ◌≤◌, ap, sym, ◌∙◌, subst, arith}
use Rattle.std.specs.declared.alloc.Global.{Global}
use Rattle.conley_field.specs.AnyField.{arithmetic_of}
use Rattle.conley_lists.specs.Lists.{items_of}
use Rattle.conley_lists.proofs.ListLemmas.{length-items_of}
use Rattle.conley_lefschetz.specs.Listing.{bytes_of}
use Rattle.conley_lefschetz.proofs.TextLemmas.{length-bytes_of}
use Rattle.conley_input.specs.File.{Complex, lefschetz, simplicial, cubical}
use Rattle.conley_input.specs.Limits.{most_cells, most_listed, most_dimension}
use Rattle.conley_input.specs.Listing.{IsComplexFor, labels_of, dims_of, count_of}
use Rattle.conley_input.specs.Meaning.{listed_cells, complex_of}
use Rattle.conley_input.specs.Refusals.{FailsIn, IsFirstIn}
use Rattle.conley_input.specs.declared.file.ComplexFile.{ComplexFile}
use Rattle.conley_input.specs.declared.file.ComplexFile.TheVariants.{Lefschetz, Simplicial, Cubical}
use Rattle.conley_input.specs.declared.error.FileFault.{FileFault}
use Rattle.conley_input.proofs.CellLemmas.{own-items, own-lists}
use Rattle.conley_input.proofs.LimitLemmas.{length-cells}
use Rattle.conley_input.proofs.complex.made.Goals as goal

-- what is listed, by the lists in memory
listed_lefschetz : (complex : ComplexFile) (cells : Vec (String Global × ℕ) Global) (incidences : Vec (ℕ × ℕ × ℤ) Global) (now : List (ℕ × ℕ × ℤ))
    → complex ≡ Lefschetz cells incidences → now ≡ incidences.items
    → complex_of complex ≡ lefschetz (listed_cells cells) now
listed_lefschetz complex cells incidences now is value = ap complex_of is ∙ ap (lefschetz (listed_cells cells)) (own-items incidences ∙ sym value)

listed_simplices : (complex : ComplexFile) (vertices : Vec (String Global) Global) (simplices : Vec (Vec ℕ Global) Global) (labels : List (String Global))
    (lists : List (Vec ℕ Global))
    → complex ≡ Simplicial vertices simplices → labels ≡ vertices.items → lists ≡ simplices.items
    → complex_of complex ≡ simplicial (bytes_of labels) (items_of lists)
listed_simplices complex vertices simplices labels lists is value value' =
    ap complex_of is ∙ ap (λ ls. simplicial (bytes_of vertices.items) ls) (own-lists simplices.items ∙ ap items_of (sym value'))
    ∙ ap (λ (vs : List (String Global)). simplicial (bytes_of vs) (items_of lists)) (sym value)

listed_cubes : (complex : ComplexFile) (axes : ℕ) (cubes : Vec (Vec (ℤ × ℤ) Global) Global) (lists : List (Vec (ℤ × ℤ) Global)) → complex ≡ Cubical axes cubes
    → lists ≡ cubes.items
    → complex_of complex ≡ cubical axes (items_of lists)
listed_cubes complex axes cubes lists is value = ap complex_of is ∙ ap (cubical axes) (own-lists cubes.items ∙ ap items_of (sym value))

pub read_listed-requires-clause-count : goal.read_listed-requires-clause-count
read_listed-requires-clause-count c =
    let few = subst (λ (l : Complex). length (labels_of l) ≤ most_cells) (ap complex_of c.in-Lefschetz.is) c.requires.labels in
    omega (arith, few, length-cells (λ (cell : List ℕ × ℕ). cell.0) c.in-Lefschetz.cells.items)

pub read_listed-requires-clause-dims : goal.read_listed-requires-clause-dims
read_listed-requires-clause-dims c = subst (λ (l : Complex). All (λ dim. dim ≤ most_dimension) (dims_of l)) (ap complex_of c.in-Lefschetz.is) c.requires.dims

pub returns-in-Lefschetz-clause-err : goal.returns-in-Lefschetz-clause-err
returns-in-Lefschetz-clause-err c = λ fault e.
    let same = listed_lefschetz c.args.complex c.in-Lefschetz.cells c.in-Lefschetz.incidences c.deref.result.now c.in-Lefschetz.is c.deref.ensures.value in
    subst (λ (l : Complex). IsFirstIn (arithmetic_of c.args.field) l fault) (sym same) (c.read_listed.ensures.err fault e)

pub read_simplices-requires-clause-few_vertices : goal.read_simplices-requires-clause-few_vertices
read_simplices-requires-clause-few_vertices c =
    let same = listed_simplices c.args.complex c.in-Simplicial.vertices c.in-Simplicial.simplices c.deref-in-Simplicial.result.now
    c.deref-in-Simplicial-2.result.now c.in-Simplicial.is c.deref-in-Simplicial.ensures.value c.deref-in-Simplicial-2.ensures.value in
    let few = subst (λ (l : Complex). length (labels_of l) ≤ most_cells) same c.requires.labels in
    omega (arith, few, length-bytes_of c.deref-in-Simplicial.result.now)

pub read_simplices-requires-clause-few_simplices : goal.read_simplices-requires-clause-few_simplices
read_simplices-requires-clause-few_simplices c =
    let same = listed_simplices c.args.complex c.in-Simplicial.vertices c.in-Simplicial.simplices c.deref-in-Simplicial.result.now
    c.deref-in-Simplicial-2.result.now c.in-Simplicial.is c.deref-in-Simplicial.ensures.value c.deref-in-Simplicial-2.ensures.value in
    let few = subst (λ (l : Complex). count_of l ≤ most_listed) same c.requires.listed in
    omega (arith, few, length-items_of c.deref-in-Simplicial-2.result.now)

pub returns-in-Simplicial-clause-complex : goal.returns-in-Simplicial-clause-complex
returns-in-Simplicial-clause-complex c =
    let same = listed_simplices c.args.complex c.in-Simplicial.vertices c.in-Simplicial.simplices c.deref-in-Simplicial.result.now
    c.deref-in-Simplicial-2.result.now c.in-Simplicial.is c.deref-in-Simplicial.ensures.value c.deref-in-Simplicial-2.ensures.value in
    subst (λ (l : Complex). IfOk c.read_simplices.result (λ made. IsComplexFor (arithmetic_of c.args.field) l made.1)) (sym same)
    c.read_simplices.ensures.complex

pub returns-in-Simplicial-clause-accepted : goal.returns-in-Simplicial-clause-accepted
returns-in-Simplicial-clause-accepted c =
    let same = listed_simplices c.args.complex c.in-Simplicial.vertices c.in-Simplicial.simplices c.deref-in-Simplicial.result.now
    c.deref-in-Simplicial-2.result.now c.in-Simplicial.is c.deref-in-Simplicial.ensures.value c.deref-in-Simplicial-2.ensures.value in
    subst (λ (l : Complex). OnOk c.read_simplices.result ((fault : FileFault) → ¬ FailsIn (arithmetic_of c.args.field) l fault)) (sym same)
    c.read_simplices.ensures.accepted

pub returns-in-Simplicial-clause-err : goal.returns-in-Simplicial-clause-err
returns-in-Simplicial-clause-err c = λ fault e.
    let same = listed_simplices c.args.complex c.in-Simplicial.vertices c.in-Simplicial.simplices c.deref-in-Simplicial.result.now
    c.deref-in-Simplicial-2.result.now c.in-Simplicial.is c.deref-in-Simplicial.ensures.value c.deref-in-Simplicial-2.ensures.value in
    subst (λ (l : Complex). IsFirstIn (arithmetic_of c.args.field) l fault) (sym same) (c.read_simplices.ensures.err fault e)

pub read_cubes-requires : goal.read_cubes-requires
read_cubes-requires c =
    let same = listed_cubes c.args.complex c.in-Cubical.axes c.in-Cubical.cubes c.deref-in-Cubical.result.now c.in-Cubical.is c.deref-in-Cubical.ensures.value
    in
    let few = subst (λ (l : Complex). count_of l ≤ most_listed) same c.requires.listed in
    omega (arith, few, length-items_of c.deref-in-Cubical.result.now)

pub returns-in-Cubical-clause-complex : goal.returns-in-Cubical-clause-complex
returns-in-Cubical-clause-complex c =
    let same = listed_cubes c.args.complex c.in-Cubical.axes c.in-Cubical.cubes c.deref-in-Cubical.result.now c.in-Cubical.is c.deref-in-Cubical.ensures.value
    in
    subst (λ (l : Complex). IfOk c.read_cubes.result (λ made. IsComplexFor (arithmetic_of c.args.field) l made.1)) (sym same) c.read_cubes.ensures.complex

pub returns-in-Cubical-clause-accepted : goal.returns-in-Cubical-clause-accepted
returns-in-Cubical-clause-accepted c =
    let same = listed_cubes c.args.complex c.in-Cubical.axes c.in-Cubical.cubes c.deref-in-Cubical.result.now c.in-Cubical.is c.deref-in-Cubical.ensures.value
    in
    subst (λ (l : Complex). OnOk c.read_cubes.result ((fault : FileFault) → ¬ FailsIn (arithmetic_of c.args.field) l fault)) (sym same)
    c.read_cubes.ensures.accepted

pub returns-in-Cubical-clause-err : goal.returns-in-Cubical-clause-err
returns-in-Cubical-clause-err c = λ fault e.
    let same = listed_cubes c.args.complex c.in-Cubical.axes c.in-Cubical.cubes c.deref-in-Cubical.result.now c.in-Cubical.is c.deref-in-Cubical.ensures.value
    in
    subst (λ (l : Complex). IsFirstIn (arithmetic_of c.args.field) l fault) (sym same) (c.read_cubes.ensures.err fault e)
