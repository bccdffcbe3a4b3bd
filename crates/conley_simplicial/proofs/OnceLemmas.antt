-- At most one complex is that of vertices and listed simplices.
use Rattle.std.proofs.Common.{◌≡◌, inl, inr, ◌-◌, ◌<◌, ℕ, List, [], length, get_or, sym, ◌∙◌, subst}
use Rattle.std.specs.List.{remove}
use Rattle.conley_field.specs.Arithmetic.{Arithmetic}
use Rattle.conley_chains.specs.Matrix.{entry}
use Rattle.conley_lefschetz.specs.Complex.{Layout}
use Rattle.conley_generated.proofs.CellLemmas.{cell_cases}
use Rattle.conley_generated.proofs.OnceLemmas.{cells_once, below_cases, complexes_once}
use Rattle.conley_simplicial.specs.Simplex.{label_of}
use Rattle.conley_simplicial.specs.Simplicial.{AreSimplices, AreSimplexValues, SimplicialComplexIsOne}

-- two lists of all simplices in order
simplices_once : (n : ℕ) (simplices cells others : List (List ℕ)) → AreSimplices n simplices cells → AreSimplices n simplices others → cells ≡ others
simplices_once n simplices cells others a b =
    cells_once length cells others a.ordered b.ordered (λ s. ((λ c. (b.all s).1 ((a.all s).0 c)), (λ c. (a.all s).1 ((b.all s).0 c))))

-- the values of the same simplices
values_once : (F : Arithmetic) (cells : List (List ℕ)) (a b : Layout) → AreSimplexValues F cells a.boundary → AreSimplexValues F cells b.boundary
    → (x y : ℕ) → x < length cells → y < length cells → entry a.boundary y x ≡ entry b.boundary y x
values_once F cells a b values values' x y lt lt' =
    elim (below_cases (λ i. get_or cells y [] ≡ remove (get_or cells x []) i) (λ i. cell_cases (get_or cells y []) (remove (get_or cells x []) i))
    (length (get_or cells x []))) [
      | inl found ↦ values.value x y found.0 lt lt' found.1 found.2 ∙ sym (values'.value x y found.0 lt lt' found.1 found.2)
      | inr none ↦ values.none x y lt lt' none ∙ sym (values'.none x y lt lt' none)
    ]

pub complex_once : (F : Arithmetic) → SimplicialComplexIsOne F
complex_once F labels simplices a b laws laws' is is' =
    let same : is.cells ≡ is'.cells = simplices_once (length labels) simplices is.cells is'.cells is.are is'.are in
    let values : AreSimplexValues F is.cells b.boundary = subst (λ (l : List (List ℕ)). AreSimplexValues F l b.boundary) (sym same) is'.values in
    complexes_once F (label_of labels) (λ s. length s - 1) a b laws laws' is.cells is'.cells same is.labels_are is'.labels_are is.dims_are is'.dims_are
    (values_once F is.cells a b is.values values) is.values.beyond is'.values.beyond
