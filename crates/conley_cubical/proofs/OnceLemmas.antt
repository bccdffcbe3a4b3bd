-- At most one complex is that of listed cubes.
use Rattle.std.proofs.Common.{◌≡◌, ◌⊎◌, inl, inr, ◌+◌, ◌-◌, ◌<◌, ℕ, ℤ, List, [], true, length, set, get_or, sym, ◌∙◌, subst}
use Rattle.std.proofs.lemmas.Bool.{cases_Bool, false≢true}
use Rattle.conley_field.specs.Arithmetic.{Arithmetic}
use Rattle.conley_chains.specs.Matrix.{entry}
use Rattle.conley_lefschetz.specs.Complex.{Layout}
use Rattle.conley_generated.proofs.CellLemmas.{cell_cases}
use Rattle.conley_generated.proofs.OnceLemmas.{cells_once, below_cases, complexes_once}
use Rattle.conley_cubical.specs.Cube.{is_wide, dim_of, label_of}
use Rattle.conley_cubical.specs.Cubical.{AreCubes, AreCubeValues, CubicalComplexIsOne}

-- two lists of all cubes in order
cubes_once : (cubes : List (List (ℤ × ℤ))) (cells others : List (List ℕ)) → AreCubes cubes cells → AreCubes cubes others → cells ≡ others
cubes_once cubes cells others a b =
    cells_once dim_of cells others a.ordered b.ordered (λ s. ((λ c. (b.all s).1 ((a.all s).0 c)), (λ c. (a.all s).1 ((b.all s).0 c))))

-- t is s with an end in place k
abbrev IsEndAt : List ℕ → List ℕ → ℕ → Type 0
IsEndAt s t k = (is_wide (get_or s k 0) ≡ true) × ((t ≡ set s k (get_or s k 0 + 1)) ⊎ (t ≡ set s k (get_or s k 0 - 1)))

end_cases : (s t : List ℕ) (k : ℕ) → IsEndAt s t k ⊎ (¬ IsEndAt s t k)
end_cases s t k = elim (cases_Bool (is_wide (get_or s k 0))) [
  | inr narrow ↦ inr (λ end. false≢true (sym narrow ∙ end.0))
  | inl wide ↦ elim (cell_cases t (set s k (get_or s k 0 + 1))) [
    | inl up ↦ inl (wide, inl up)
    | inr not_up ↦ elim (cell_cases t (set s k (get_or s k 0 - 1))) [
      | inl down ↦ inl (wide, inr down)
      | inr not_down ↦ inr (λ end. elim end.1 [ inl e ↦ not_up e | inr e ↦ not_down e ])
    ]
  ]
]

-- the values of the same cubes
values_once : (F : Arithmetic) (cells : List (List ℕ)) (a b : Layout) → AreCubeValues F cells a.boundary → AreCubeValues F cells b.boundary
    → (x y : ℕ) → x < length cells → y < length cells → entry a.boundary y x ≡ entry b.boundary y x
values_once F cells a b values values' x y lt lt' =
    elim (below_cases (IsEndAt (get_or cells x []) (get_or cells y [])) (end_cases (get_or cells x []) (get_or cells y [])) (length (get_or cells x []))) [
      | inl found ↦ elim found.2.1 [
        | inl up ↦ values.upper x y found.0 lt lt' found.1 found.2.0 up ∙ sym (values'.upper x y found.0 lt lt' found.1 found.2.0 up)
        | inr down ↦ values.lower x y found.0 lt lt' found.1 found.2.0 down ∙ sym (values'.lower x y found.0 lt lt' found.1 found.2.0 down)
      ]
      | inr none ↦
          values.none x y lt lt' (λ end. none end.0 end.1 (end.2, end.3)) ∙ sym (values'.none x y lt lt' (λ end. none end.0 end.1 (end.2, end.3)))
    ]

pub complex_once : (F : Arithmetic) → CubicalComplexIsOne F
complex_once F cubes a b laws laws' is is' =
    let same : is.cells ≡ is'.cells = cubes_once cubes is.cells is'.cells is.are is'.are in
    let values : AreCubeValues F is.cells b.boundary = subst (λ (l : List (List ℕ)). AreCubeValues F l b.boundary) (sym same) is'.values in
    complexes_once F label_of dim_of a b laws laws' is.cells is'.cells same is.labels_are is'.labels_are is.dims_are is'.dims_are
    (values_once F is.cells a b is.values values) is.values.beyond is'.values.beyond
