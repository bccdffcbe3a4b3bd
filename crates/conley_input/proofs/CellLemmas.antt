-- The scalars of listed cells, and that a file has at most one complex.
use Rattle.std.proofs.Common.{◌≡◌, ◌<◌, ℕ, ℤ, pos, negsuc, zero, suc, List, [], ◌∷◌, Vec, map, get_or, refl, ◌∙◌, ap, arith, All}
use Rattle.std.specs.declared.alloc.Global.{Global}
use Rattle.std.proofs.lemmas.List.{map-id}
use Rattle.std.proofs.lemmas.List.Elements.{All-map}
use Rattle.conley_json.specs.Meaning.{own}
use Rattle.conley_field.specs.AnyField.{arithmetic_of}
use Rattle.conley_field.specs.Arithmetic.{Arithmetic, IsField, ones, code_of_int}
use Rattle.conley_field.specs.Prime.{residues}
use Rattle.conley_field.specs.declared.any.AnyField.{AnyField}
use Rattle.conley_field.specs.declared.any.AnyField.TheVariants.{Prime}
use Rattle.conley_lists.specs.Lists.{items_of}
use Rattle.conley_lefschetz.specs.Complex.{Layout, IsLayout}
use Rattle.conley_lefschetz.proofs.OnceLemmas as of_cells
use Rattle.conley_simplicial.proofs.OnceLemmas as of_simplices
use Rattle.conley_cubical.proofs.OnceLemmas as of_cubes
use Rattle.conley_input.specs.File.{File, Complex, lefschetz, simplicial, cubical}
use Rattle.conley_input.specs.Listing.{scalars_of, with_scalar, with_scalars, cell_listing, IsComplexFor, IsComplexIn}

-- a field of the table has the residues modulo its order
pub arithmetic_of-residues : (f : AnyField) → arithmetic_of f ≡ residues (arithmetic_of f).order
arithmetic_of-residues (Prime f) = refl

-- a sum of ones is an element
ones-below : {F : Arithmetic} → IsField F → (n : ℕ) → ones F n < F.order
ones-below {F} laws zero = omega (arith, laws.one_below)
ones-below {F} laws (suc n) = laws.add_below (ones F n) 1

code_of_int-below : {F : Arithmetic} → IsField F → (n : ℤ) → code_of_int F n < F.order
code_of_int-below {F} laws (pos n) = ones-below laws n
code_of_int-below {F} laws (negsuc n) = laws.neg_below (ones F (suc n))

pub with_scalars-codes : {F : Arithmetic} → IsField F → (incidences : List (ℕ × ℕ × ℤ)) → All (λ i. i.2 < F.order) (with_scalars F incidences)
with_scalars-codes {F} laws incidences = All-map (λ i. i.2 < F.order) (with_scalar F) incidences (λ k d lt. code_of_int-below laws (get_or incidences k d).2)

-- ---- one complex

once_for : (F : Arithmetic) (listed : Complex) (a b : Layout) → IsLayout F a → IsLayout F b → IsComplexFor F listed a → IsComplexFor F listed b → a ≡ b
once_for F (lefschetz cells incidences) a b laws laws' is is' = of_cells.complex_once F (cell_listing F cells incidences) a b laws laws' is is'
once_for F (simplicial vertices simplices) a b laws laws' is is' = of_simplices.complex_once F vertices simplices a b laws laws' is is'
once_for F (cubical axes cubes) a b laws laws' is is' = of_cubes.complex_once F cubes a b laws laws' is is'

pub complex_once : (file : File) (a b : Layout) → IsComplexIn file a → IsComplexIn file b → a ≡ b
complex_once file a b is is' = once_for (scalars_of file) file.complex a b is.laws is'.laws is.complex is'.complex

-- ---- lists of numbers are their own meaning

pub own-items : {A : Type 0} (v : Vec A Global) → own v ≡ v.items
own-items v = map-id v.items

pub own-lists : {A : Type 0} (vs : List (Vec A Global)) → map own vs ≡ items_of vs
own-lists [] = refl
own-lists (v ∷ vs) = ap (λ l. l ∷ map own vs) (own-items v) ∙ ap (λ ls. v.items ∷ ls) (own-lists vs)
