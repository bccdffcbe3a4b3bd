-- The errors of the libraries of complexes, as refusals.
use Rattle.std.proofs.Common.{◌≡◌, ◌<◌, ℕ, ℤ, List, [], ◌∷◌, String, true, inl, inr, length, get_or, refl, sym, ◌∙◌, subst, arith}
use Rattle.std.specs.declared.alloc.Global.{Global}
use Rattle.std.proofs.lemmas.Bool.{false≢true}
use Rattle.conley_field.specs.Arithmetic.{Arithmetic}
use Rattle.conley_first.specs.First.{Precedes, StandsBefore}
use Rattle.conley_lefschetz.specs.Listing.{Listing, bytes_of}
use Rattle.conley_lefschetz.specs.Fault as of_cells
use Rattle.conley_lefschetz.specs.declared.error.ComplexError.{ComplexError}
use Rattle.conley_lefschetz.specs.declared.error.ComplexError.TheVariants as cells
use Rattle.conley_lefschetz.proofs.TextLemmas.{length-bytes_of}
use Rattle.conley_simplicial.specs.Fault as of_simplices
use Rattle.conley_simplicial.specs.declared.error.SimplicialError.{SimplicialError}
use Rattle.conley_simplicial.specs.declared.error.SimplicialError.TheVariants as simplices
use Rattle.conley_cubical.specs.Fault as of_cubes
use Rattle.conley_cubical.specs.declared.error.CubicalError.{CubicalError}
use Rattle.conley_cubical.specs.declared.error.CubicalError.TheVariants as cubes
use Rattle.conley_input.specs.Errors.{cells_error, simplices_error, cubes_error}
use Rattle.conley_input.specs.File.{lefschetz, simplicial, cubical}
use Rattle.conley_input.specs.Limits.{most_generated}
use Rattle.conley_input.specs.Listing.{labels_of, dims_of, with_scalars, cell_listing}
use Rattle.conley_input.specs.RefusalOrder.{number, place}
use Rattle.conley_input.specs.Refusals.{FailsIn, IsFirstIn, is_label}
use Rattle.conley_input.specs.declared.error.FileFault.{FileFault}
use Rattle.conley_input.specs.declared.error.FileFault.TheVariants.{NotJson, BadLabel, DuplicateLabel, BadIncidence, BadSimplex, BadAxes, BadCube, TooManyCells, NotBoundary}
use Rattle.conley_input.specs.declared.error.InputError.TheVariants.{Bad}
use Rattle.conley_input.proofs.RefusalLemmas.{behind, no_greater, first_told, none_told}

-- a lesser number stands not behind a greater one
before_less : {P : Type 0} (n m : ℕ) (a b : List ℕ) → m < n → Precedes (n ∷ a) (m ∷ b) → P
before_less n m a b lt p = absurd (omega (arith, lt, no_greater n m a b p))

-- ---- listed cells

abbrev cells_told : ComplexError → FileFault
cells_told (cells.DuplicateLabel i j) = DuplicateLabel i j
cells_told (cells.BadIncidence k why) = BadIncidence k why
cells_told (cells.NotBoundary x z) = NotBoundary x z
cells_told cells.NoMemory = NotJson

cells_told_is : (error : ComplexError) (fault : FileFault) → cells_error error ≡ Bad fault → cells_told error ≡ fault
cells_told_is (cells.DuplicateLabel i j) fault e = cc
cells_told_is (cells.BadIncidence k why) fault e = cc
cells_told_is (cells.NotBoundary x z) fault e = cc
cells_told_is cells.NoMemory fault e = cc

pub cells_not_memory : (error : ComplexError) (fault : FileFault) → cells_error error ≡ Bad fault → error ≡ cells.NoMemory → ⊥
cells_not_memory (cells.DuplicateLabel i j) fault e same = cc
cells_not_memory (cells.BadIncidence k why) fault e same = cc
cells_not_memory (cells.NotBoundary x z) fault e same = cc
cells_not_memory cells.NoMemory fault e same = cc

-- what is listed, from its labels and its dimensions
pub listing_is : (F : Arithmetic) (listed : List (List ℕ × ℕ)) (incidences : List (ℕ × ℕ × ℤ)) (labels : List (List ℕ)) (dims : List ℕ)
    → labels ≡ labels_of (lefschetz listed incidences) → dims ≡ dims_of (lefschetz listed incidences)
    → ◌≡◌ {A = Listing} (record { labels = labels; dims = dims; incidences = with_scalars F incidences }) (cell_listing F listed incidences)
listing_is F listed incidences labels dims labels_are dims_are = cc

pub good_labels : (labels : List (String Global)) (texts : List (List ℕ)) → bytes_of labels ≡ texts
    → ((j : ℕ) → j < length labels → is_label (get_or (bytes_of labels) j []) ≡ true)
    → (k : ℕ) → k < length texts → is_label (get_or texts k []) ≡ true
good_labels labels texts same good = subst (λ (ts : List (List ℕ)). (k : ℕ) → k < length ts → is_label (get_or ts k []) ≡ true) same
    (λ k lt. good k (omega (arith, lt, length-bytes_of labels)))

module _ (F : Arithmetic) (listed : List (List ℕ × ℕ)) (incidences : List (ℕ × ℕ × ℤ)) where
  cells_back : (error : ComplexError) → of_cells.Fails F (cell_listing F listed incidences) error → FailsIn F (lefschetz listed incidences) (cells_told error)
  cells_back (cells.DuplicateLabel i j) f = f
  cells_back (cells.BadIncidence k why) f = f
  cells_back (cells.NotBoundary x z) f = f
  cells_back cells.NoMemory f = absurd f

  cells_kept : (a b : ComplexError) → of_cells.Fails F (cell_listing F listed incidences) a → of_cells.Fails F (cell_listing F listed incidences) b
      → StandsBefore number place (cells_told a) (cells_told b) → StandsBefore of_cells.number of_cells.place a b
  cells_kept (cells.DuplicateLabel i j) (cells.DuplicateLabel i' j') f g p = inr (refl, behind 6 (j ∷ i ∷ []) (j' ∷ i' ∷ []) p)
  cells_kept (cells.DuplicateLabel i j) (cells.BadIncidence k' why') f g p = inl (omega arith)
  cells_kept (cells.DuplicateLabel i j) (cells.NotBoundary x' z') f g p = inl (omega arith)
  cells_kept (cells.BadIncidence k why) (cells.DuplicateLabel i' j') f g p = before_less 7 6 (k ∷ why ∷ []) (j' ∷ i' ∷ []) (omega arith) p
  cells_kept (cells.BadIncidence k why) (cells.BadIncidence k' why') f g p = inr (refl, behind 7 (k ∷ why ∷ []) (k' ∷ why' ∷ []) p)
  cells_kept (cells.BadIncidence k why) (cells.NotBoundary x' z') f g p = inl (omega arith)
  cells_kept (cells.NotBoundary x z) (cells.DuplicateLabel i' j') f g p = before_less 9 6 (x ∷ z ∷ []) (j' ∷ i' ∷ []) (omega arith) p
  cells_kept (cells.NotBoundary x z) (cells.BadIncidence k' why') f g p = before_less 9 7 (x ∷ z ∷ []) (k' ∷ why' ∷ []) (omega arith) p
  cells_kept (cells.NotBoundary x z) (cells.NotBoundary x' z') f g p = inr (refl, behind 9 (x ∷ z ∷ []) (x' ∷ z' ∷ []) p)
  cells_kept cells.NoMemory b f g p = absurd f
  cells_kept a cells.NoMemory f g p = absurd g

  -- where each label keeps the rule
  module _ (good : (k : ℕ) → k < length (labels_of (lefschetz listed incidences)) → is_label (get_or (labels_of (lefschetz listed incidences)) k []) ≡
      true) where
    cells_onto : (fault : FileFault) → FailsIn F (lefschetz listed incidences) fault → (error : ComplexError) × (cells_told error ≡ fault)
        × of_cells.Fails F (cell_listing F listed incidences) error
    cells_onto (BadLabel k) f = absurd (false≢true (sym f.1 ∙ good k f.0))
    cells_onto (DuplicateLabel i j) f = (cells.DuplicateLabel i j, refl, f)
    cells_onto (BadIncidence k why) f = (cells.BadIncidence k why, refl, f)
    cells_onto (NotBoundary x z) f = (cells.NotBoundary x z, refl, f)
    cells_onto fault f = absurd f

    pub first_cells : (error : ComplexError) → of_cells.IsFirstFault F (cell_listing F listed incidences) error → (fault : FileFault)
        → cells_error error ≡ Bad fault → IsFirstIn F (lefschetz listed incidences) fault
    first_cells error f fault e =
        subst (IsFirstIn F (lefschetz listed incidences)) (cells_told_is error fault e)
        (first_told of_cells.number of_cells.place (of_cells.Fails F (cell_listing F listed incidences)) (FailsIn F (lefschetz listed incidences)) cells_told
        cells_onto cells_back cells_kept error f)

    pub no_cells : ((error : ComplexError) → ¬ of_cells.Fails F (cell_listing F listed incidences) error) → (fault : FileFault)
        → ¬ FailsIn F (lefschetz listed incidences) fault
    no_cells none = none_told of_cells.number of_cells.place (of_cells.Fails F (cell_listing F listed incidences)) (FailsIn F (lefschetz listed incidences))
        cells_told cells_onto cells_back cells_kept none

  -- the first label that breaks the rule
  pub first_label : (k : ℕ) → FailsIn F (lefschetz listed incidences) (BadLabel k) → ((j : ℕ) → j < k
      → is_label (get_or (labels_of (lefschetz listed incidences)) j []) ≡ true) → IsFirstIn F (lefschetz listed incidences) (BadLabel k)
  first_label k f before = record { holds = f; first = none }
    where
      none : (other : FileFault) → StandsBefore number place other (BadLabel k) → ¬ FailsIn F (lefschetz listed incidences) other
      none (BadLabel j) p g = elim (behind 5 (j ∷ []) (k ∷ []) p) [ inl less ↦ false≢true (sym g.1 ∙ before j less) | inr both ↦ both.1 ]
      none (DuplicateLabel i j) p g = before_less 6 5 (j ∷ i ∷ []) (k ∷ []) (omega arith) p
      none (BadIncidence i why) p g = before_less 7 5 (i ∷ why ∷ []) (k ∷ []) (omega arith) p
      none (NotBoundary x z) p g = before_less 9 5 (x ∷ z ∷ []) (k ∷ []) (omega arith) p
      none other p g = g

-- ---- vertices and simplices

abbrev simplices_told : SimplicialError → FileFault
simplices_told (simplices.BadLabel k) = BadLabel k
simplices_told (simplices.DuplicateLabel i j) = DuplicateLabel i j
simplices_told (simplices.BadSimplex k) = BadSimplex k
simplices_told (simplices.TooManyCells least) = TooManyCells least
simplices_told simplices.NoMemory = NotJson

simplices_told_is : (error : SimplicialError) (fault : FileFault) → simplices_error error ≡ Bad fault → simplices_told error ≡ fault
simplices_told_is (simplices.BadLabel k) fault e = cc
simplices_told_is (simplices.DuplicateLabel i j) fault e = cc
simplices_told_is (simplices.BadSimplex k) fault e = cc
simplices_told_is (simplices.TooManyCells least) fault e = cc
simplices_told_is simplices.NoMemory fault e = cc

pub simplices_not_memory : (error : SimplicialError) (fault : FileFault) → simplices_error error ≡ Bad fault → error ≡ simplices.NoMemory → ⊥
simplices_not_memory (simplices.BadLabel k) fault e same = cc
simplices_not_memory (simplices.DuplicateLabel i j) fault e same = cc
simplices_not_memory (simplices.BadSimplex k) fault e same = cc
simplices_not_memory (simplices.TooManyCells least) fault e same = cc
simplices_not_memory simplices.NoMemory fault e same = cc

module _ (F : Arithmetic) (vertices listed : List (List ℕ)) where
  simplices_onto : (fault : FileFault) → FailsIn F (simplicial vertices listed) fault → (error : SimplicialError) × (simplices_told error ≡ fault)
      × of_simplices.Fails vertices listed most_generated error
  simplices_onto (BadLabel k) f = (simplices.BadLabel k, refl, f)
  simplices_onto (DuplicateLabel i j) f = (simplices.DuplicateLabel i j, refl, f)
  simplices_onto (BadSimplex k) f = (simplices.BadSimplex k, refl, f)
  simplices_onto (TooManyCells least) f = (simplices.TooManyCells least, refl, f)
  simplices_onto fault f = absurd f

  simplices_back : (error : SimplicialError) → of_simplices.Fails vertices listed most_generated error
      → FailsIn F (simplicial vertices listed) (simplices_told error)
  simplices_back (simplices.BadLabel k) f = f
  simplices_back (simplices.DuplicateLabel i j) f = f
  simplices_back (simplices.BadSimplex k) f = f
  simplices_back (simplices.TooManyCells least) f = f
  simplices_back simplices.NoMemory f = absurd f

  simplices_kept : (a b : SimplicialError) → of_simplices.Fails vertices listed most_generated a → of_simplices.Fails vertices listed most_generated b
      → StandsBefore number place (simplices_told a) (simplices_told b) → StandsBefore of_simplices.number of_simplices.place a b
  simplices_kept (simplices.BadLabel k) (simplices.BadLabel l) f g p = inr (refl, behind 5 (k ∷ []) (l ∷ []) p)
  simplices_kept (simplices.BadLabel k) (simplices.DuplicateLabel i j) f g p = inl (omega arith)
  simplices_kept (simplices.BadLabel k) (simplices.BadSimplex l) f g p = inl (omega arith)
  simplices_kept (simplices.BadLabel k) (simplices.TooManyCells n) f g p = inl (omega arith)
  simplices_kept (simplices.DuplicateLabel i j) (simplices.BadLabel l) f g p = before_less 6 5 (j ∷ i ∷ []) (l ∷ []) (omega arith) p
  simplices_kept (simplices.DuplicateLabel i j) (simplices.DuplicateLabel i' j') f g p = inr (refl, behind 6 (j ∷ i ∷ []) (j' ∷ i' ∷ []) p)
  simplices_kept (simplices.DuplicateLabel i j) (simplices.BadSimplex l) f g p = inl (omega arith)
  simplices_kept (simplices.DuplicateLabel i j) (simplices.TooManyCells n) f g p = inl (omega arith)
  simplices_kept (simplices.BadSimplex k) (simplices.BadLabel l) f g p = before_less 8 5 (1 ∷ k ∷ []) (l ∷ []) (omega arith) p
  simplices_kept (simplices.BadSimplex k) (simplices.DuplicateLabel i j) f g p = before_less 8 6 (1 ∷ k ∷ []) (j ∷ i ∷ []) (omega arith) p
  simplices_kept (simplices.BadSimplex k) (simplices.BadSimplex l) f g p = inr (refl, behind 1 (k ∷ []) (l ∷ []) (behind 8 (1 ∷ k ∷ []) (1 ∷ l ∷ []) p))
  simplices_kept (simplices.BadSimplex k) (simplices.TooManyCells n) f g p = inl (omega arith)
  simplices_kept (simplices.TooManyCells m) (simplices.BadLabel l) f g p = before_less 8 5 (4 ∷ m ∷ []) (l ∷ []) (omega arith) p
  simplices_kept (simplices.TooManyCells m) (simplices.DuplicateLabel i j) f g p = before_less 8 6 (4 ∷ m ∷ []) (j ∷ i ∷ []) (omega arith) p
  simplices_kept (simplices.TooManyCells m) (simplices.BadSimplex l) f g p = before_less 4 1 (m ∷ []) (l ∷ []) (omega arith)
      (behind 8 (4 ∷ m ∷ []) (1 ∷ l ∷ []) p)
  simplices_kept (simplices.TooManyCells m) (simplices.TooManyCells n) f g p = inr (refl, behind 4 (m ∷ []) (n ∷ []) (behind 8 (4 ∷ m ∷ []) (4 ∷ n ∷ []) p))
  simplices_kept simplices.NoMemory b f g p = absurd f
  simplices_kept a simplices.NoMemory f g p = absurd g

  pub first_simplices : (error : SimplicialError) → of_simplices.IsFirstFault vertices listed most_generated error → (fault : FileFault)
      → simplices_error error ≡ Bad fault → IsFirstIn F (simplicial vertices listed) fault
  first_simplices error f fault e =
      subst (IsFirstIn F (simplicial vertices listed)) (simplices_told_is error fault e)
      (first_told of_simplices.number of_simplices.place (of_simplices.Fails vertices listed most_generated) (FailsIn F (simplicial vertices listed))
      simplices_told simplices_onto simplices_back simplices_kept error f)

  pub no_simplices : ((error : SimplicialError) → ¬ of_simplices.Fails vertices listed most_generated error) → (fault : FileFault)
      → ¬ FailsIn F (simplicial vertices listed) fault
  no_simplices none = none_told of_simplices.number of_simplices.place (of_simplices.Fails vertices listed most_generated)
      (FailsIn F (simplicial vertices listed)) simplices_told simplices_onto simplices_back simplices_kept none

-- ---- axes and cubes

abbrev cubes_told : CubicalError → FileFault
cubes_told (cubes.BadAxes axes) = BadAxes axes
cubes_told (cubes.BadCube k) = BadCube k
cubes_told (cubes.TooManyCells least) = TooManyCells least
cubes_told cubes.NoMemory = NotJson

cubes_told_is : (error : CubicalError) (fault : FileFault) → cubes_error error ≡ Bad fault → cubes_told error ≡ fault
cubes_told_is (cubes.BadAxes axes) fault e = cc
cubes_told_is (cubes.BadCube k) fault e = cc
cubes_told_is (cubes.TooManyCells least) fault e = cc
cubes_told_is cubes.NoMemory fault e = cc

pub cubes_not_memory : (error : CubicalError) (fault : FileFault) → cubes_error error ≡ Bad fault → error ≡ cubes.NoMemory → ⊥
cubes_not_memory (cubes.BadAxes axes) fault e same = cc
cubes_not_memory (cubes.BadCube k) fault e same = cc
cubes_not_memory (cubes.TooManyCells least) fault e same = cc
cubes_not_memory cubes.NoMemory fault e same = cc

module _ (F : Arithmetic) (axes : ℕ) (listed : List (List (ℤ × ℤ))) where
  cubes_onto : (fault : FileFault) → FailsIn F (cubical axes listed) fault → (error : CubicalError) × (cubes_told error ≡ fault)
      × of_cubes.Fails axes listed most_generated error
  cubes_onto (BadAxes n) f = (cubes.BadAxes n, refl, f)
  cubes_onto (BadCube k) f = (cubes.BadCube k, refl, f)
  cubes_onto (TooManyCells least) f = (cubes.TooManyCells least, refl, f)
  cubes_onto fault f = absurd f

  cubes_back : (error : CubicalError) → of_cubes.Fails axes listed most_generated error → FailsIn F (cubical axes listed) (cubes_told error)
  cubes_back (cubes.BadAxes n) f = f
  cubes_back (cubes.BadCube k) f = f
  cubes_back (cubes.TooManyCells least) f = f
  cubes_back cubes.NoMemory f = absurd f

  cubes_kept : (a b : CubicalError) → of_cubes.Fails axes listed most_generated a → of_cubes.Fails axes listed most_generated b
      → StandsBefore number place (cubes_told a) (cubes_told b) → StandsBefore of_cubes.number of_cubes.place a b
  cubes_kept (cubes.BadAxes k) (cubes.BadAxes l) f g p = inr (refl, behind 2 (k ∷ []) (l ∷ []) (behind 8 (2 ∷ k ∷ []) (2 ∷ l ∷ []) p))
  cubes_kept (cubes.BadAxes k) (cubes.BadCube l) f g p = inl (omega arith)
  cubes_kept (cubes.BadAxes k) (cubes.TooManyCells n) f g p = inl (omega arith)
  cubes_kept (cubes.BadCube k) (cubes.BadAxes l) f g p = before_less 3 2 (k ∷ []) (l ∷ []) (omega arith) (behind 8 (3 ∷ k ∷ []) (2 ∷ l ∷ []) p)
  cubes_kept (cubes.BadCube k) (cubes.BadCube l) f g p = inr (refl, behind 3 (k ∷ []) (l ∷ []) (behind 8 (3 ∷ k ∷ []) (3 ∷ l ∷ []) p))
  cubes_kept (cubes.BadCube k) (cubes.TooManyCells n) f g p = inl (omega arith)
  cubes_kept (cubes.TooManyCells m) (cubes.BadAxes l) f g p = before_less 4 2 (m ∷ []) (l ∷ []) (omega arith) (behind 8 (4 ∷ m ∷ []) (2 ∷ l ∷ []) p)
  cubes_kept (cubes.TooManyCells m) (cubes.BadCube l) f g p = before_less 4 3 (m ∷ []) (l ∷ []) (omega arith) (behind 8 (4 ∷ m ∷ []) (3 ∷ l ∷ []) p)
  cubes_kept (cubes.TooManyCells m) (cubes.TooManyCells n) f g p = inr (refl, behind 4 (m ∷ []) (n ∷ []) (behind 8 (4 ∷ m ∷ []) (4 ∷ n ∷ []) p))
  cubes_kept cubes.NoMemory b f g p = absurd f
  cubes_kept a cubes.NoMemory f g p = absurd g

  pub first_cubes : (error : CubicalError) → of_cubes.IsFirstFault axes listed most_generated error → (fault : FileFault) → cubes_error error ≡ Bad fault
      → IsFirstIn F (cubical axes listed) fault
  first_cubes error f fault e =
      subst (IsFirstIn F (cubical axes listed)) (cubes_told_is error fault e)
      (first_told of_cubes.number of_cubes.place (of_cubes.Fails axes listed most_generated) (FailsIn F (cubical axes listed)) cubes_told cubes_onto cubes_back
      cubes_kept error f)

  pub no_cubes : ((error : CubicalError) → ¬ of_cubes.Fails axes listed most_generated error) → (fault : FileFault) → ¬ FailsIn F (cubical axes listed) fault
  no_cubes none = none_told of_cubes.number of_cubes.place (of_cubes.Fails axes listed most_generated) (FailsIn F (cubical axes listed)) cubes_told cubes_onto
      cubes_back cubes_kept none
