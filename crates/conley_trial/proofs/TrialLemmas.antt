-- The listed pairs of a complex of unit squares are cells of it, few enough to number.
use Rattle.std.proofs.Common.{◌≡◌, ◌<◌, ◌≤◌, ◌^◌, ℕ, List, length, sym, subst, arith}
use Rattle.conley_field.specs.Arithmetic.{Arithmetic}
use Rattle.conley_field.specs.Prime.{residues}
use Rattle.conley_lists.specs.Lists.{entries_of}
use Rattle.conley_lefschetz.specs.Complex.{Layout, IsLayout}
use Rattle.conley_mvf.specs.Fault.{IsUnknown}
use Rattle.conley_cubical.specs.Cubical.{IsCubicalComplex}
use Rattle.conley_trial.specs.Pairs.{pairs_of}
use Rattle.conley_trial.specs.Squares.{unit_squares}
use Rattle.conley_trial.proofs.FairLemmas.{AreFair, listed_fair}
use Rattle.conley_trial.proofs.SquareLemmas.{few_in_complex}

module _ (F : Arithmetic) (k : ℕ) (c : Layout) (laws : IsLayout F c) (le : k ≤ 60) (complex : IsCubicalComplex (residues 2) (unit_squares k) c)
    (pairs : List (List ℕ)) (are : pairs ≡ pairs_of k c) where
  fair : AreFair (length c.dims) (length c.dims) pairs
  fair = subst (AreFair (length c.dims) (length c.dims)) (sym are) (listed_fair c k (length c.dims) (omega arith))

  pub pairs_known : (list place : ℕ) → ¬ IsUnknown (length c.faces) pairs list place
  pairs_known list place unknown = fair.known list place (unknown.0, omega (arith, unknown.1, laws.complex.faces_count, laws.complex.dims_count))

  pub pairs_few : length pairs < 2 ^ 32
  pairs_few = omega (arith, fair.few, few_in_complex k c le complex)

  pub entries_few : length (entries_of pairs) < 2 ^ 32
  entries_few = omega (arith, fair.entries, few_in_complex k c le complex)
