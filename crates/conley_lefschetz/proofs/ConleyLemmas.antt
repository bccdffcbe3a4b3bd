-- Conley numbers are one list, and all 0 exactly where the set is regular.
use Rattle.std.proofs.Common.{◌≡◌, ◌<◌, inl, inr, ℕ, List, length, get_or, sym, ◌∙◌, subst, arith}
use Rattle.std.proofs.Math.ListN.{get_or-eq_default}
use Rattle.std.proofs.lemmas.Bool.{cases_lt}
use Rattle.std.proofs.lemmas.List.{get_or_default}
use Rattle.std.proofs.lemmas.Grind.{same_number_lists}
use Rattle.conley_field.specs.Arithmetic.{Arithmetic, IsField}
use Rattle.conley_algebra.specs.Entries.{Vector}
use Rattle.conley_algebra.proofs.SumLemmas as sums
use Rattle.conley_algebra.proofs.HomologyLemmas as homology
use Rattle.conley_algebra.proofs.DimensionLemmas.{all_boundaries}
use Rattle.conley_chains.specs.Matrix.{entry, column_count}
use Rattle.conley_faces.specs.Face.{IsInClosure, IsInMouth}
use Rattle.conley_lefschetz.specs.Listing.{dim_in}
use Rattle.conley_lefschetz.specs.Complex.{Layout, IsLayout}
use Rattle.conley_lefschetz.specs.Conley.{IsRegular, IsConleyBasis, AreConleyNumbers, NumbersAreOne, RegularWhereZero}

module _ {F : Arithmetic} (laws : IsField F) (c : Layout) where
  pub one_length : (set : List ℕ) (k r s : ℕ) (z w : ℕ → Vector) → IsConleyBasis F c set k r z → IsConleyBasis F c set k s w → r ≡ s
  one_length set k = homology.one_length laws (column_count c.boundary) (entry c.boundary) (dim_in c.dims) (IsInClosure c.faces set) (IsInMouth c.faces set) k

  pub one_list : (set a b : List ℕ) → AreConleyNumbers F c set a → AreConleyNumbers F c set b → a ≡ b
  one_list set a b first second =
      same_number_lists a b (first.levels_count ∙ sym second.levels_count) (λ k lt.
      let level : k < c.levels = omega (arith, lt, first.levels_count) in
      let left = first.basis k level in
      let right = second.basis k level in
      one_length set k (get_or a k 0) (get_or b k 0) left.0 right.0 left.1 right.1)

  pub numbers_are_one : NumbersAreOne F c
  numbers_are_one = record { one_length = one_length; one_list = one_list }

  -- where every cycle is a boundary, no cycles are a basis
  none_basis : (set : List ℕ) → IsRegular F c set → (k : ℕ) (z : ℕ → Vector) → IsConleyBasis F c set k 0 z
  none_basis set regular k z = record {
    members = λ i below. absurd (omega arith);
    spans = λ v cycle. (
      (λ i. 0),
      record {
        codes = λ i. sums.zero_below laws;
        rest = v;
        in_B = regular v cycle.0;
        is =
            λ x. sym (laws.add_comm 0 (v x) ∙ laws.add_zero (v x) (cycle.0.chain.codes x));
      },
    );
    once = λ v a b cycle by_a by_b i below. absurd (omega arith);
  }

  -- which cycles there are of none doesn't matter
  no_cycles : (set : List ℕ) (k : ℕ) (z : ℕ → Vector) → IsConleyBasis F c set k 0 z → IsConleyBasis F c set k 0 (λ i x. 0)
  no_cycles set k z basis = record {
    members = λ i below. absurd (omega arith);
    spans = λ v cycle.
        let s = basis.spans v cycle in
        (s.0, record { codes = s.1.codes; rest = s.1.rest; in_B = s.1.in_B; is = s.1.is });
    once = λ v a b cycle by_a by_b i below. absurd (omega arith);
  }

  module _ (is : IsLayout F c) where
    -- a cell of a closure has a dimension below the levels
    closure_levels : (set : List ℕ) (x : ℕ) → IsInClosure c.faces set x → dim_in c.dims x < c.levels
    closure_levels set x below = elim (cases_lt x (length c.dims)) [
      | inl within ↦ is.levels.below x 0 within
      | inr beyond ↦
          let none = get_or-eq_default c.dims 0 {n = x} beyond in
          let cell : below.0 < length c.faces = below.2.cell in
          let some = is.levels.below below.0 0 (omega (arith, cell, is.complex.faces_count, is.complex.dims_count)) in
          omega arith
    ]

    pub regular_where_zero : RegularWhereZero F c
    regular_where_zero set numbers are = (
      (λ regular k d below.
          get_or_default numbers k d 0 below
          ∙ (let basis = are.basis k (omega (arith, below, are.levels_count)) in one_length set k (get_or numbers k 0) 0 basis.0 basis.0 basis.1
          (none_basis set regular k basis.0))),
      (λ zeros. all_boundaries laws (column_count c.boundary) (entry c.boundary) (dim_in c.dims) (IsInClosure c.faces set) (IsInMouth c.faces set) c.levels
          is.complex.one_down (closure_levels set) (λ k i x. 0) (λ k below.
          let basis = are.basis k below in
          let zero : get_or numbers k 0 ≡ 0 = zeros k 0 (omega (arith, below, are.levels_count)) in
          no_cycles set k basis.0 (subst (λ (r : ℕ). IsConleyBasis F c set k r basis.0) zero basis.1))),
    )
