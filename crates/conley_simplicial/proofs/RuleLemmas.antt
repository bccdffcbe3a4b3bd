-- Simplices keep the laws of faces, and their values are the powers of minus one.
use Rattle.std.proofs.Common.{◌≡◌, ◌≢◌, inl, inr, ◌+◌, ◌-◌, ◌<◌, ℕ, zero, suc, List, [], ◌∷◌, Bool, false, length, get_or, refl, sym, ◌∙◌, ap, subst, arith}
use Rattle.std.specs.Prelude.{All, Contains}
use Rattle.std.specs.List.{remove}
use Rattle.std.specs.List.Sorted.{IsStrictlyIncreasing}
use Rattle.std.proofs.lemmas.List.{length-map, get_or-map, get_or_default}
use Rattle.std.proofs.lemmas.List.Elements.{All-weaker, All-contains}
use Rattle.std.proofs.lemmas.List.Edits.{length-remove}
use Rattle.conley_lists.specs.Lists.{AreApart}
use Rattle.conley_field.specs.Arithmetic.{Arithmetic, IsField}
use Rattle.conley_first.specs.First.{Precedes}
use Rattle.conley_lefschetz.specs.Complex.{Layout}
use Rattle.conley_generated.specs.Rule.{IsRule, IsFace, only_cells, sign, value_in, value, minus_one_to}
use Rattle.conley_generated.specs.Generated.{IsUnder, IsGenerated, AreMoreUnder}
use Rattle.conley_generated.proofs.CellLemmas.{All-contained, cell_at, contains_at, most_cells}
use Rattle.conley_generated.proofs.ValueLemmas.{value_in-at, value_in-none}
use Rattle.conley_simplicial.specs.Simplex.{IsSimplex, IsBefore}
use Rattle.conley_simplicial.specs.Fault.{AreMore}
use Rattle.conley_simplicial.specs.Simplicial.{AreSimplices, IsSimplicialComplex}
use Rattle.conley_simplicial.specs.Making.{is_odd, without, faces_of_simplex, rule_of, IsShort, SeedsAre}
use Rattle.conley_generated.proofs.SignLemmas.{sign-not}
use Rattle.conley_generated.proofs.JoinLaw.{joined_once}
use Rattle.conley_simplicial.proofs.SquareLaw.{square_zero}
use Rattle.conley_simplicial.proofs.FaceLemmas.{ascends_from, ascends_to, IsPart, faces_are_parts, faces_apart, faces_without, without_at, length-without}
use Rattle.conley_simplicial.proofs.UnderLemmas.{under_simplex, simplex_under}

module _ (n : ℕ) (labels : List (List ℕ)) (clean : (v : ℕ) → v < n → All (λ b. b ≢ 46) (get_or labels v []))
    (once : (v w : ℕ) → v < n → w < n → get_or labels v [] ≡ get_or labels w [] → v ≡ w) where
  part_of : (s t : List ℕ) → IsShort n s → IsFace (rule_of labels) s t → IsPart s t
  part_of s t short c = All-contains (IsPart s) (only_cells (faces_of_simplex s)) t (faces_are_parts s (ascends_from s short.ascending)) c

  pub simplices_rule : IsRule (IsShort n) (rule_of labels)
  simplices_rule = record {
    cells = λ s short. All-contained (IsShort n) (only_cells (faces_of_simplex s)) (λ t c.
        let part = part_of s t short c in
        let two : 1 < length s = two_of s t c in
        record {
          ascending = ascends_to t part.ascends;
          some = omega (arith, two, part.shorter);
          short = omega (arith, short.short, part.shorter);
          below = All-weaker (Contains s) (λ v. v < n) (λ v there. All-contains (λ v. v < n) s v short.below there) t part.within;
        });
    down = λ s short. All-contained (λ t. length s - 1 ≡ (length t - 1) + 1) (only_cells (faces_of_simplex s)) (λ t c.
        let part = part_of s t short c in
        let two : 1 < length s = two_of s t c in
        omega (arith, two, part.shorter));
    apart = λ s short. faces_apart s (ascends_from s short.ascending);
    square = λ F laws s z short. square_zero laws labels s z;
    labels = λ s t short short' e. joined_once 46 (λ v. v < n) (λ v. get_or labels v []) clean once s t short.some short'.some short.below short'.below e;
  }
    where
      two_of : (s t : List ℕ) → IsFace (rule_of labels) s t → 1 < length s
      two_of [] t c = absurd (omega (arith, c.1))
      two_of (v ∷ []) t c = absurd (omega (arith, c.1))
      two_of (v ∷ w ∷ s) t c = omega arith

-- ---- values

module _ {F : Arithmetic} (laws : IsField F) where
  sign_power : (i : ℕ) → sign F (is_odd i) ≡ minus_one_to F i
  sign_power zero = refl
  sign_power (suc i) = sign-not laws (is_odd i) ∙ ap F.neg (sign_power i)

  -- leaving out the vertex in place i
  pub value_left_out : (labels : List (List ℕ)) (s t : List ℕ) (i : ℕ) → IsStrictlyIncreasing s → 0 < length t → i < length s → t ≡ remove s i
      → value F (rule_of labels) s t ≡ minus_one_to F i
  value_left_out labels s t i up some lt e =
      let two : 1 < length s = omega (arith, some, ap length e, length-remove s i lt) in
      let d : List ℕ × Bool = ([], false) in
      let at : get_or (without s) i d ≡ (remove s i, is_odd i) = without_at s i d lt in
      let apart : AreApart (only_cells (without s)) = subst (λ (l : List (List ℕ × Bool)). AreApart (only_cells l)) (faces_without s two)
      (faces_apart s (ascends_from s up)) in
      ap (λ (l : List (List ℕ × Bool)). value_in F l t) (faces_without s two)
      ∙ ap (value_in F (without s)) (e ∙ sym (ap (λ (f : List ℕ × Bool). f.0) at))
      ∙ value_in-at laws (without s) apart i d (omega (arith, lt, length-without s))
      ∙ ap (λ (f : List ℕ × Bool). sign F f.1) at
      ∙ sign_power i

  -- what isn't so left out is no face
  pub value_other : (labels : List (List ℕ)) (s t : List ℕ) → ((i : ℕ) → i < length s → t ≢ remove s i) → value F (rule_of labels) s t ≡ 0
  value_other labels s t other = value_in-none laws (faces_of_simplex s) t (no_face s other)
    where
      no_face : (s : List ℕ) → ((i : ℕ) → i < length s → t ≢ remove s i) → Contains (only_cells (faces_of_simplex s)) t → ⊥
      no_face [] other c = absurd (omega (arith, c.1))
      no_face (v ∷ []) other c = absurd (omega (arith, c.1))
      no_face (v ∷ w ∷ s) other c =
          let there = cell_at (only_cells (without (v ∷ w ∷ s))) t c in
          let d : List ℕ × Bool = ([], false) in
          let n = length-map (without (v ∷ w ∷ s)) (λ (face : List ℕ × Bool). face.0) in
          let lt : there.0 < length (v ∷ w ∷ s) = omega (arith, there.1, n, length-without (v ∷ w ∷ s)) in
          let at = without_at (v ∷ w ∷ s) there.0 d lt in
          other there.0 lt (sym there.2 ∙ get_or-map (λ (face : List ℕ × Bool). face.0) (without (v ∷ w ∷ s)) there.0 d [] (omega (arith, there.1, n))
          ∙ ap (λ (f : List ℕ × Bool). f.0) at)

-- ---- the complex

lower : (a b : ℕ) (s t : List ℕ) → 0 < a → 0 < b → Precedes ((a - 1) ∷ s) ((b - 1) ∷ t) → Precedes (a ∷ s) (b ∷ t)
lower a b s t pa pb before = elim before [ inl less ↦ inl (omega (arith, less, pa, pb)) | inr same ↦ inr (omega (arith, same.0, pa, pb), same.1) ]

module _ (labels : List (List ℕ)) (n : ℕ) (simplices seeds : List (List ℕ)) (are : SeedsAre n simplices seeds) where
  pub more_simplices : (most : ℕ) → AreMoreUnder (rule_of labels) seeds most → AreMore n simplices most
  more_simplices most more = record {
    some = more.some;
    apart = more.apart;
    are = All-weaker (IsUnder (rule_of labels) seeds) (IsSimplex n simplices) (under_simplex labels n simplices seeds are) more.some more.under;
    more = more.more;
  }

  module _ {F : Arithmetic} (laws : IsField F) (most : ℕ) (c : Layout) (made : IsGenerated F (rule_of labels) seeds most c) (count : n ≡ length labels) where
    simplex_at : (x : ℕ) → x < length made.cells → IsSimplex n simplices (get_or made.cells x [])
    simplex_at x lt = under_simplex labels n simplices seeds are (get_or made.cells x []) ((made.are.all (get_or made.cells x [])).0
        (contains_at made.cells x lt))

    cells_are_simplices : AreSimplices n simplices made.cells
    cells_are_simplices = record {
      ordered = λ i j d less lt.
          let e = get_or_default made.cells i d [] (omega (arith, less, lt)) in
          let f = get_or_default made.cells j d [] lt in
          subst (λ (s : List ℕ). IsBefore s (get_or made.cells j d)) (sym e) (subst (λ (t : List ℕ). IsBefore (get_or made.cells i []) t) (sym f)
          (lower (length (get_or made.cells i [])) (length (get_or made.cells j [])) (get_or made.cells i []) (get_or made.cells j [])
          (simplex_at i (omega (arith, less, lt))).some (simplex_at j lt).some (made.are.ordered i j [] less lt)));
      all = λ s. (
        (λ there. under_simplex labels n simplices seeds are s ((made.are.all s).0 there)),
        (λ is. (made.are.all s).1 (simplex_under labels n simplices seeds are s is)),
      );
    }

    pub simplicial_complex : IsSimplicialComplex F labels simplices c
    simplicial_complex = record {
      cells = made.cells;
      are = subst (λ m. AreSimplices m simplices made.cells) count cells_are_simplices;
      labels_are = made.labels;
      dims_are = made.dims;
      values = record {
        value = λ x y i lt lt' within e. made.boundary x y lt lt' ∙ value_left_out laws labels (get_or made.cells x []) (get_or made.cells y []) i
            (simplex_at x lt).ascending (simplex_at y lt').some within e;
        none = λ x y lt lt' other. made.boundary x y lt lt' ∙ value_other laws labels (get_or made.cells x []) (get_or made.cells y []) other;
        beyond = made.beyond;
      };
    }

    -- and there are no more
    pub no_more : ¬ AreMore n simplices most
    no_more more =
        let fits = most_cells made.cells more.some more.apart (All-weaker (IsSimplex n simplices) (Contains made.cells)
        (λ s is. (made.are.all s).1 (simplex_under labels n simplices seeds are s is)) more.some more.are) in
        absurd (omega (arith, fits, made.few, more.more))
