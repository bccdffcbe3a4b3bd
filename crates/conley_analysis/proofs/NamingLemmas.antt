-- Numbers written at the cells of sets, one after another.
use Rattle.std.proofs.Common.{◌≡◌, inl, inr, ℕ, ◌+◌, ◌<◌, List, [], ◌∷◌, ◌++◌, length, get_or, ap, sym, ◌∙◌, arith, refl, subst}
use Rattle.std.specs.Prelude.{Contains, slice_index}
use Rattle.std.proofs.lemmas.Bool.{cases_eq}
use Rattle.std.proofs.Math.Seq.{get_or-append_seam}
use Rattle.std.proofs.lemmas.List.{get_or_append_left, length_push}
use Rattle.conley_transitions.specs.Morse.{set_at, IsAt}

-- the cells of the first i sets have their numbers
pub record IsNumbered (sets : List (List ℕ)) (cells i : ℕ) (number : List ℕ) : Type 0 where
  pub width : length number ≡ cells
  pub inside : (j x : ℕ) → j < i → IsAt sets x j → slice_index number x ≡ j

pub numbered_more : (sets : List (List ℕ)) (cells : ℕ) → ((i j x : ℕ) → IsAt sets x i → IsAt sets x j → i ≡ j) → (i : ℕ) (number new set_cells : List ℕ)
    → IsNumbered sets cells i number → i < length sets → set_cells ≡ set_at sets i
    → length new ≡ length number → ((x : ℕ) → Contains set_cells x → slice_index new x ≡ i)
    → ((x : ℕ) → ¬ Contains set_cells x → slice_index new x ≡ slice_index number x) → IsNumbered sets cells (i + 1) new
numbered_more sets cells once i number new set_cells is below cells_are width inside outside = record {
  width = width ∙ is.width;
  inside = λ j x less at. elim (cases_eq j i) [
    | inl same ↦ inside x (subst (λ xs. Contains xs x) (sym cells_are) (subst (λ n. Contains (set_at sets n) x) same at.1)) ∙ sym same
    | inr other ↦ outside x (λ c. other (once j i x at (below, subst (λ xs. Contains xs x) cells_are c))) ∙ is.inside j x (omega arith) at
  ];
}

-- the first n generators have their sets and dimensions
pub record AreNamedSoFar (sets : List (List ℕ)) (base dims : List ℕ) (n : ℕ) (names : List (ℕ × ℕ)) : Type 0 where
  pub count : length names ≡ n
  pub at : (g : ℕ) → g < n → IsAt sets (get_or base g 0) (get_or names g (0, 0)).0
  pub dim : (g : ℕ) → g < n → (get_or names g (0, 0)).1 ≡ get_or dims g 0

pub none_named : (sets : List (List ℕ)) (base dims : List ℕ) → AreNamedSoFar sets base dims 0 []
none_named sets base dims = record { count = refl; at = λ g below. absurd (omega arith); dim = λ g below. absurd (omega arith) }

pub named_more : (sets : List (List ℕ)) (base dims : List ℕ) (n : ℕ) (names : List (ℕ × ℕ)) (name : ℕ × ℕ) → AreNamedSoFar sets base dims n names
    → IsAt sets (get_or base n 0) name.0 → name.1 ≡ get_or dims n 0
    → AreNamedSoFar sets base dims (n + 1) (names ++ name ∷ [])
named_more sets base dims n names name so_far here dim = record {
  count = length_push names name ∙ ap (λ k. k + 1) so_far.count;
  at = λ g below. elim (cases_eq g n) [
    | inl last ↦ subst (λ e. IsAt sets (get_or base g 0) e.0) (sym (at_end g last)) (subst (λ k. IsAt sets (get_or base k 0) name.0) (sym last) here)
    | inr other ↦ subst (λ e. IsAt sets (get_or base g 0) e.0) (sym (before g (omega arith))) (so_far.at g (omega arith))
  ];
  dim = λ g below. elim (cases_eq g n) [
    | inl last ↦ ap (λ (e : ℕ × ℕ). e.1) (at_end g last) ∙ dim ∙ ap (λ k. get_or dims k 0) (sym last)
    | inr other ↦ ap (λ (e : ℕ × ℕ). e.1) (before g (omega arith)) ∙ so_far.dim g (omega arith)
  ];
} where
  at_end : (g : ℕ) → g ≡ n → get_or (names ++ name ∷ []) g (0, 0) ≡ name
  at_end g last = ap (λ k. get_or (names ++ name ∷ []) k (0, 0)) (last ∙ sym so_far.count) ∙ get_or-append_seam names name [] (0, 0)

  before : (g : ℕ) → g < n → get_or (names ++ name ∷ []) g (0, 0) ≡ get_or names g (0, 0)
  before g below = get_or_append_left names (name ∷ []) (0, 0) g (omega (arith, below, so_far.count))

-- what the numbers of the sets tell of a cell
pub number_at : (sets : List (List ℕ)) (number : List ℕ) (x n i : ℕ) → ((j y : ℕ) → IsAt sets y j → slice_index number y ≡ j) → IsAt sets x i
    → n ≡ slice_index number x → IsAt sets x n
number_at sets number x n i numbers at is = subst (IsAt sets x) (sym (is ∙ numbers i x at)) at
