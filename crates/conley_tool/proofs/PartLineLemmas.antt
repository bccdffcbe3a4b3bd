-- The lines of parts: one more at a time, and that they are determined.
use Rattle.std.proofs.Common.{◌≡◌, ◌⊎◌, ◌↔◌, Bool, true, false, refl, if◌then◌else◌, inl, inr, ◌<◌, ◌+◌, ℕ, List, [], ◌∷◌, ◌++◌, length, get_or, arith, ap, subst, sym, ◌∙◌}
use Rattle.std.proofs.Math.ListN.{get_or-append}
use Rattle.std.proofs.Math.Seq.{get_or-append_seam}
use Rattle.std.proofs.lemmas.Bool.{cases_lt, false≢true}
use Rattle.std.proofs.lemmas.List.{length-append, ext_get_or}
use Rattle.std.specs.Prelude.{slice_index_or, codes, IsTrue}
use Rattle.std.specs.List.Sorted.{IsStrictlyIncreasing}
use Rattle.conley_mvf.specs.Partition.{AreCellsOf}
use Rattle.conley_lists.proofs.AscendingLemmas.{same_numbers}
use Rattle.conley_field.specs.Prime.{residues}
use Rattle.conley_lefschetz.specs.Conley.{IsRegular}
use Rattle.conley_texts.specs.Words.{labels_of}
use Rattle.conley_input.specs.Problem.{Problem}
use Rattle.conley_tool.specs.Field.{IsPartLine, AreFieldLines}

-- a line for each part before p
abbrev pub AreLinesBefore : Problem → ℕ → List (List (List ℕ)) → Type 0
AreLinesBefore problem p lines = (length lines ≡ p) × ((q : ℕ) → q < p → IsPartLine problem q (slice_index_or lines q []))

pub lines_more : (problem : Problem) (p : ℕ) (lines : List (List (List ℕ))) (words : List (List ℕ)) → AreLinesBefore problem p lines
    → IsPartLine problem p words →
    AreLinesBefore problem (p + 1) (lines ++ words ∷ [])
lines_more problem p lines words before line = (
  omega (arith, before.0, length-append lines (words ∷ [])),
  λ q lt. elim (cases_lt q p) [
    | inl less ↦ subst (λ (l : List (List ℕ)). IsPartLine problem q l) (sym (get_or-append lines (words ∷ []) [] q (omega (arith, less, before.0))))
        (before.1 q less)
    | inr ge ↦
        let same : length lines ≡ q = omega (arith, before.0, lt, ge) in
        let part : p ≡ q = omega (arith, lt, ge) in
        let here : get_or (lines ++ words ∷ []) q [] ≡ words = subst (λ (n : ℕ). get_or (lines ++ words ∷ []) n [] ≡ words) same
        (get_or-append_seam lines words [] []) in
        subst (λ (l : List (List ℕ)). IsPartLine problem q l) (sym here) (subst (λ (n : ℕ). IsPartLine problem n words) part line)
  ],
)

-- the line of a part of which it is told whether it is regular
pub part_line : (problem : Problem) (p : ℕ) (cells : List ℕ) (regular : Bool) → IsStrictlyIncreasing cells → AreCellsOf problem.part_of p cells →
    IsTrue regular ↔ IsRegular (residues problem.order) problem.complex cells →
    IsPartLine problem p ((if regular then codes "regular" else codes "critical") ∷ labels_of problem.complex.labels cells)
part_line problem p cells true ascending of_part is = record { cells = cells; ascending = ascending; of_part = of_part; kind = inl (is.0 refl, refl) }
part_line problem p cells false ascending of_part is = record {
  cells = cells;
  ascending = ascending;
  of_part = of_part;
  kind =
      inr ((λ r. false≢true (is.1 r)), refl);
}

-- a part has one line
part_line_once : (problem : Problem) (p : ℕ) (a b : List (List ℕ)) → IsPartLine problem p a → IsPartLine problem p b → a ≡ b
part_line_once problem p a b first second = by_kind first.kind second.kind
  where
    cells : first.cells ≡ second.cells
    cells = same_numbers first.cells second.cells first.ascending second.ascending (λ x. (
      (λ h. (second.of_part.same x).1 ((first.of_part.same x).0 h)),
      (λ h. (first.of_part.same x).1 ((second.of_part.same x).0 h)),
    ))

    Regular : List ℕ → Type 0
    Regular = IsRegular (residues problem.order) problem.complex

    by_kind : (Regular first.cells × (a ≡ codes "regular" ∷ labels_of problem.complex.labels first.cells))
        ⊎ ((¬ Regular first.cells) × (a ≡ codes "critical" ∷ labels_of problem.complex.labels first.cells)) →
        (Regular second.cells × (b ≡ codes "regular" ∷ labels_of problem.complex.labels second.cells))
        ⊎ ((¬ Regular second.cells) × (b ≡ codes "critical" ∷ labels_of problem.complex.labels second.cells)) → a ≡ b
    by_kind (inl r) (inl s) = r.1 ∙ ap (λ l. codes "regular" ∷ labels_of problem.complex.labels l) cells ∙ sym s.1
    by_kind (inl r) (inr s) = absurd (s.0 (subst Regular cells r.0))
    by_kind (inr r) (inl s) = absurd (r.0 (subst Regular (sym cells) s.0))
    by_kind (inr r) (inr s) = r.1 ∙ ap (λ l. codes "critical" ∷ labels_of problem.complex.labels l) cells ∙ sym s.1

pub field_lines_once : (problem : Problem) (a b : List (List (List ℕ))) → AreFieldLines problem a → AreFieldLines problem b → a ≡ b
field_lines_once problem a b first second =
    let less = λ (x y : List (List (List ℕ))) (f : AreFieldLines problem x) (s : AreFieldLines problem y) (p : ℕ) (lt : p < length x). (s.count p).1
    ((f.count p).0 lt) in
    let count : length a ≡ length b = one_count (length a) (length b) (less a b first second) (less b a second first) in
    ext_get_or [] a b count (λ p lt. part_line_once problem p (get_or a p []) (get_or b p []) (first.each p lt) (second.each p (less a b first second p lt)))
  where
    one_count : (m n : ℕ) → ((p : ℕ) → p < m → p < n) → ((p : ℕ) → p < n → p < m) → m ≡ n
    one_count m n up down = elim (cases_lt m n) [
      | inl lt ↦ absurd (omega (arith, down m lt))
      | inr ge ↦ elim (cases_lt n m) [
        | inl lt ↦ absurd (omega (arith, up n lt))
        | inr le ↦ omega (arith, ge, le)
      ]
    ]
