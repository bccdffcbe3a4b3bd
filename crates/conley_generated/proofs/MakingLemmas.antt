-- From the cells found to the cells in order, and to their complex.
use Rattle.std.proofs.Common.{◌≡◌, inl, inr, ◌<◌, ◌≤◌, ℕ, List, [], ◌∷◌, length, map, get_or, sym, ◌∙◌, ap, subst, arith}
use Rattle.std.specs.Prelude.{All, Contains, ◌↔◌}
use Rattle.std.proofs.lemmas.List.{length-map}
use Rattle.std.proofs.lemmas.List.Elements.{All-contains, All-weaker}
use Rattle.conley_lists.specs.Lists.{AreApart}
use Rattle.conley_field.specs.Arithmetic.{Arithmetic, IsField}
use Rattle.conley_first.specs.First.{Precedes}
use Rattle.conley_generated.specs.Rule.{Rule, IsRule, only_cells}
use Rattle.conley_lefschetz.specs.Listing.{Listing, incidence_of}
use Rattle.conley_lefschetz.specs.Fault.{Fails}
use Rattle.conley_lefschetz.specs.Complex.{Layout, IsComplexOf}
use Rattle.conley_lefschetz.specs.declared.error.ComplexError.{ComplexError}
use Rattle.conley_generated.specs.Generated.{IsUnder, AreInOrder, AreCellsUnder, IsGenerated}
use Rattle.conley_generated.specs.Generated.IsUnder.{seed, face}
use Rattle.conley_generated.specs.Making.{AreFound, triples_below}
use Rattle.conley_generated.proofs.CellLemmas.{All-contained, contains_at}
use Rattle.conley_generated.proofs.ListingLemmas.{IsSound, triples_sound, triples_value, triples_upper, triples_lower, faultless}

not_before_itself : (a : List ℕ) → ¬ Precedes a a
not_before_itself [] before = before
not_before_itself (x ∷ a) before = elim before [ inl less ↦ absurd (omega arith) | inr same ↦ not_before_itself a same.1 ]

pub ordered_apart : (rule : Rule) (cells : List (List ℕ)) → AreInOrder rule cells → AreApart cells
ordered_apart rule cells ordered i j d less lt e =
    not_before_itself (rule.dim (get_or cells j d) ∷ get_or cells j d) (subst (λ (s : List ℕ). Precedes (rule.dim s ∷ s)
    (rule.dim (get_or cells j d) ∷ get_or cells j d)) e (ordered i j d less lt))

module _ {IsCell : List ℕ → Type 0} (rule : Rule) (is : IsRule IsCell rule) (seeds : List (List ℕ)) (cells_given : All IsCell seeds) where
  pub under_cell : (s : List ℕ) → IsUnder rule seeds s → IsCell s
  under_cell s (seed t c) = All-contains IsCell seeds s cells_given c
  under_cell s (face t u under is_face) = All-contains IsCell (only_cells (rule.faces t)) s (is.cells t (under_cell t under)) is_face

  module _ (most : ℕ) (found : List (List ℕ)) (are : AreFound rule seeds most found) where
    pub found_cells : All IsCell found
    found_cells = All-contained IsCell found (λ s c. under_cell s ((are.all s).0 c))

    module _ (cells : List (List ℕ)) (ordered : AreInOrder rule cells) (same : (s : List ℕ) → Contains cells s ↔ Contains found s) where
      pub cells_under : AreCellsUnder rule seeds cells
      cells_under = record { ordered = ordered; all = λ s. ((λ c. (are.all s).0 ((same s).0 c)), (λ under. (same s).1 ((are.all s).1 under))) }

      pub cells_are : All IsCell cells
      cells_are = All-contained IsCell cells (λ s c. under_cell s ((are.all s).0 ((same s).0 c)))

      pub cells_closed : (x : ℕ) → x < length cells → All (Contains cells) (only_cells (rule.faces (get_or cells x [])))
      cells_closed x lt =
          let under : IsUnder rule seeds (get_or cells x []) = (are.all (get_or cells x [])).0 ((same (get_or cells x [])).0 (contains_at cells x lt)) in
          All-contained (Contains cells) (only_cells (rule.faces (get_or cells x []))) (λ t c. (same t).1 ((are.all t).1 (face (get_or cells x []) t under c)))

      pub codes_below : (F : Arithmetic) → IsField F → All (λ i. i.2 < F.order) (triples_below F rule cells (length cells))
      codes_below F laws = All-weaker (IsSound F rule cells (length cells)) (λ i. i.2 < F.order) (λ i s. s.code) (triples_below F rule cells (length cells))
          (triples_sound laws rule is cells (ordered_apart rule cells ordered) cells_are cells_closed (length cells) (omega arith))

      pub cells_few : length cells ≡ length found → length cells ≤ most
      cells_few e = omega (arith, e, are.few)

      -- what is listed in memory is the listing
      module _ (F : Arithmetic) (laws : IsField F) (labels : List (List ℕ)) (dims : List ℕ) (incidences : List (ℕ × ℕ × ℕ))
          (labels_are : labels ≡ map rule.label cells) (dims_are : dims ≡ map rule.dim cells)
          (incidences_are : incidences ≡ triples_below F rule cells (length cells)) where
        cells_once : AreApart cells
        cells_once = ordered_apart rule cells ordered

        pub listed_faultless : (fault : ComplexError) → ¬ Fails F (record { labels = labels; dims = dims; incidences = incidences }) fault
        listed_faultless fault fails =
            let one : Listing = record { labels = labels; dims = dims; incidences = incidences } in
            let other : Listing = record { labels = map rule.label cells; dims = map rule.dim cells; incidences = triples_below F rule cells (length cells) } in
            let same : one ≡ other = cc in
            faultless laws rule is cells cells_once cells_are cells_closed fault (subst (λ (l : Listing). Fails F l fault) same fails)

        pub listed_codes : All (λ i. i.2 < F.order) incidences
        listed_codes = subst (λ (l : List (ℕ × ℕ × ℕ)). All (λ i. i.2 < F.order) l) (sym incidences_are) (codes_below F laws)

        pub listed_count : length labels ≡ length dims
        listed_count = ap length labels_are ∙ length-map cells rule.label ∙ sym (ap length dims_are ∙ length-map cells rule.dim)

        pub generated : length cells ≡ length found → (c : Layout) → IsComplexOf F (record { labels = labels; dims = dims; incidences = incidences }) c
            → IsGenerated F rule seeds most c
        generated count c complex = record {
          cells = cells;
          are = cells_under;
          few = cells_few count;
          labels = complex.labels ∙ labels_are;
          dims = complex.dims ∙ dims_are;
          boundary = λ x y lt lt'. complex.boundary x y ∙ ap (λ (l : List (ℕ × ℕ × ℕ)). incidence_of l x y) incidences_are
              ∙ triples_value laws rule is cells cells_once cells_are cells_closed (length cells) (omega arith) x y lt lt';
          beyond = λ x y out. complex.boundary x y ∙ ap (λ (l : List (ℕ × ℕ × ℕ)). incidence_of l x y) incidences_are ∙ elim out [
            | inl upper ↦ triples_upper laws rule is cells cells_once cells_are cells_closed x y upper
            | inr lower ↦ triples_lower laws rule is cells cells_once cells_are cells_closed x y lower
          ];
        }
