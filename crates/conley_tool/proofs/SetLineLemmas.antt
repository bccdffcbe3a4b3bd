-- The lines of named sets: one more at a time, and that they are determined.
use Rattle.std.proofs.Common.{◌≡◌, ◌<◌, ◌+◌, ℕ, List, [], ◌∷◌, ◌++◌, length, take, get_or, ap, subst, sym, ◌∙◌, refl}
use Rattle.std.proofs.lemmas.List.{take_more}
use Rattle.conley_field.specs.Arithmetic.{IsField}
use Rattle.conley_field.specs.Prime.{residues}
use Rattle.conley_lefschetz.proofs.ConleyLemmas.{numbers_are_one}
use Rattle.conley_isolation.proofs.OnceLemmas.{report_once}
use Rattle.conley_input.specs.Problem.{Problem, NamedSet}
use Rattle.conley_tool.specs.Sets.{set_words, IsSetLine, AreSetLines}

module _ (problem : Problem) where
  -- the line of one set more
  lines_append : (sets : List NamedSet) (lines : List (List (List ℕ))) (named : NamedSet) (words : List (List ℕ)) → AreSetLines problem sets lines
      → IsSetLine problem named words →
      AreSetLines problem (sets ++ named ∷ []) (lines ++ words ∷ [])
  lines_append [] [] named words are line = (line, tt)
  lines_append [] (first ∷ lines) named words are line = absurd are
  lines_append (set ∷ sets) [] named words are line = absurd are
  lines_append (set ∷ sets) (first ∷ lines) named words are line = (are.0, lines_append sets lines named words are.1 line)

  pub lines_more : (sets : List NamedSet) (i : ℕ) (d : NamedSet) (lines : List (List (List ℕ))) (words : List (List ℕ)) → i < length sets
      → AreSetLines problem (take i sets) lines →
      IsSetLine problem (get_or sets i d) words → AreSetLines problem (take (i + 1) sets) (lines ++ words ∷ [])
  lines_more sets i d lines words lt are line =
      subst (λ (some : List NamedSet). AreSetLines problem some (lines ++ words ∷ [])) (sym (take_more sets i d lt))
      (lines_append (take i sets) lines (get_or sets i d) words are line)

  module _ (laws : IsField (residues problem.order)) where
    -- a set has one line
    set_line_once : (named : NamedSet) (a b : List (List ℕ)) → IsSetLine problem named a → IsSetLine problem named b → a ≡ b
    set_line_once named a b first second =
        let told : first.0 ≡ second.0 = report_once problem.complex (numbers_are_one laws problem.complex) problem.part_of named.cells first.0 second.0 first.1
        second.1 in
        first.2 ∙ ap (set_words problem.complex.labels named.name) told ∙ sym second.2

    pub set_lines_once : (sets : List NamedSet) (a b : List (List (List ℕ))) → AreSetLines problem sets a → AreSetLines problem sets b → a ≡ b
    set_lines_once [] [] [] first second = refl
    set_lines_once [] [] (words ∷ b) first second = absurd second
    set_lines_once [] (words ∷ a) b first second = absurd first
    set_lines_once (named ∷ sets) [] b first second = absurd first
    set_lines_once (named ∷ sets) (words ∷ a) [] first second = absurd second
    set_lines_once (named ∷ sets) (words ∷ a) (others ∷ b) first second =
        ap (λ line. line ∷ a) (set_line_once named words others first.0 second.0) ∙ ap (λ lines. others ∷ lines) (set_lines_once sets a b first.1 second.1)
