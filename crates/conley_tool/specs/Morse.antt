-- What is due for `morse FILE`.
--     MorseGraph                       Morse sets, the Conley numbers of each, and the covers of their order
--     IsMorseGraphOf problem graph     those of the finest Morse decomposition of the problem
--     set_words labels graph m         the words of the line of set m
--     order_words pair                 the words of the line of a pair of the order
--     morse_lines labels graph         the lines of the sets, then those of the order
--     RefusesSets problem what         more than 2,000 Morse sets are refused
--     PrintsMorse problem what         the text of the Morse sets
--     MorseIsDue problem what          one of these two
-- The wording is this project's own.
use Rattle.std.specs.Prelude.{◌≡◌, ◌⊎◌, ◌≤◌, ℕ, List, [], ◌∷◌, ◌++◌, map, length, codes, decimal}
use Rattle.std.specs.List.{range_with_len}
use Rattle.conley_field.specs.Prime.{residues}
use Rattle.conley_texts.specs.Line.{text_of}
use Rattle.conley_texts.specs.Words.{labels_of}
use Rattle.conley_transitions.specs.Morse.{set_at}
use Rattle.conley_graph.specs.Decomposition.{IsConleyMorseGraph, HasTooManySets}
use Rattle.conley_input.specs.Problem.{Problem}
use Rattle.conley_tool.specs.Due.{Due, ends, prints}
use Rattle.conley_tool.specs.declared.outcome.Fault.TheVariants as fault
use Rattle.conley_tool.specs.declared.outcome.Outcome.TheVariants.{Refused}

pub record MorseGraph : Type 0 where
  pub sets : List (List ℕ)
  pub numbers : List (List ℕ)
  pub order : List (ℕ × ℕ)

abbrev pub IsMorseGraphOf : Problem → MorseGraph → Type 0
IsMorseGraphOf problem graph = IsConleyMorseGraph (residues problem.order) problem.complex problem.part_of graph.sets graph.numbers graph.order

abbrev pub set_words : List (List ℕ) → MorseGraph → ℕ → List (List ℕ)
set_words labels graph m =
    codes "set" ∷ decimal m ∷ codes "index" ∷ (map decimal (set_at graph.numbers m) ++ (codes "cells" ∷ labels_of labels (set_at graph.sets m)))

abbrev pub order_words : ℕ × ℕ → List (List ℕ)
order_words pair = codes "order" ∷ decimal pair.0 ∷ decimal pair.1 ∷ []

abbrev pub morse_lines : List (List ℕ) → MorseGraph → List (List (List ℕ))
morse_lines labels graph = map (set_words labels graph) (range_with_len 0 (length graph.sets)) ++ map order_words graph.order

abbrev pub RefusesSets : Problem → Due → Type 0
RefusesSets problem what =
    (count : ℕ) × HasTooManySets (residues problem.order) problem.complex problem.part_of count × (what ≡ ends (Refused (fault.Morse count)))

abbrev pub PrintsMorse : Problem → Due → Type 0
PrintsMorse problem what =
    (graph : MorseGraph) × IsMorseGraphOf problem graph × (length graph.sets ≤ 2000) × (what ≡ prints (text_of (morse_lines problem.complex.labels graph)))

abbrev pub MorseIsDue : Problem → Due → Type 0
MorseIsDue problem what = RefusesSets problem what ⊎ PrintsMorse problem what
