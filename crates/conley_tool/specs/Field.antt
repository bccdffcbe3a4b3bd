-- What is due for `field FILE`.
--     IsPartLine problem p words        the words are those of part p: whether it is regular, then the labels of its cells
--     AreFieldLines problem lines       a line for each part, in the order of least cells
--     FieldIsDue problem what           the text of these lines
-- The wording is this project's own.
use Rattle.std.specs.Prelude.{◌≡◌, ◌⊎◌, ◌↔◌, ◌<◌, ℕ, List, [], ◌∷◌, length, slice_index_or, codes}
use Rattle.std.specs.List.Sorted.{IsStrictlyIncreasing}
use Rattle.conley_field.specs.Prime.{residues}
use Rattle.conley_lefschetz.specs.Conley.{IsRegular, IsCritical}
use Rattle.conley_mvf.specs.Partition.{IsPartNumber, AreCellsOf}
use Rattle.conley_texts.specs.Line.{text_of}
use Rattle.conley_texts.specs.Words.{labels_of}
use Rattle.conley_input.specs.Problem.{Problem}
use Rattle.conley_tool.specs.Due.{Due, prints}

pub record IsPartLine (problem : Problem) (p : ℕ) (words : List (List ℕ)) : Type 0 where
  -- those of the part, ascending
  pub cells : List ℕ
  pub ascending : IsStrictlyIncreasing cells
  pub of_part : AreCellsOf problem.part_of p cells
  pub kind : (IsRegular (residues problem.order) problem.complex cells × (words ≡ codes "regular" ∷ labels_of problem.complex.labels cells))
      ⊎ (IsCritical (residues problem.order) problem.complex cells × (words ≡ codes "critical" ∷ labels_of problem.complex.labels cells))

-- the parts are numbered in the order of their least cells
pub record AreFieldLines (problem : Problem) (lines : List (List (List ℕ))) : Type 0 where
  pub count : (p : ℕ) → (p < length lines) ↔ IsPartNumber problem.part_of p
  pub each : (p : ℕ) → p < length lines → IsPartLine problem p (slice_index_or lines p [])

abbrev pub FieldIsDue : Problem → Due → Type 0
FieldIsDue problem what = (lines : List (List (List ℕ))) × AreFieldLines problem lines × (what ≡ prints (text_of lines))
