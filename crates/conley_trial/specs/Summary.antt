-- The summary of a complex and of a certificate.
--     summary_of c C     cells, Morse sets, sums of the indices at dimensions 0, 1 and 2, Euler's number, entries of the connection matrix
-- The wording is this project's own.
use Rattle.std.specs.Prelude.{[], ◌∷◌, length}
use Rattle.conley_lefschetz.specs.Complex.{Layout}
use Rattle.conley_certificate_file.specs.Certificate.{Certificate}
use Rattle.conley_trial.specs.Numbers.{euler, index_sum, entry_count}
use Rattle.conley_trial.specs.declared.summary.Summary.{Summary}

abbrev pub summary_of : Layout → Certificate → Summary
summary_of c C = record {
  cells = length c.dims;
  morse = length C.morse;
  index = index_sum C.index 0 ∷ index_sum C.index 1 ∷ index_sum C.index 2 ∷ [];
  euler = euler c.dims;
  entries = entry_count C.matrix;
}
