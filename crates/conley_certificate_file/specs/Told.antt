-- How a refusal of a certificate is told.
--     told_as number kept     a name of this number, with what is kept
--     words_of_fault fault    C1 to C4, with the member and then the number or the place that it keeps
-- The wording is this project's own.
use Rattle.std.specs.Prelude.{ℕ, List, [], ◌∷◌, ◌++◌, map, decimal, codes}
use Rattle.conley_certificate_file.specs.declared.error.CertFault.{CertFault}
use Rattle.conley_certificate_file.specs.declared.error.CertFault.TheVariants.{NotJson, BadShape, Differs, BadPlace}

abbrev pub told_as : ℕ → List ℕ → List (List ℕ)
told_as number kept = (codes "C" ++ decimal number) ∷ map decimal kept

abbrev pub words_of_fault : CertFault → List (List ℕ)
words_of_fault NotJson = told_as 1 []
words_of_fault (BadShape m) = told_as 2 (m ∷ [])
words_of_fault (Differs m v) = told_as 3 (m ∷ v ∷ [])
words_of_fault (BadPlace m k) = told_as 4 (m ∷ k ∷ [])
