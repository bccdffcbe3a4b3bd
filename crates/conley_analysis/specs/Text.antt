-- The text of an analysis.
--     IsAnalysisText P text     the text is that of a certificate, reads back as it, and the certificate is an analysis of the problem
-- The wording is this project's own.
use Rattle.std.specs.Prelude.{ℕ, List}
use Rattle.conley_certificate_file.specs.Certificate.{Certificate}
use Rattle.conley_certificate_file.specs.Reading.{Reads}
use Rattle.conley_certificate_file.specs.Text.{IsTextOf}
use Rattle.conley_certificate.specs.Problem.{Problem}
use Rattle.conley_certificate.specs.Analysis.{IsAnalysis}

pub record IsAnalysisText (P : Problem) (text : List ℕ) : Type 0 where
  pub certificate : Certificate
  pub analysis : IsAnalysis P certificate
  pub written : IsTextOf P.scalars P.complex certificate text
  pub reads_back : Reads P.scalars P.complex text certificate
