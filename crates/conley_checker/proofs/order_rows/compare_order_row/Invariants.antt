use Rattle.std.proofs.Common.{◌≡◌, ℕ, ◌<◌}
use Rattle.conley_certificate.specs.Problem.{problem_of}
use Rattle.conley_certificate_file.specs.CertificateMeaning.{meaning_of}
use Rattle.conley_certificate.specs.Values.{is_listed_pair, is_cover}
use Rattle.conley_checker.proofs.order_rows.compare_order_row.Given as goal

abbrev pub invariant-loop-q : goal.invariant-loop-q
invariant-loop-q g l = (s : ℕ) → s < l.q → is_listed_pair (meaning_of l.certificate) l.p s ≡ is_cover
    (problem_of (g.F.Field.arithmetic l.complex.0) l.complex.1 l.partition) (meaning_of l.certificate) l.p s
