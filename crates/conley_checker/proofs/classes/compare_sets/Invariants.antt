use Rattle.std.proofs.Common.{◌≡◌, ℕ, ◌<◌}
use Rattle.conley_certificate.specs.Problem.{problem_of}
use Rattle.conley_certificate_file.specs.CertificateMeaning.{meaning_of}
use Rattle.conley_certificate.specs.Values.{place_of, wanted_place}
use Rattle.conley_checker.proofs.classes.compare_sets.Given as goal

abbrev pub invariant-loop-x : goal.invariant-loop-x
invariant-loop-x g l = (y : ℕ) → y < l.x → place_of (meaning_of l.certificate) y ≡ wanted_place
    (problem_of (g.F.Field.arithmetic l.complex.0) l.complex.1 l.partition) (meaning_of l.certificate) y
