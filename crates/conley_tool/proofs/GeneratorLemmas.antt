-- A certificate whose generators stand for cells has no more of them than there are cells.
use Rattle.std.proofs.Common.{◌<◌, ◌≤◌, ℕ, zero, suc, List, length, get_or, arith}
use Rattle.std.specs.List.Sorted.{IsStrictlyIncreasing}
use Rattle.conley_lists.proofs.ListLemmas.{rises}
use Rattle.conley_graph.specs.Decomposition.{IsConleyMorseGraph}
use Rattle.conley_certificate_file.specs.Certificate.{Certificate}
use Rattle.conley_certificate.specs.Problem.{Problem}
use Rattle.conley_certificate.specs.Certificate.{generator_count, set_of}
use Rattle.conley_certificate.specs.Analysis.{IsAnalysis}
use Rattle.conley_certificate.specs.Reduced.{KeepsCells}

-- ascending numbers are no less than their places
at_own : (numbers : List ℕ) → IsStrictlyIncreasing numbers → (k : ℕ) → k < length numbers → k ≤ get_or numbers k 0
at_own numbers up zero within = omega arith
at_own numbers up (suc k) within =
    let before = at_own numbers up k (omega (arith, within)) in
    omega (arith, before, rises numbers up k (suc k) (omega arith) within)

pub few_generators : (P : Problem) (C : Certificate) (cells : List ℕ) → KeepsCells P C cells → IsAnalysis P C
    → IsConleyMorseGraph P.scalars P.complex P.part_of C.morse C.index C.order →
    length C.generators ≤ length P.part_of
few_generators P C cells keeps analysis graph = by (length C.generators) (omega arith)
  where
    by : (n : ℕ) → n ≤ length C.generators → n ≤ length P.part_of
    by zero le = omega arith
    by (suc n) le =
        let within : n < generator_count C = omega (arith, le) in
        let at = (graph.sets.classes.all (get_or cells n 0)).0 (set_of C n, ((analysis.generators n within).0, keeps.sets n within)) in
        omega (arith, at.0, at_own cells keeps.ascending n (omega (arith, within, keeps.count)))
