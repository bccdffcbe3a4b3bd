-- How many generators a recurrence class has.
--     generators_in P C x k        how many generators of dimension k have their grade in the class of x
--     GeneratorsAreCounted P C     they are as many as the Conley numbers of the class say; so a class without a generator has zeros alone
use Rattle.std.specs.Prelude.{◌≡◌, ◌↔◌, ◌<◌, ◌==◌, ◌&&◌, ℕ, List, Contains, slice_index}
use Rattle.conley_walk.specs.Walk.{AreRecurrent}
use Rattle.conley_lefschetz.specs.Conley.{AreConleyNumbers}
use Rattle.conley_transitions.specs.Flow.{StepOf}
use Rattle.conley_certificate.specs.Tests.{count_below}
use Rattle.conley_certificate.specs.Problem.{Problem, cell_count, flow}
use Rattle.conley_certificate_file.specs.Certificate.{Certificate}
use Rattle.conley_certificate.specs.Certificate.{generator_count, dim_of, base_of}
use Rattle.conley_certificate.specs.Reach.{recurs}

abbrev pub generators_in : Problem → Certificate → ℕ → ℕ → ℕ
generators_in P C x k = count_below (generator_count C) (λ g. recurs P x (base_of C g) && (dim_of C g == k))

abbrev pub GeneratorsAreCounted : Problem → Certificate → Type 0
GeneratorsAreCounted P C = (x : ℕ) (class numbers : List ℕ) → x < cell_count P → ((y : ℕ) → Contains class y ↔ AreRecurrent (StepOf (flow P)) x y)
    → AreConleyNumbers P.scalars P.complex class numbers → (k : ℕ) → k < P.complex.levels → slice_index numbers k ≡ generators_in P C x k
