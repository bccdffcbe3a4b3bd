-- What is due where a file is fetched, and of the problem that it stands for.
--     Holds files name limit bytes            the file of the name may have these bytes, which are within the limit
--     IsLonger files name limit               the file may have more bytes
--     AfterFetch files name limit Next what   what is due of the bytes of a file; the file is lacking; it is longer than its limit
--     file_limit                              the most bytes of the file of a problem
--     AfterProblem bytes Next what            the bytes are refused; what is due of the problem that they stand for
--     OnProblem files file Next what          what is due of the problem in a file
-- Where a depot tells its files, the file has the bytes that are told. Where it tells nothing, each file has some bytes.
-- The wording is this project's own.
use Rattle.std.specs.Prelude.{◌≡◌, ◌⊎◌, ◌<◌, ◌≤◌, ℕ, List, length, Some, IfSome, IsSomeAnd}
use Rattle.conley_outside.specs.Depot.{Files, Lacks}
use Rattle.conley_input.specs.Problem.{Problem, Reads, Refuses}
use Rattle.conley_input.specs.declared.error.FileFault.{FileFault}
use Rattle.conley_tool.specs.Due.{Due, ends}
use Rattle.conley_tool.specs.declared.outcome.Fault.TheVariants.{File}
use Rattle.conley_tool.specs.declared.outcome.Outcome.TheVariants.{Refused, ReadFault, TooLong}

pub record Holds (files : Files) (name : List ℕ) (limit : ℕ) (bytes : List ℕ) : Type 0 where
  pub told : IfSome files (λ file_of. file_of name ≡ Some bytes)
  pub within : length bytes ≤ limit

abbrev pub IsLonger : Files → List ℕ → ℕ → Type 0
IsLonger files name limit = IfSome files (λ file_of. IsSomeAnd (file_of name) (λ bytes. limit < length bytes))

-- what comes after a step is due only where the step gives what it needs
abbrev pub AfterFetch : Files → List ℕ → ℕ → (List ℕ → Due → Type 0) → Due → Type 0
AfterFetch files name limit Next what =
    ((bytes : List ℕ) × Holds files name limit bytes × Next bytes what)
    ⊎ ((Lacks files name × (what ≡ ends ReadFault))
    ⊎ (IsLonger files name limit × (what ≡ ends TooLong)))

-- 64 MiB
abbrev pub file_limit : ℕ
file_limit = 67108864

abbrev pub AfterProblem : List ℕ → (Problem → Due → Type 0) → Due → Type 0
AfterProblem bytes Next what =
    ((fault : FileFault) × Refuses bytes fault × (what ≡ ends (Refused (File fault))))
    ⊎ ((problem : Problem) × Reads bytes problem × Next problem what)

abbrev pub OnProblem : Files → List ℕ → (Problem → Due → Type 0) → Due → Type 0
OnProblem files file Next what = AfterFetch files file file_limit (λ bytes. AfterProblem bytes Next) what
