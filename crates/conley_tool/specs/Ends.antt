-- What the steps of a run before its text say of the outcome that ends it; no public clause cites it.
--     FetchCause files name limit read outcome   the cause of an outcome that a fetch gives
--     ProblemCause files file read outcome       the cause of an outcome that reading a problem gives
--     EndCause Is read outcome                   the cause of an outcome that ends a run before its text, where `Is` says what is due
--     StandsFor files file problem               the file may have bytes that stand for the problem
--     IsNamed reads files word problem           the problem that an argument names: the file may stand for it, or it is made for a number
--     NamedCause reads files word read outcome   the cause of an outcome that ends a run before it has this problem
--     due_of answer                              an answer that a command gave, as what is due
--     graph_of found                             the Morse graph of a decomposition that was found
use Rattle.std.specs.Prelude.{◌≡◌, ◌⊎◌, ℕ, List, Bool, true, false}
use Rattle.conley_outside.specs.Depot.{Files, Lacks}
use Rattle.conley_lists.specs.Lists.{items_of}
use Rattle.conley_morse.specs.declared.decomposition.Decomposition.{Decomposition}
use Rattle.conley_input.specs.Problem.{Problem, Reads, Refuses}
use Rattle.conley_tool.specs.Due.{Due, ends, prints, accepts}
use Rattle.conley_tool.specs.Fetches.{Holds, IsLonger, file_limit}
use Rattle.conley_tool.specs.Morse.{MorseGraph}
use Rattle.conley_tool.specs.Trial.{IsMade}
use Rattle.conley_tool.specs.declared.answer.Answer.{Answer}
use Rattle.conley_tool.specs.declared.answer.Answer.TheVariants.{Prints, Accepts}
use Rattle.conley_tool.specs.declared.outcome.Fault.TheVariants.{File}
use Rattle.conley_tool.specs.declared.outcome.Outcome.{Outcome}
use Rattle.conley_tool.specs.declared.outcome.Outcome.TheVariants.{Refused, Rejected, ReadFault, TooLong, NoMemory}

abbrev pub FetchCause : Files → List ℕ → ℕ → (read : Type 0) → Outcome → Type 0
FetchCause files name limit read ReadFault = read ⊎ Lacks files name
FetchCause files name limit read TooLong = IsLonger files name limit
FetchCause files name limit read NoMemory = Unit {0}
FetchCause files name limit read _ = ⊥

abbrev pub ProblemCause : Files → List ℕ → (read : Type 0) → Outcome → Type 0
ProblemCause files file read (Refused (File fault)) = (bytes : List ℕ) × Holds files file file_limit bytes × Refuses bytes fault
ProblemCause files file read outcome = FetchCause files file file_limit read outcome

abbrev pub EndCause : (Due → Type 0) → (read : Type 0) → Outcome → Type 0
EndCause Is read (Refused fault) = Is (ends (Refused fault))
EndCause Is read (Rejected reason) = Is (ends (Rejected reason))
EndCause Is read TooLong = Is (ends TooLong)
EndCause Is read ReadFault = read ⊎ Is (ends ReadFault)
EndCause Is read NoMemory = Unit {0}
EndCause Is read _ = ⊥

abbrev pub StandsFor : Files → List ℕ → Problem → Type 0
StandsFor files file problem = (bytes : List ℕ) × Holds files file file_limit bytes × Reads bytes problem

abbrev pub IsNamed : Bool → Files → List ℕ → Problem → Type 0
IsNamed true files word problem = StandsFor files word problem
IsNamed false files word problem = IsMade word problem

abbrev pub NamedCause : Bool → Files → List ℕ → (read : Type 0) → Outcome → Type 0
NamedCause true files word read outcome = ProblemCause files word read outcome
NamedCause false files word read outcome = outcome ≡ NoMemory

abbrev pub due_of : Answer → Due
due_of (Prints text) = prints text.items
due_of Accepts = accepts

abbrev pub graph_of : Decomposition → MorseGraph
graph_of found = record { sets = items_of found.sets.items; numbers = items_of found.numbers.items; order = found.order.items }
