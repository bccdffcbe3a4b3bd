-- What a run comes to, by its words and by what the depot tells.
--     IsDueOn verb problem what        what is due of a problem: a line a command
--     OnArgument reads files word Next what    what is due of the problem that the first argument names: in a file, or made for a number
--     IsDueOf files command what       what is due for a command
--     IsDue files command what         what is due for words that name a command or none: a relation, since walks decide
--     Analyzes command                 the command is `analyze` or `trial`
--     IsDueFor files words what        what is due for the words themselves
-- Where files are told, at most one thing is due, but for `analyze` and `trial`, where several texts can be.
-- Fetches.antt has the steps that every command with a file begins with, Outcomes.antt the causes of outcomes,
-- and a module of its name what a command prints or refuses.
-- The wording is this project's own.
use Rattle.std.specs.Prelude.{◌≡◌, ◌⊎◌, ℕ, List, [], map, slice_index_or, Bool, true, false, Option, Some, None, string_bytes}
use Rattle.std.specs.declared.alloc.Global.{Global}
use Rattle.std.specs.declared.string.String.{String}
use Rattle.conley_outside.specs.Depot.{Files}
use Rattle.conley_input.specs.Problem.{Problem}
use Rattle.conley_tool.specs.Due.{Due, ends}
use Rattle.conley_tool.specs.Words.{Command, reads_file, command_of}
use Rattle.conley_tool.specs.Fetches.{OnProblem}
use Rattle.conley_tool.specs.Classes.{ClassesAreDue}
use Rattle.conley_tool.specs.Field.{FieldIsDue}
use Rattle.conley_tool.specs.Morse.{MorseIsDue}
use Rattle.conley_tool.specs.Sets.{SetsAreDue}
use Rattle.conley_tool.specs.Analyze.{AnalysisIsDue}
use Rattle.conley_tool.specs.Check.{CheckIsDue}
use Rattle.conley_tool.specs.Trial.{OnMade, SummaryIsDue}
use Rattle.conley_tool.specs.declared.words.Verb.{Verb}
use Rattle.conley_tool.specs.declared.words.Verb.TheVariants.{Classes, Field, Morse, Sets, Analyze, Check, Trial}
use Rattle.conley_tool.specs.declared.outcome.Outcome.TheVariants.{Usage}

-- with the files and the arguments, for commands that need more than the problem
abbrev pub IsDueOn : Verb → Files → List (List ℕ) → Problem → Due → Type 0
IsDueOn Classes files arguments problem what = ClassesAreDue problem what
IsDueOn Field files arguments problem what = FieldIsDue problem what
IsDueOn Morse files arguments problem what = MorseIsDue problem what
IsDueOn Sets files arguments problem what = SetsAreDue problem what
IsDueOn Analyze files arguments problem what = AnalysisIsDue problem what
IsDueOn Check files arguments problem what = CheckIsDue files (slice_index_or arguments 1 []) problem what
IsDueOn Trial files arguments problem what = SummaryIsDue problem what

abbrev pub OnArgument : Bool → Files → List ℕ → (Problem → Due → Type 0) → Due → Type 0
OnArgument true files word Next what = OnProblem files word Next what
OnArgument false files word Next what = OnMade word Next what

abbrev pub IsDueOf : Files → Command → Due → Type 0
IsDueOf files command what =
    OnArgument (reads_file command.verb) files (slice_index_or command.arguments 0 []) (IsDueOn command.verb files command.arguments) what

abbrev pub IsDue : Files → Option Command → Due → Type 0
IsDue files None what = what ≡ ends Usage
IsDue files (Some command) what = IsDueOf files command what

-- the words ask for an analysis, or for its summary
abbrev pub Analyzes : Option Command → Type 0
Analyzes None = ⊥
Analyzes (Some command) = (command.verb ≡ Analyze) ⊎ (command.verb ≡ Trial)

abbrev pub IsDueFor : Files → List (String Global) → Due → Type 0
IsDueFor files words what = IsDue files (command_of (map string_bytes words)) what
