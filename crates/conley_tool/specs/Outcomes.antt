-- The outcome of a run against what is due, by which `Is` says of each thing whether it is.
--     HasCause Is read write outcome   the cause of each outcome, where `read` and `write` say that the counts of the depot and of `out` rose
--     Gains Is old new outcome         what `out` gained
--     IsAnswer Is outcome              the outcome is one that is due
-- The wording is this project's own.
use Rattle.std.specs.Prelude.{◌≡◌, ◌⊎◌, ℕ, List}
use Rattle.conley_outside.specs.Sink.{Written, gains, GainsPrefix}
use Rattle.conley_tool.specs.Due.{Due, ends, prints, accepts}
use Rattle.conley_tool.specs.declared.outcome.Outcome.{Outcome}
use Rattle.conley_tool.specs.declared.outcome.Outcome.TheVariants.{Done, Accepted, ReadFault, WriteFault, NoMemory}

-- want of memory alone is free
abbrev pub HasCause : (Due → Type 0) → (read write : Type 0) → Outcome → Type 0
HasCause Is read write Done = (text : List ℕ) × Is (prints text)
HasCause Is read write Accepted = Is accepts
HasCause Is read write ReadFault = read ⊎ Is (ends ReadFault)
HasCause Is read write WriteFault = write
HasCause Is read write NoMemory = Unit {0}
HasCause Is read write outcome = Is (ends outcome)

-- a text that is due was put whole, or up to some place before its end; else nothing was put
abbrev pub Gains : (Due → Type 0) → Written → Written → Outcome → Type 0
Gains Is old new Done = (text : List ℕ) × Is (prints text) × (new ≡ gains old text)
Gains Is old new Accepted = Is accepts × (new ≡ gains old accepts.text)
Gains Is old new WriteFault = (what : Due) × Is what × GainsPrefix old what.text new
Gains Is old new outcome = new ≡ old

-- the outcome that is due, with a text or without
abbrev pub IsAnswer : (Due → Type 0) → Outcome → Type 0
IsAnswer Is outcome = (text : List ℕ) × Is (record { outcome = outcome; text = text })
