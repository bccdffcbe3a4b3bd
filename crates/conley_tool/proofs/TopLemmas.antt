-- What steps of a run give, joined: a file, the problem that it stands for, what is due of the problem.
use Rattle.std.proofs.Common.{◌≡◌, inl, inr, ℕ, List, refl}
use Rattle.conley_outside.specs.Depot.{Files}
use Rattle.conley_outside.specs.Sink.{Written, gains}
use Rattle.conley_input.specs.Problem.{Problem}
use Rattle.conley_tool.specs.Due.{Due}
use Rattle.conley_tool.specs.Fetches.{Holds, AfterFetch, OnProblem}
use Rattle.conley_tool.specs.Outcomes.{HasCause, Gains}
use Rattle.conley_tool.specs.Ends.{FetchCause, ProblemCause, EndCause, StandsFor, due_of}
use Rattle.conley_tool.specs.declared.answer.Answer.{Answer}
use Rattle.conley_tool.specs.declared.answer.Answer.TheVariants.{Prints, Accepts}
use Rattle.conley_tool.specs.declared.outcome.Fault.TheVariants as fault
use Rattle.conley_tool.specs.declared.outcome.Outcome.{Outcome}
use Rattle.conley_tool.specs.declared.outcome.Outcome.TheVariants.{Done, Accepted, Refused, Rejected, Usage, ReadFault, TooLong, WriteFault, NoMemory}

-- ---- a fetch, over what comes after it

module _ (files : Files) (name : List ℕ) (limit : ℕ) (Next : List ℕ → Due → Type 0) where
  -- what is due of the bytes
  pub held_due : (bytes : List ℕ) (what : Due) → Holds files name limit bytes → Next bytes what → AfterFetch files name limit Next what
  held_due bytes what holds next = inl (bytes, holds, next)

  -- an outcome that ends the run once the file is fetched
  pub held_ends : (bytes : List ℕ) (early late : Type 0) (outcome : Outcome) → (early → late) → Holds files name limit bytes
      → EndCause (Next bytes) early outcome → EndCause (AfterFetch files name limit Next) late outcome
  held_ends bytes early late (Refused fault) rose holds is = held_due bytes _ holds is
  held_ends bytes early late (Rejected reason) rose holds is = held_due bytes _ holds is
  held_ends bytes early late TooLong rose holds is = held_due bytes _ holds is
  held_ends bytes early late ReadFault rose holds (inl read) = inl (rose read)
  held_ends bytes early late ReadFault rose holds (inr is) = inr (held_due bytes _ holds is)
  held_ends bytes early late NoMemory rose holds is = tt
  held_ends bytes early late Done rose holds is = is
  held_ends bytes early late Accepted rose holds is = is
  held_ends bytes early late Usage rose holds is = is
  held_ends bytes early late WriteFault rose holds is = is

  -- an outcome of the fetch itself
  pub fetch_ends : (early late : Type 0) (outcome : Outcome) → (early → late) → FetchCause files name limit early outcome
      → EndCause (AfterFetch files name limit Next) late outcome
  fetch_ends early late TooLong rose is = inr (inr (is, refl))
  fetch_ends early late ReadFault rose (inl read) = inl (rose read)
  fetch_ends early late ReadFault rose (inr lacks) = inr (inr (inl (lacks, refl)))
  fetch_ends early late NoMemory rose is = tt
  fetch_ends early late (Refused fault) rose is = absurd is
  fetch_ends early late (Rejected reason) rose is = absurd is
  fetch_ends early late Done rose is = is
  fetch_ends early late Accepted rose is = is
  fetch_ends early late Usage rose is = is
  fetch_ends early late WriteFault rose is = is

-- ---- the problem in a file

module _ (files : Files) (file : List ℕ) (Next : Problem → Due → Type 0) where
  -- what is due of the problem
  pub due_on : (problem : Problem) (what : Due) → StandsFor files file problem → Next problem what → OnProblem files file Next what
  due_on problem what (bytes, holds, reads) next = inl (bytes, holds, inr (problem, reads, next))

  -- an outcome that ends the run once the problem is read
  pub end_on : (problem : Problem) (early late : Type 0) (outcome : Outcome) → (early → late) → StandsFor files file problem
      → EndCause (Next problem) early outcome → EndCause (OnProblem files file Next) late outcome
  end_on problem early late (Refused fault) rose stands is = due_on problem _ stands is
  end_on problem early late (Rejected reason) rose stands is = due_on problem _ stands is
  end_on problem early late TooLong rose stands is = due_on problem _ stands is
  end_on problem early late ReadFault rose stands (inl read) = inl (rose read)
  end_on problem early late ReadFault rose stands (inr is) = inr (due_on problem _ stands is)
  end_on problem early late NoMemory rose stands is = tt
  end_on problem early late Done rose stands is = is
  end_on problem early late Accepted rose stands is = is
  end_on problem early late Usage rose stands is = is
  end_on problem early late WriteFault rose stands is = is

  -- an outcome that ends the run before
  pub end_before : (early late : Type 0) (outcome : Outcome) → (early → late) → ProblemCause files file early outcome
      → EndCause (OnProblem files file Next) late outcome
  end_before early late (Refused (fault.File fault)) rose (bytes, holds, refuses) = inl (bytes, holds, inl (fault, refuses, refl))
  end_before early late (Refused (fault.Morse count)) rose is = absurd is
  end_before early late (Refused (fault.Cert fault)) rose is = absurd is
  end_before early late (Rejected reason) rose is = absurd is
  end_before early late TooLong rose is = inr (inr (is, refl))
  end_before early late ReadFault rose (inl read) = inl (rose read)
  end_before early late ReadFault rose (inr lacks) = inr (inr (inl (lacks, refl)))
  end_before early late NoMemory rose is = tt
  end_before early late Done rose is = is
  end_before early late Accepted rose is = is
  end_before early late Usage rose is = is
  end_before early late WriteFault rose is = is

-- ---- the text of an answer

pub answered : (Is : Due → Type 0) (read write : Type 0) (answer : Answer) → Is (due_of answer) → HasCause Is read write (due_of answer).outcome
answered Is read write (Prints text) is = (text.items, is)
answered Is read write Accepts is = is

pub answer_gained : (Is : Due → Type 0) (old new : Written) (answer : Answer) → Is (due_of answer) → new ≡ gains old (due_of answer).text
    → Gains Is old new (due_of answer).outcome
answer_gained Is old new (Prints text) is put = (text.items, is, put)
answer_gained Is old new Accepts is put = (is, put)
