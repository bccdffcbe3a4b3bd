-- What steps of a run give of the problem that an argument names, in a file or by a number.
use Rattle.std.proofs.Common.{inl, inr, ℕ, List, Bool, true, false, sym, subst}
use Rattle.conley_outside.specs.Depot.{Files}
use Rattle.conley_input.specs.Problem.{Problem}
use Rattle.conley_tool.specs.Due.{Due}
use Rattle.conley_tool.specs.Headline.{OnArgument}
use Rattle.conley_tool.specs.Trial.{IsMade, OnMade}
use Rattle.conley_tool.specs.Ends.{EndCause, IsNamed, NamedCause}
use Rattle.conley_tool.specs.declared.outcome.Outcome.{Outcome}
use Rattle.conley_tool.specs.declared.outcome.Outcome.TheVariants.{Done, Accepted, Refused, Rejected, Usage, ReadFault, TooLong, WriteFault, NoMemory}
use Rattle.conley_tool.proofs.TopLemmas.{due_on, end_on, end_before}

module _ (files : Files) (word : List ℕ) (Next : Problem → Due → Type 0) where
  -- what is due of the problem
  pub due_named : (reads : Bool) (problem : Problem) (what : Due) → IsNamed reads files word problem → Next problem what → OnArgument reads files word Next what
  due_named true problem what stands next = due_on files word Next problem what stands next
  due_named false problem what made next = (problem, made, next)

  -- an outcome that ends the run once the problem is made
  end_made : (problem : Problem) (early late : Type 0) (outcome : Outcome) → (early → late) → IsMade word problem → EndCause (Next problem) early outcome
      → EndCause (OnMade word Next) late outcome
  end_made problem early late (Refused fault) rose made is = (problem, made, is)
  end_made problem early late (Rejected reason) rose made is = (problem, made, is)
  end_made problem early late TooLong rose made is = (problem, made, is)
  end_made problem early late ReadFault rose made (inl read) = inl (rose read)
  end_made problem early late ReadFault rose made (inr is) = inr (problem, made, is)
  end_made problem early late NoMemory rose made is = tt
  end_made problem early late Done rose made is = is
  end_made problem early late Accepted rose made is = is
  end_made problem early late Usage rose made is = is
  end_made problem early late WriteFault rose made is = is

  -- an outcome that ends the run once there is the problem
  pub end_named : (reads : Bool) (problem : Problem) (early late : Type 0) (outcome : Outcome) → (early → late) → IsNamed reads files word problem
      → EndCause (Next problem) early outcome → EndCause (OnArgument reads files word Next) late outcome
  end_named true problem early late outcome rose stands is = end_on files word Next problem early late outcome rose stands is
  end_named false problem early late outcome rose made is = end_made problem early late outcome rose made is

  -- an outcome that ends the run before
  pub end_unnamed : (reads : Bool) (early late : Type 0) (outcome : Outcome) → (early → late) → NamedCause reads files word early outcome
      → EndCause (OnArgument reads files word Next) late outcome
  end_unnamed true early late outcome rose is = end_before files word Next early late outcome rose is
  end_unnamed false early late outcome rose is = subst (EndCause (OnMade word Next) late) (sym is) tt
