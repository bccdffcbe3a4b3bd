-- Steps and essential closed walks within a set.
--     StepIn flow set x y           a step between two cells of the set
--     IsEssentialIn flow set x      an essential closed walk in the set begins at x
use Rattle.std.specs.Prelude.{ℕ, List, ◌∷◌, Contains}
use Rattle.conley_lists.specs.Lists.{LieIn}
use Rattle.conley_transitions.specs.Flow.{Flow, StepOf}
use Rattle.conley_transitions.specs.Lasso.{IsEssential}

pub record StepIn (flow : Flow) (set : List ℕ) (x y : ℕ) : Type 0 where
  pub from : Contains set x
  pub to : Contains set y
  pub step : StepOf flow x y

abbrev pub IsEssentialIn : Flow → List ℕ → ℕ → Type 0
IsEssentialIn flow set x = (w : List ℕ) × IsEssential (StepOf flow) flow x w × LieIn set (x ∷ w)
