-- The first place where two chains differ.
--     IsFirstDifference a b place have want    they have these codes at the place, which differ, and the same codes before it
use Rattle.std.specs.Prelude.{◌≡◌, ◌≢◌, ◌<◌, ℕ, List}
use Rattle.conley_chains.specs.Chain.{coefficient}

pub record IsFirstDifference (a b : List (ℕ × ℕ)) (place have want : ℕ) : Type 0 where
  pub left : coefficient a place ≡ have
  pub right : coefficient b place ≡ want
  pub differ : have ≢ want
  pub before : (j : ℕ) → j < place → coefficient a j ≡ coefficient b j
