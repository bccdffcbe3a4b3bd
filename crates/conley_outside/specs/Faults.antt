-- Faults of the outside. Each object counts its own, in 64 bits, and its count never falls.
--     Rose before now              the count rose in a call, or stood at its last value as the call began
--     HasCause before now result   the count fell not, and a call whose only error is a fault failed only where it rose
--     one_more faults              the count after one more fault
-- The wording is this project's own.
use Rattle.std.specs.Prelude.{ℕ, ◌+◌, ◌-◌, ◌^◌, ◌≤◌, min, Result, OnErr, nat_lt, if◌then◌else◌}

-- a count that stood at the greatest number of 64 bits can't rise further, and counts as risen
abbrev pub Rose : ℕ → ℕ → Type 0
Rose before now = min (before + 1) (2 ^ 64 - 1) ≤ now

-- the cause of the one error of a call
pub record HasCause {T E : Type 0} (before now : ℕ) (result : Result T E) : Type 0 where
  -- the count didn't fall
  pub later : before ≤ now
  -- the error comes only where the count rose
  pub failed : OnErr result (Rose before now)

-- the greatest number of 64 bits is the last
abbrev pub one_more : ℕ → ℕ
one_more faults = if nat_lt (faults + 1) (2 ^ 64) then faults + 1 else faults
