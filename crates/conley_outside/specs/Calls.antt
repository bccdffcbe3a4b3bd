-- Numbers of calls: an object in memory counts its calls from 0, and one call can be told to fail by its number.
--     next_call call       the number after that of a call
--     is_due call fail_at  the call with this number is the one that is told to fail
-- The wording is this project's own.
use Rattle.std.specs.Prelude.{ℕ, ◌+◌, ◌^◌, Bool, false, ◌==◌, Option, Some, None, nat_lt, if◌then◌else◌}

-- calls have numbers of 64 bits; after the last of them a call has none
abbrev pub next_call : Option ℕ → Option ℕ
next_call None = None
next_call (Some call) = if nat_lt (call + 1) (2 ^ 64) then Some (call + 1) else None

-- both are there and are one number
abbrev pub is_due : Option ℕ → Option ℕ → Bool
is_due None _ = false
is_due (Some call) None = false
is_due (Some call) (Some fail_at) = call == fail_at
