-- A sink in memory, as its callers see it.
--     Page              its bytes, its room, the most bytes of a put, the number of the next put, that of the put told to fail, its faults
--     is_failing page   the next put fails, if its piece isn't empty
-- The wording is this project's own.
use Rattle.std.specs.Prelude.{ℕ, ◌||◌, List, length, Bool, ◌==◌, Option}
use Rattle.conley_outside.specs.Calls.{is_due}

pub record Page : Type 0 where
  pub bytes : List ℕ
  -- how many bytes it takes in all
  pub room : ℕ
  -- how many bytes a put takes at most
  pub most : ℕ
  -- the number of the next put, counted from 0
  pub next : Option ℕ
  -- the number of the put that is told to fail
  pub fail_at : Option ℕ
  pub faults : ℕ

-- it is told to fail, or no room is left
abbrev pub is_failing : Page → Bool
is_failing page = is_due page.next page.fail_at || (length page.bytes == page.room)
