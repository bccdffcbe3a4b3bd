-- What a sink tells of the bytes that were put into it.
--     Written                   nothing, or all of them
--     gains written bytes       what is told after these bytes came in addition
--     count_written result      how many bytes of its piece a put wrote
--     GainsPrefix old text new  a text came in addition up to some place before its end
-- The wording is this project's own.
use Rattle.std.specs.Prelude.{◌≡◌, ℕ, ◌<◌, List, ◌++◌, length, take, Option, Result, Ok, Err, option_map}

-- `None` tells nothing
abbrev pub Written : Type 0
Written = Option (List ℕ)

-- a sink that tells nothing goes on telling nothing
abbrev pub gains : Written → List ℕ → Written
gains written bytes = option_map (λ before. before ++ bytes) written

-- a put that failed wrote none
abbrev pub count_written : {E : Type 0} → Result ℕ E → ℕ
count_written (Ok n) = n
count_written (Err e) = 0

-- the first k bytes came, and k is less than the length of the text
abbrev pub GainsPrefix : Written → List ℕ → Written → Type 0
GainsPrefix old text new = (k : ℕ) × (k < length text) × (new ≡ gains old (take k text))
