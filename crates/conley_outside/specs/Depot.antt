-- What a depot tells of its files.
--     Files              nothing; or for each name the bytes of its file, if there is one
--     told files name    the bytes of the file of a name, where they are told
--     Lacks files name   the files are told, and none has this name
-- The wording is this project's own.
use Rattle.std.specs.Prelude.{◌≡◌, ℕ, List, Option, None, IsSomeAnd, option_and_then}

-- `None` tells nothing; a name is a list of bytes
abbrev pub Files : Type 0
Files = Option (List ℕ → Option (List ℕ))

-- nothing also where there is no such file
abbrev pub told : Files → List ℕ → Option (List ℕ)
told files name = option_and_then (λ file_of. file_of name) files

-- a depot that tells nothing lacks nothing
abbrev pub Lacks : Files → List ℕ → Type 0
Lacks files name = IsSomeAnd files (λ file_of. file_of name ≡ None)
