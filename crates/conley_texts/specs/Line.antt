-- Texts as lines of words.
--     line words       words joined by one space, and a line feed
--     text_of lines    one line after another
-- The wording is this project's own.
use Rattle.std.specs.Prelude.{ℕ, List, [], ◌∷◌, ◌++◌}
use Rattle.std.specs.List.{join_with_byte, flat_map}

abbrev pub line : List (List ℕ) → List ℕ
line words = join_with_byte 32 words ++ (10 ∷ [])

abbrev pub text_of : List (List (List ℕ)) → List ℕ
text_of lines = flat_map line lines
