-- A test of isolation: unions of parts without a gap.
--     IsUnionOfParts flow set           with a cell the set has all cells of its part
use Rattle.std.specs.Prelude.{ℕ, List, Contains}
use Rattle.conley_transitions.specs.Flow.{Flow, ShareAPart}

-- with a cell the set has all cells of its part
abbrev pub IsUnionOfParts : Flow → List ℕ → Type 0
IsUnionOfParts flow set = (x y : ℕ) → Contains set x → ShareAPart flow x y → Contains set y
