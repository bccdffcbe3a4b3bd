-- What a contract sees of a matrix: its number of rows, and its columns as chains.
--     Table                      rows and columns
--     entry m row column         the code in a row and a column, else 0
--     column_count m             the number of columns
--     VanishesFrom n m           every code in a row or column from n on is zero
--     AllCodes F m               every code is below the order of the field
--     KeepsRows rows columns     nothing is kept beyond the rows
--     AreColumns rows columns    that, and each column is a chain
--     IsTable F m n t            m rows and n columns of codes
use Rattle.std.specs.Prelude.{◌≡◌, ◌⊎◌, ℕ, ◌≤◌, List, [], length, slice_index_or, All}
use Rattle.conley_field.specs.Arithmetic.{Arithmetic}
use Rattle.conley_chains.specs.Chain.{coefficient, IsChain, HasCodes}

pub record Table : Type 0 where
  pub rows : ℕ
  pub columns : List (List (ℕ × ℕ))

-- the code in a row and a column, where one is kept, else 0
abbrev pub entry : Table → ℕ → ℕ → ℕ
entry m row column = coefficient (slice_index_or m.columns column []) row

-- the number of columns
abbrev pub column_count : Table → ℕ
column_count m = length m.columns

-- every code in a row or column from n on is zero
abbrev pub VanishesFrom : ℕ → Table → Type 0
VanishesFrom n m = (x y : ℕ) → (n ≤ x) ⊎ (n ≤ y) → entry m y x ≡ 0

-- every code is below the order of the field
abbrev pub AllCodes : Arithmetic → Table → Type 0
AllCodes F m = All (HasCodes F) m.columns

-- nothing is kept beyond the rows
abbrev pub KeepsRows : ℕ → List (List (ℕ × ℕ)) → Type 0
KeepsRows rows columns = All (λ c. (row : ℕ) → rows ≤ row → coefficient c row ≡ 0) columns

-- what a matrix keeps: each column is a chain, and its places are below the rows
pub record AreColumns (rows : ℕ) (columns : List (List (ℕ × ℕ))) : Type 0 where
  pub chains : All IsChain columns
  pub keeps_rows : KeepsRows rows columns

-- m rows and n columns of codes, and nothing beyond the rows
pub record IsTable (F : Arithmetic) (m n : ℕ) (t : Table) : Type 0 where
  pub rows : t.rows ≡ m
  pub columns : column_count t ≡ n
  pub codes : AllCodes F t
  pub keeps_rows : KeepsRows t.rows t.columns
