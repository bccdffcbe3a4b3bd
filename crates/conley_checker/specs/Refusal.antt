-- The first entry of a chain that a test refuses.
--     IsFirstRefused test es column row code    it has this code at the row, where the test fails, and the test passes before it
use Rattle.std.specs.Prelude.{◌≡◌, ◌≢◌, ◌<◌, ℕ, List, Bool, true, false}
use Rattle.conley_chains.specs.Chain.{coefficient}

pub record IsFirstRefused (test : ℕ → ℕ → Bool) (es : List (ℕ × ℕ)) (column row code : ℕ) : Type 0 where
  pub at : coefficient es row ≡ code
  pub some : code ≢ 0
  pub refused : test row column ≡ false
  pub before : (r : ℕ) → r < row → coefficient es r ≢ 0 → test r column ≡ true
