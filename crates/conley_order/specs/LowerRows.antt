-- Rows of bits of what is lower, and their unions.
--     lower_by is_below cells q p      p and q differ, and the q-th cell is at or below the p-th
--     AreLowerRows test m n lists      bit q of row p says whether q is lower than p, for the first n of m
--     AreWide lists                    each row has a bit for each row
--     JoinsRow old new row             the bits of old and those of the row
--     IsLowerStill lists p words       the bits of what is lower than something that is lower than p
--     IsCoverBy test m p q             q is lower than p by the test, and none of the first m is between
use Rattle.std.specs.Prelude.{◌≡◌, ◌≢◌, ◌⊎◌, ◌↔◌, ◌*◌, ◌<◌, ◌≤◌, ◌==◌, ◌&&◌, not, ℕ, Bool, true, List, [], length, slice_index, slice_index_or}
use Rattle.conley_order.specs.ClassRows.{word_bit}

abbrev pub lower_by : (ℕ → ℕ → Bool) → List ℕ → ℕ → ℕ → Bool
lower_by is_below cells q p = not (p == q) && is_below (slice_index cells q) (slice_index cells p)

pub record AreLowerRows (test : ℕ → ℕ → Bool) (m n : ℕ) (lists : List (List ℕ)) : Type 0 where
  pub height : length lists ≡ n
  pub width : (p : ℕ) → p < n → m ≤ 64 * length (slice_index_or lists p [])
  pub bits : (p q : ℕ) → p < n → q < m → (word_bit (slice_index_or lists p []) q ≡ 1) ↔ (test q p ≡ true)

abbrev pub AreWide : List (List ℕ) → Type 0
AreWide lists = (k : ℕ) → k < length lists → length lists ≤ 64 * length (slice_index_or lists k [])

pub record JoinsRow (old new row : List ℕ) : Type 0 where
  pub count : length new ≡ length old
  pub bits : (b : ℕ) → b < 64 * length old → (word_bit new b ≡ 1) ↔ ((word_bit old b ≡ 1) ⊎ (word_bit row b ≡ 1))

abbrev pub IsLowerStill : List (List ℕ) → ℕ → List ℕ → Type 0
IsLowerStill lists p words = (q : ℕ) → q < length lists → (word_bit words q ≡ 1) ↔ ((r : ℕ) × (r < length lists) × (word_bit (slice_index_or lists p []) r ≡ 1)
    × (word_bit (slice_index_or lists r []) q ≡ 1))

-- q is lower than p by the test, and nothing is between
pub record IsCoverBy (test : ℕ → ℕ → Bool) (m p q : ℕ) : Type 0 where
  pub upper : p < m
  pub lower : q < m
  pub is : test q p ≡ true
  pub none : (r : ℕ) → r < m → test r p ≡ true → test q r ≢ true
