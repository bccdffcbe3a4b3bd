-- Reach between classes of cells, as rows of words.
--     ClassRows                 the class of each cell, and a row of words for each class
--     word_bit words b          bit b of a row of words
--     row_bit rows c b          whether bit b of row c is set: class b is at or below class c
--     is_at_or_below r a b      whether the class of a is at or below that of b
--     AreClassRows r            classes have rows, rows are long enough, and their bits are a preorder of the classes
-- The wording is this project's own.
use Rattle.std.specs.Prelude.{◌<◌, ◌≤◌, ◌*◌, ◌/◌, ◌%◌, ◌==◌, ℕ, List, Bool, [], All, length, slice_index, slice_index_or}
use Rattle.std.specs.Int.{bit_at}
use Rattle.conley_order.specs.Preorder.{IsPreorder}

pub record ClassRows : Type 0 where
  pub class_of : List ℕ
  pub rows : List (List ℕ)

-- bit b mod 64, counted from the least significant one, of word b / 64
abbrev pub word_bit : List ℕ → ℕ → ℕ
word_bit words b = bit_at (slice_index words (b / 64)) (b % 64)

abbrev pub row_bit : List (List ℕ) → ℕ → ℕ → Bool
row_bit rows c b = word_bit (slice_index_or rows c []) b == 1

abbrev pub is_at_or_below : ClassRows → ℕ → ℕ → Bool
is_at_or_below r a b = row_bit r.rows (slice_index r.class_of b) (slice_index r.class_of a)

pub record AreClassRows (r : ClassRows) : Type 0 where
  pub classes : All (λ c. c < length r.rows) r.class_of
  pub width : All (λ row. length r.rows ≤ 64 * length row) r.rows
  pub order : IsPreorder (length r.rows) (λ b c. row_bit r.rows c b)
