-- What the steps that find the covers of reach between sets say; no public clause cites it.
--     lower_test rows sets q p         whether p and q differ and the first cell of set p reaches that of set q
--     HaveFirstCells rows sets         each set has a first cell, with a class
--     AreFirstCells rows sets n firsts   the first cells of the first n sets, which have classes
--     AreCoversSoFar test m n order    the covers from the first n of m, ascending
--     IsBeforeRow order p              the first numbers of the pairs are below p
--     AddsCovers old new lower between p n   the pairs of p and each of the first n sets that is lower and not between
use Rattle.std.specs.Prelude.{◌≡◌, ◌≢◌, ◌⊎◌, ◌↔◌, ◌<◌, ◌==◌, ◌&&◌, not, ℕ, Bool, List, Contains, length, slice_index, slice_index_or}
use Rattle.conley_order.specs.ClassRows.{ClassRows, is_at_or_below, word_bit}
use Rattle.conley_order.specs.LowerRows.{IsCoverBy}
use Rattle.conley_transitions.specs.Morse.{set_at}
use Rattle.conley_lists.specs.Pairs.{IsPairBefore, AreAscending}
use Rattle.conley_lists.specs.Lists.{AllBelow}

abbrev pub lower_test : ClassRows → List (List ℕ) → ℕ → ℕ → Bool
lower_test rows sets q p = not (p == q) && is_at_or_below rows (slice_index (set_at sets q) 0) (slice_index (set_at sets p) 0)

abbrev pub HaveFirstCells : ClassRows → List (List ℕ) → Type 0
HaveFirstCells rows sets = (i : ℕ) → i < length sets → (0 < length (set_at sets i)) × (slice_index (set_at sets i) 0 < length rows.class_of)

abbrev pub IsBeforeRow : List (ℕ × ℕ) → ℕ → Type 0
IsBeforeRow order p = (i : ℕ) → i < length order → (slice_index_or order i (0, 0)).0 < p

pub record AreFirstCells (rows : ClassRows) (sets : List (List ℕ)) (n : ℕ) (firsts : List ℕ) : Type 0 where
  pub count : length firsts ≡ n
  pub first : (i : ℕ) → i < n → slice_index firsts i ≡ slice_index (set_at sets i) 0
  pub cells : AllBelow (length rows.class_of) firsts

-- the covers from the first n of m
pub record AreCoversSoFar (test : ℕ → ℕ → Bool) (m n : ℕ) (order : List (ℕ × ℕ)) : Type 0 where
  pub covers : (p q : ℕ) → Contains order (p, q) ↔ ((p < n) × IsCoverBy test m p q)
  pub ascending : AreAscending order
  pub before : IsBeforeRow order n

pub record AddsCovers (old new : List (ℕ × ℕ)) (lower between : List ℕ) (p n : ℕ) : Type 0 where
  pub pairs : (x y : ℕ) → Contains new (x, y) ↔ (Contains old (x, y) ⊎ ((x ≡ p) × (y < n) × (word_bit lower y ≡ 1) × (word_bit between y ≢ 1)))
  pub ascending : AreAscending new
  pub before : (i : ℕ) → i < length new → IsPairBefore (slice_index_or new i (0, 0)) (p, n)
