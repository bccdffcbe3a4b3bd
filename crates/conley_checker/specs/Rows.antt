-- Rows of the index and of the order, and what is counted and listed for them.
--     AddsOne old new i k          number k of list i has grown by one, and all others stay
--     AreCounts C levels n counts  how many of the first n generators name each set, for each dimension
--     IsFineRow P C i              the numbers of set i are right
--     set_lower P C q p            the sets differ, and p reaches q
--     AreListed C n lists          the first n pairs of the order, under their upper sets
--     IsFineOrder P C p            the pairs of set p are its covers
use Rattle.std.specs.Prelude.{◌≡◌, ◌≢◌, ◌⊎◌, ◌↔◌, ◌<◌, ◌+◌, ◌==◌, ◌&&◌, not, ℕ, Bool, false, List, [], Contains, take, length, slice_index, slice_index_or}
use Rattle.conley_lists.specs.Lists.{ListedStep}
use Rattle.conley_certificate_file.specs.Certificate.{Certificate}
use Rattle.conley_certificate.specs.Tests.{count_below}
use Rattle.conley_certificate.specs.Problem.{Problem}
use Rattle.conley_certificate.specs.Certificate.{index_at, set_count, set_of, dim_of}
use Rattle.conley_certificate.specs.Values.{generators_at, is_named, is_one_part, is_listed_pair, is_cover, set_reaches}

pub record AddsOne (old new : List (List ℕ)) (i k : ℕ) : Type 0 where
  pub count : length new ≡ length old
  pub widths : (j : ℕ) → length (slice_index_or new j []) ≡ length (slice_index_or old j [])
  pub here : slice_index (slice_index_or new i []) k ≡ slice_index (slice_index_or old i []) k + 1
  pub kept : (j l : ℕ) → (j ≢ i) ⊎ (l ≢ k) → slice_index (slice_index_or new j []) l ≡ slice_index (slice_index_or old j []) l

pub record AreCounts (C : Certificate) (levels n : ℕ) (counts : List (List ℕ)) : Type 0 where
  pub height : length counts ≡ set_count C
  pub widths : (i : ℕ) → i < set_count C → length (slice_index_or counts i []) ≡ levels
  pub numbers : (i k : ℕ) → i < set_count C → k < levels
      → slice_index (slice_index_or counts i []) k ≡ count_below n (λ g. (set_of C g == i) && (dim_of C g == k))

-- a row where the law holds
pub record IsFineRow (P : Problem) (C : Certificate) (i : ℕ) : Type 0 where
  pub numbers : (k : ℕ) → k < P.complex.levels → index_at C i k ≡ generators_at C i k
  pub part : (is_one_part P C i && not (is_named C i)) ≡ false

abbrev pub set_lower : Problem → Certificate → ℕ → ℕ → Bool
set_lower P C q p = not (p == q) && set_reaches P C p q

pub record AreListed (C : Certificate) (n : ℕ) (lists : List (List ℕ)) : Type 0 where
  pub count : length lists ≡ set_count C
  pub steps : (p q : ℕ) → ListedStep lists p q ↔ Contains (take n C.order) (p, q)

-- the pairs of set p are listed where they are covers
abbrev pub IsFineOrder : Problem → Certificate → ℕ → Type 0
IsFineOrder P C p = (q : ℕ) → q < set_count C → is_listed_pair C p q ≡ is_cover P C p q
