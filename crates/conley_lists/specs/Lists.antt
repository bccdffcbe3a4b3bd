-- Lists of numbers, lists of lists as a relation, and lists put in order.
--     items_of rows              what a slice of vectors contains
--     AllAscend lists            each list ascends
--     AllBelow n list            each number of the list is below n
--     AreApart list              no value stands twice
--     LieIn set list             each number of the list stands in the set
--     is_listed list x           whether x stands in the list
--     KeepsOthers list old new   what stands at a place that isn't listed stays
--     ListedStep lists x y       y stands in list x: a step leads from x to y
--     IsDigraph lists            each step ends at a node; the nodes are the numbers below the number of lists
--     entries_of lists           the lists one after another
--     IsFirstOutOfRange lists k  entry k, counted over all lists, is the first that is no node
--     IsOrderedCopy copy lists   each list of the copy ascends and has the numbers of the list given
--     PutsUnder old new x y      list x has y at its end besides
--     IsMarked row y             the row has a mark at y
--     AreAllMarked list row      the row has a mark at each number of the list
use Rattle.std.specs.Prelude.{◌≡◌, ◌≢◌, ◌⊎◌, ◌↔◌, ◌+◌, ◌<◌, ◌≤◌, ℕ, ◌==◌, Bool, false, true, List, [], ◌∷◌, ◌++◌, All, Contains, Vec, length, map, slice_index, slice_index_or, take}
use Rattle.std.specs.List.{AllPairs, flat_map, list_any}
use Rattle.std.specs.List.Sorted.{IsStrictlyIncreasing}
use Rattle.std.specs.declared.alloc.Global.{Global}

abbrev pub items_of : {T : Type 0} → List (Vec T Global) → List (List T)
items_of rows = map (λ row. row.items) rows

abbrev pub AllAscend : List (List ℕ) → Type 0
AllAscend lists = (x : ℕ) → IsStrictlyIncreasing (slice_index_or lists x [])

abbrev pub AllBelow : ℕ → List ℕ → Type 0
AllBelow n list = All (λ x. x < n) list

abbrev pub AreApart : {T : Type 0} → List T → Type 0
AreApart list = AllPairs (λ x y. x ≢ y) list

abbrev pub LieIn : List ℕ → List ℕ → Type 0
LieIn set list = (x : ℕ) → Contains list x → Contains set x

abbrev pub is_listed : List ℕ → ℕ → Bool
is_listed list x = list_any (λ y. y == x) list

abbrev pub KeepsOthers : List ℕ → List ℕ → List ℕ → Type 0
KeepsOthers list old new = (x : ℕ) → ¬ Contains list x → slice_index new x ≡ slice_index old x

-- past the last list no step begins
abbrev pub ListedStep : List (List ℕ) → ℕ → ℕ → Type 0
ListedStep lists x y = Contains (slice_index_or lists x []) y

abbrev pub IsDigraph : List (List ℕ) → Type 0
IsDigraph lists = (x y : ℕ) → ListedStep lists x y → y < length lists

abbrev pub entries_of : List (List ℕ) → List ℕ
entries_of lists = flat_map (λ list. list) lists

pub record IsFirstOutOfRange (lists : List (List ℕ)) (k : ℕ) : Type 0 where
  pub is_entry : k < length (entries_of lists)
  pub out_of_range : length lists ≤ slice_index (entries_of lists) k
  pub before : AllBelow (length lists) (take k (entries_of lists))

pub record IsOrderedCopy (copy lists : List (List ℕ)) : Type 0 where
  pub count : length copy ≡ length lists
  pub ascending : AllAscend copy
  pub same : (x y : ℕ) → ListedStep copy x y ↔ ListedStep lists x y
  -- no entry is new, and some may have stood twice
  pub entries : length (entries_of copy) ≤ length (entries_of lists)

pub record PutsUnder (old new : List (List ℕ)) (x y : ℕ) : Type 0 where
  pub count : length new ≡ length old
  pub put : slice_index_or new x [] ≡ slice_index_or old x [] ++ y ∷ []
  pub kept : (k : ℕ) → k ≢ x → slice_index_or new k [] ≡ slice_index_or old k []
  pub entries : length (entries_of new) ≡ length (entries_of old) + 1
  pub steps : (a b : ℕ) → ListedStep new a b ↔ (ListedStep old a b ⊎ ((a ≡ x) × (b ≡ y)))

abbrev pub IsMarked : List Bool → ℕ → Type 0
IsMarked row y = slice_index_or row y false ≡ true

abbrev pub AreAllMarked : List ℕ → List Bool → Type 0
AreAllMarked list row = (x : ℕ) → Contains list x → IsMarked row x
