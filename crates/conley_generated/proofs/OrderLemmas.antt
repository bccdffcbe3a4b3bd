-- Cells with their dimensions, sorted.
use Rattle.std.proofs.Common.{◌≡◌, ◌≢◌, inl, inr, ◌+◌, ◌<◌, ℕ, List, [], ◌∷◌, ◌++◌, Bool, false, Vec, Global, Ordering, length, map, take, get_or, refl, sym, ◌∙◌, ap, subst, arith, cond}
use Rattle.std.specs.Prelude.{All, Contains, bytes_eq, ◌↔◌, ◌==◌}
use Rattle.std.specs.List.{IsDistinct}
use Rattle.std.specs.List.Sorted.{IsSorted, IsPermutation}
use Rattle.std.specs.Ordering.{is_lt, nat_cmp, ordering_then}
use Rattle.std.specs.declared.cmp.Ordering.TheVariants.{Less, Equal, Greater}
use Rattle.std.specs.Cmp.Lexicographic.{slice_cmp}
use Rattle.std.proofs.lemmas.Bool.{cases_order, false≢true, true≢false, lt-ltb, le-ltb, eq-eqb}
use Rattle.std.proofs.lemmas.Cmp.{nat_list_cmp_total}
use Rattle.std.proofs.lemmas.List.{get_or-map, length-map, map-append, append_assoc, append-nil, take_more, length-append, get_or_append_left, get_or_at}
use Rattle.std.proofs.lemmas.List.Elements.{All-head, All-tail, All-contains, All-push, Contains-append_right}
use Rattle.conley_lists.specs.Lists.{items_of, AreApart}
use Rattle.std.proofs.lemmas.List.Sorted.{ranks_by, sorted_far, IsPermutation-map, IsPermutation-sym, Contains-permutation, All-permutation}
use Rattle.std.proofs.lemmas.Map.Keys.{IsDistinct-IsPermutation, IsDistinct-from_apart, apart_from_distinct}
use Rattle.conley_first.specs.First.{Precedes}
use Rattle.conley_generated.specs.Rule.{Rule}
use Rattle.conley_generated.specs.Generated.{AreInOrder}
use Rattle.conley_generated.specs.Making.{cell_lists, dims_of}
use Rattle.conley_lists.proofs.ContainsLemmas.{Contains-first}
use Rattle.conley_generated.proofs.CellLemmas.{test_true, test_false, cell_cases}

-- a list that isn't after another, and isn't it, stands before it
pub precedes_from : (a b : List ℕ) → is_lt (slice_cmp nat_cmp b a) ≡ false → a ≢ b → Precedes a b
precedes_from [] [] up ne = absurd (ne refl)
precedes_from [] (y ∷ b) up ne = tt
precedes_from (x ∷ a) [] up ne = absurd (true≢false up)
precedes_from (x ∷ a) (y ∷ b) up ne = elim (cases_order x y) [
  | inl e ↦
      let tie : nat_cmp y x ≡ Equal = ap (λ t. cond t Less (cond (y == x) Equal Greater)) (le-ltb y x (omega (arith, e)))
      ∙ ap (λ t. cond t Equal Greater) (eq-eqb y x (sym e)) in
      let rest : is_lt (slice_cmp nat_cmp b a) ≡ false = sym (ap (λ o. is_lt (ordering_then o (slice_cmp nat_cmp b a))) tie) ∙ up in
      inr (e, precedes_from a b rest (λ same. ne (cc)))
  | inr other ↦ elim other [
    | inl less ↦ inl less
    | inr more ↦
        let before : nat_cmp y x ≡ Less = ap (λ t. cond t Less (cond (y == x) Equal Greater)) (lt-ltb y x more) in
        absurd (true≢false (sym (ap (λ o. is_lt (ordering_then o (slice_cmp nat_cmp b a))) before) ∙ up))
  ]
]

abbrev pub order_of : ℕ × Vec ℕ Global → ℕ × Vec ℕ Global → Ordering
order_of a b = ordering_then (nat_cmp a.0 b.0) (slice_cmp nat_cmp a.1.items b.1.items)

abbrev key_of : ℕ × Vec ℕ Global → List ℕ
key_of cell = cell.0 ∷ cell.1.items

abbrev pub HasDim : Rule → ℕ × Vec ℕ Global → Type 0
HasDim rule cell = cell.0 ≡ rule.dim cell.1.items

pub dims_are : (rule : Rule) (cells : List (ℕ × Vec ℕ Global)) → All (HasDim rule) cells → dims_of cells ≡ map rule.dim (cell_lists cells)
dims_are rule [] have = refl
dims_are rule (cell ∷ cells) have = ap (λ d. d ∷ dims_of cells) (All-head (HasDim rule) cell cells have)
    ∙ ap (λ ds. rule.dim cell.1.items ∷ ds) (dims_are rule cells (All-tail (HasDim rule) cell cells have))

-- ---- a sort

abbrev same_cells : ℕ × Vec ℕ Global → ℕ × Vec ℕ Global → Bool
same_cells a b = bytes_eq a.1.items b.1.items

flips : (a b : ℕ × Vec ℕ Global) → same_cells a b ≡ same_cells b a
flips a b = elim (cell_cases a.1.items b.1.items) [
  | inl e ↦ test_true a.1.items b.1.items e ∙ sym (test_true b.1.items a.1.items (sym e))
  | inr ne ↦ test_false a.1.items b.1.items ne ∙ sym (test_false b.1.items a.1.items (λ e. ne (sym e)))
]

at_cell : (cells : List (ℕ × Vec ℕ Global)) (k : ℕ) (d : ℕ × Vec ℕ Global) (e : List ℕ) → k < length cells
    → get_or (cell_lists cells) k e ≡ (get_or cells k d).1.items
at_cell cells k d e lt = get_or-map (λ (cell : ℕ × Vec ℕ Global). cell.1.items) cells k d e lt

pub sorted_apart : (old new : List (ℕ × Vec ℕ Global)) → IsPermutation old new → AreApart (cell_lists old) → AreApart (cell_lists new)
sorted_apart old new moved apart = by new (IsDistinct-IsPermutation same_cells flips old new moved
    (IsDistinct-from_apart same_cells old (λ i j d less lt. test_false (get_or old i d).1.items (get_or old j d).1.items
    (λ e. apart i j [] less (omega (arith, lt, length-map old (λ (cell : ℕ × Vec ℕ Global). cell.1.items)))
    (at_cell old i d [] (omega (arith, less, lt)) ∙ e ∙ sym (at_cell old j d [] lt))))))
  where
    by : (cells : List (ℕ × Vec ℕ Global)) → IsDistinct same_cells cells → AreApart (cell_lists cells)
    by [] distinct i j d less lt e = absurd (omega (arith, lt))
    by (cell ∷ cells) distinct i j d less lt e =
        let lt' : j < length (cell ∷ cells) = omega (arith, lt, length-map (cell ∷ cells) (λ (cell : ℕ × Vec ℕ Global). cell.1.items)) in
        false≢true (sym (apart_from_distinct same_cells (cell ∷ cells) i j cell distinct less lt')
        ∙ test_true (get_or (cell ∷ cells) i cell).1.items (get_or (cell ∷ cells) j cell).1.items
        (sym (at_cell (cell ∷ cells) i cell d (omega (arith, less, lt'))) ∙ e ∙ at_cell (cell ∷ cells) j cell d lt'))

pub sorted_same : (old new : List (ℕ × Vec ℕ Global)) → IsPermutation old new → (s : List ℕ) → Contains (cell_lists new) s ↔ Contains (cell_lists old) s
sorted_same old new moved s =
    let items : IsPermutation (cell_lists old) (cell_lists new) = IsPermutation-map (λ (cell : ℕ × Vec ℕ Global). cell.1.items) old new moved in (
      (λ c. Contains-permutation (cell_lists new) (cell_lists old) s (IsPermutation-sym (cell_lists old) (cell_lists new) items) c),
      (λ c. Contains-permutation (cell_lists old) (cell_lists new) s items c),
    )

pub sorted_dims : (rule : Rule) (old new : List (ℕ × Vec ℕ Global)) → IsPermutation old new → All (HasDim rule) old → All (HasDim rule) new
sorted_dims rule old new moved have = All-permutation (HasDim rule) old new moved have

pub sorted_ordered : (rule : Rule) (cells : List (ℕ × Vec ℕ Global)) → IsSorted order_of cells → All (HasDim rule) cells → AreApart (cell_lists cells)
    → AreInOrder rule (cell_lists cells)
sorted_ordered rule [] sorted have apart i j d less lt = absurd (omega (arith, lt))
sorted_ordered rule (cell ∷ cells) sorted have apart i j d less lt =
    let lt' : j < length (cell ∷ cells) = omega (arith, lt, length-map (cell ∷ cells) (λ (cell : ℕ × Vec ℕ Global). cell.1.items)) in
    let lt'' : i < length (cell ∷ cells) = omega (arith, less, lt') in
    let a : ℕ × Vec ℕ Global = get_or (cell ∷ cells) i cell in
    let b : ℕ × Vec ℕ Global = get_or (cell ∷ cells) j cell in
    let s : get_or (cell_lists (cell ∷ cells)) i d ≡ a.1.items = at_cell (cell ∷ cells) i cell d lt'' in
    let t : get_or (cell_lists (cell ∷ cells)) j d ≡ b.1.items = at_cell (cell ∷ cells) j cell d lt' in
    let up : is_lt (slice_cmp nat_cmp (key_of b) (key_of a)) ≡ false = sorted_far (λ x y. is_lt (order_of x y)) (ranks_by nat_list_cmp_total key_of)
    (cell ∷ cells) sorted i j cell (omega (arith, less)) lt' in
    let ne : key_of a ≢ key_of b = λ e. apart i j d less lt (s ∙ (let tails : a.1.items ≡ b.1.items = cc in tails) ∙ sym t) in
    let stands : Precedes (key_of a) (key_of b) = precedes_from (key_of a) (key_of b) up ne in
    let p : a.0 ≡ rule.dim (get_or (cell_lists (cell ∷ cells)) i d) = have i cell lt'' ∙ ap rule.dim (sym s) in
    let q : b.0 ≡ rule.dim (get_or (cell_lists (cell ∷ cells)) j d) = have j cell lt' ∙ ap rule.dim (sym t) in
    subst (λ (m : ℕ). Precedes (m ∷ get_or (cell_lists (cell ∷ cells)) i d) (rule.dim (get_or (cell_lists (cell ∷ cells)) j d) ∷ get_or
    (cell_lists (cell ∷ cells)) j d)) p
    (subst (λ (u : List ℕ). Precedes (a.0 ∷ u) (rule.dim (get_or (cell_lists (cell ∷ cells)) j d) ∷ get_or (cell_lists (cell ∷ cells)) j d)) (sym s)
    (subst (λ (m : ℕ). Precedes (key_of a) (m ∷ get_or (cell_lists (cell ∷ cells)) j d)) q
    (subst (λ (u : List ℕ). Precedes (key_of a) (b.0 ∷ u)) (sym t) stands)))

-- ---- one cell after another

pub taken : (P : List ℕ → Type 0) (done : List (List ℕ)) (cell : Vec ℕ Global) (rest : List (Vec ℕ Global)) (all : List (List ℕ))
    → done ++ items_of (cell ∷ rest) ≡ all → All P all → P cell.items
taken P done cell rest all whole have = All-contains P all cell.items have (subst (λ (l : List (List ℕ)). Contains l cell.items) whole
    (Contains-append_right done (items_of (cell ∷ rest)) cell.items (Contains-first cell.items (items_of rest))))

pub taken_more : (done : List (ℕ × Vec ℕ Global)) (dim : ℕ) (cell : Vec ℕ Global) (rest : List (Vec ℕ Global)) (all : List (List ℕ))
    → cell_lists done ++ items_of (cell ∷ rest) ≡ all → cell_lists (done ++ (dim, cell) ∷ []) ++ items_of rest ≡ all
taken_more done dim cell rest all whole =
    ap (λ l. l ++ items_of rest) (map-append (λ (cell : ℕ × Vec ℕ Global). cell.1.items) done ((dim, cell) ∷ []))
    ∙ append_assoc (cell_lists done) (cell.items ∷ []) (items_of rest) ∙ whole

pub has_dim_more : (rule : Rule) (done : List (ℕ × Vec ℕ Global)) (dim : ℕ) (cell : Vec ℕ Global) → All (HasDim rule) done → dim ≡ rule.dim cell.items
    → All (HasDim rule) (done ++ (dim, cell) ∷ [])
has_dim_more rule done dim cell have e = All-push (HasDim rule) done (dim, cell) have e

-- the end: all were taken
pub taken_all : (done : List (ℕ × Vec ℕ Global)) (rest : List (Vec ℕ Global)) (all : List (List ℕ)) → rest ≡ [] → cell_lists done ++ items_of rest ≡ all
    → cell_lists done ≡ all
taken_all done rest all none whole = sym (append-nil (cell_lists done)) ∙ ap (λ r. cell_lists done ++ items_of r) (sym none) ∙ whole

pub labels_more : (label : List ℕ → List ℕ) (cells : List (ℕ × Vec ℕ Global)) (i : ℕ) (cell : ℕ × Vec ℕ Global) → i < length cells → cell ≡ get_or cells i cell
    → map label (cell_lists (take (i + 1) cells)) ≡ map label (cell_lists (take i cells)) ++ label cell.1.items ∷ []
labels_more label cells i cell lt is =
    let items : ℕ × Vec ℕ Global → List ℕ = λ cell. cell.1.items in
    ap (λ l. map label (cell_lists l)) (take_more cells i cell lt)
    ∙ ap (map label) (map-append items (take i cells) (get_or cells i cell ∷ []))
    ∙ map-append label (cell_lists (take i cells)) (items (get_or cells i cell) ∷ [])
    ∙ ap (λ c. map label (cell_lists (take i cells)) ++ label (items c) ∷ []) (sym is)

-- a cell that stands later isn't among those before it
pub new_cell : (done : List (ℕ × Vec ℕ Global)) (cell : ℕ × Vec ℕ Global) (rest all : List (ℕ × Vec ℕ Global)) → done ++ cell ∷ rest ≡ all
    → AreApart (cell_lists all) → ¬ Contains (cell_lists done) cell.1.items
new_cell done cell rest all whole apart there =
    let items : ℕ × Vec ℕ Global → List ℕ = λ cell. cell.1.items in
    let texts : cell_lists all ≡ cell_lists done ++ items cell ∷ cell_lists rest = sym (ap cell_lists whole) ∙ map-append items done (cell ∷ rest) in
    let long = length-append (cell_lists done) (items cell ∷ cell_lists rest) in
    apart there.0 (length (cell_lists done)) cell.1.items there.1 (omega (arith, ap length texts, long))
    (ap (λ l. get_or l there.0 cell.1.items) texts ∙ get_or_append_left (cell_lists done) (items cell ∷ cell_lists rest) cell.1.items there.0 there.1 ∙ there.2
    ∙ sym (ap (λ l. get_or l (length (cell_lists done)) cell.1.items) texts ∙ get_or_at (cell_lists done) (items cell) (cell_lists rest) cell.1.items
    (length (cell_lists done)) refl))
