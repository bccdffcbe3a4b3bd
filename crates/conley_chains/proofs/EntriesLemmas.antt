-- Chains of entries that were sorted by their places.
use Rattle.std.specs.Prelude.{AllPairs, map}
use Rattle.std.specs.List.Sorted.{IsPermutation}
use Rattle.std.proofs.Common.{◌≡◌, ◌≢◌, ℕ, ◌<◌, ◌≤◌, ◌==◌, nat_le, ◌||◌, Bool, true, false, List, [], length, get_or, ap, sym, subst, ◌∙◌, arith, refl, inl, inr, All, None}
use Rattle.std.proofs.lemmas.Bool.{cases_lt, eq-eqb, le-leb}
use Rattle.std.proofs.lemmas.List.{get_or-map, get_or_default, ext_get_or, length-map, append-nil}
use Rattle.std.proofs.Math.ListN.{get_or-eq_default}
use Rattle.std.proofs.lemmas.List.Elements.{All-map, All-nil}
use Rattle.std.proofs.lemmas.List.Sorted.{All-permutation, IsPermutation-map}
use Rattle.conley_chains.specs.declared.placing.Placed.{Placed}
use Rattle.conley_chains.specs.Chain.{coefficient, IsChain}
use Rattle.conley_chains.specs.Matrix.{KeepsRows}
use Rattle.conley_chains.specs.Faults.{first_of_three, pair_at, triple_at, code_at, own_fault_at, own_fault_within, IsFaultless}
use Rattle.conley_chains.specs.Placing.{placed_at, placed_as, IsOnePlace, IsInOrder, AreApart, ArePlaced, pair_of, triple_of}
use Rattle.conley_chains.proofs.FaultLemmas.{numbered-placed}
use Rattle.conley_chains.proofs.PlacingLemmas.{sorted_apart}
use Rattle.conley_chains.proofs.CodeLemmas.{code_at-none, code_at-permutation, code_at-run, code_at-pairs}

-- the entries of one column, in order and apart, are a chain
pub run-IsChain : (run : List Placed) (column : ℕ) → All (λ p. p.column ≡ column) run → AllPairs IsInOrder run
    → ((i j : ℕ) (d : Placed) → i < j → j < length run → ¬ IsOnePlace (get_or run i d) (get_or run j d)) → All (λ p. p.code ≢ 0) run → IsChain (map pair_of run)
run-IsChain run column own order apart some = record {
  ascending = λ i j d less below.
      let within : j < length run = omega (arith, length-map run pair_of) in
      let nowhere : Placed = record { column = 0; row = 0; number = 0; code = 0 } in
      let one_column : (get_or run i nowhere).column ≡ (get_or run j nowhere).column = own i nowhere (omega arith) ∙ sym (own j nowhere within) in
      let most = (order i j nowhere less within).rows one_column in
      let rising : (get_or run i nowhere).row < (get_or run j nowhere).row = elim (cases_lt (get_or run i nowhere).row (get_or run j nowhere).row) [
        | inl h ↦ h
        | inr h ↦ absurd (apart i j nowhere less within (one_column, omega arith))
      ] in
      rw (get_or-map pair_of run i nowhere d (omega arith)) (rw (get_or-map pair_of run j nowhere d within) rising);
  not_zero = All-map (λ (e : ℕ × ℕ). e.1 ≢ 0) pair_of run some;
}

-- no fault by itself: in range, and not zero
fine-code : (k c : ℕ) (outside : Bool) → first_of_three k outside (c == 0) false ≡ None → (outside ≡ false) × (c ≢ 0)
fine-code k c true none = cc
fine-code k c false none = (refl, λ zero. (let h = ap (λ b. first_of_three k false b false) (eq-eqb c 0 zero) in cc))

below-if : (m n : ℕ) → nat_le m n ≡ false → n < m
below-if m n above = elim (cases_lt n m) [ inl h ↦ h | inr h ↦ absurd (let y : true ≡ false = sym (le-leb m n h) ∙ above in cc) ]

or-neither : (a b : Bool) → (a || b) ≡ false → (a ≡ false) × (b ≡ false)
or-neither true b h = cc
or-neither false b h = (refl, h)

-- what placed entries are, one by one
each-placed : (P : Placed → Type 0) (n : ℕ) (e : ℕ → ℕ × ℕ × ℕ) (ps : List Placed) → ArePlaced n e ps → ((k : ℕ) → k < length ps → P (placed_as k (e k)))
    → All P ps
each-placed P n e ps placed each k d below = subst P (sym (get_or_default ps k d (record { column = 0; row = 0; number = 0; code = 0 }) below
    ∙ placed.each k below)) (each k below)

-- places that differ, as triples
triples-apart : (ps : List Placed) → AreApart ps (length ps) → AllPairs (λ a b. (a.0 ≡ b.0) → (a.1 ≡ b.1) → ⊥) (map triple_of ps)
triples-apart ps apart i j d less below rows columns =
    let nowhere : Placed = record { column = 0; row = 0; number = 0; code = 0 } in
    let within : j < length ps = omega (arith, length-map ps triple_of) in
    let former = get_or-map triple_of ps i nowhere d (omega arith) in
    let latter = get_or-map triple_of ps j nowhere d within in
    apart i j less within (
      sym (ap (λ (x : ℕ × ℕ × ℕ). x.1) former) ∙ columns ∙ ap (λ (x : ℕ × ℕ × ℕ). x.1) latter,
      sym (ap (λ (x : ℕ × ℕ × ℕ). x.0) former) ∙ rows ∙ ap (λ (x : ℕ × ℕ × ℕ). x.0) latter,
    )

-- sorting moves no code
pub code_at-sorted : (ps ss : List Placed) (row column : ℕ) → IsPermutation ps ss → AreApart ps (length ps)
    → code_at (map triple_of ss) row column ≡ code_at (map triple_of ps) row column
code_at-sorted ps ss row column moved apart = code_at-permutation row column (map triple_of ps) (map triple_of ss) (IsPermutation-map triple_of ps ss moved)
    (triples-apart ps apart)

-- all of a list was placed
pub triples-placed : (es : List (ℕ × ℕ × ℕ)) (ps : List Placed) → ArePlaced (length es) (triple_at es) ps → length ps ≡ length es → map triple_of ps ≡ es
triples-placed es ps placed all =
    ext_get_or (0, 0, 0) (map triple_of ps) es (length-map ps triple_of ∙ all) (λ i below.
    let within : i < length ps = omega (arith, length-map ps triple_of) in
    get_or-map triple_of ps i (record { column = 0; row = 0; number = 0; code = 0 }) (0, 0, 0) within ∙ ap triple_of (placed.each i within))

pairs-placed : (es : List (ℕ × ℕ)) (ps : List Placed) → ArePlaced (length es) (λ k. ((pair_at es k).0, 0, (pair_at es k).1)) ps → length ps ≡ length es
    → map triple_of ps ≡ map (λ (e : ℕ × ℕ). (e.0, 0, e.1)) es
pairs-placed es ps placed all =
    ext_get_or (0, 0, 0) (map triple_of ps) (map (λ (e : ℕ × ℕ). (e.0, 0, e.1)) es) (length-map ps triple_of ∙ all
    ∙ sym (length-map es (λ (e : ℕ × ℕ). (e.0, 0, e.1)))) (λ i below.
    let within : i < length ps = omega (arith, length-map ps triple_of) in
    get_or-map triple_of ps i (record { column = 0; row = 0; number = 0; code = 0 }) (0, 0, 0) within ∙ ap triple_of (placed.each i within)
    ∙ sym (get_or-map (λ (e : ℕ × ℕ). (e.0, 0, e.1)) es i (0, 0) (0, 0, 0) (omega arith)))

-- a chain's entries
module _ (order : ℕ) (es : List (ℕ × ℕ)) (ps ss : List Placed) (placed : ArePlaced (length es) (λ k. ((pair_at es k).0, 0, (pair_at es k).1)) ps)
    (fine : IsFaultless (own_fault_at order es) (length ps)) (moved : IsPermutation ps ss) (in_order : AllPairs IsInOrder ss)
    (apart : AreApart ps (length ps)) where
  own_column : All (λ p. p.column ≡ 0) ss
  own_column = All-permutation (λ (p : Placed). p.column ≡ 0) ps ss moved (each-placed (λ (p : Placed). p.column ≡ 0) _ _ ps placed (λ k below. refl))

  pub pairs-IsChain : IsChain (map pair_of ss)
  pairs-IsChain = run-IsChain ss 0 own_column in_order
      (λ i j d less below one. sorted_apart ps ss moved (numbered-placed _ _ ps placed) in_order apart i j less below (at_default i j d less below one))
      (All-permutation (λ (p : Placed). p.code ≢ 0) ps ss moved (each-placed (λ (p : Placed). p.code ≢ 0) _ _ ps placed
      (λ k below. (fine-code k (pair_at es k).1 _ (fine k below)).1)))
    where
      at_default : (i j : ℕ) (d : Placed) → i < j → j < length ss → IsOnePlace (get_or ss i d) (get_or ss j d) → IsOnePlace (placed_at ss i) (placed_at ss j)
      at_default i j d less below one =
          let former = get_or_default ss i (record { column = 0; row = 0; number = 0; code = 0 }) d (omega arith) in
          let latter = get_or_default ss j (record { column = 0; row = 0; number = 0; code = 0 }) d below in (
            ap (λ (p : Placed). p.column) former ∙ one.0 ∙ sym (ap (λ (p : Placed). p.column) latter),
            ap (λ (p : Placed). p.row) former ∙ one.1
                ∙ sym (ap (λ (p : Placed). p.row) latter),
          )

  pub pairs-codes : All (λ e. e.1 < order) (map pair_of ss)
  pairs-codes = All-map (λ (e : ℕ × ℕ). e.1 < order) pair_of ss (All-permutation (λ (p : Placed). p.code < order) ps ss moved
      (each-placed (λ (p : Placed). p.code < order) _ _ ps placed (λ k below. below-if order (pair_at es k).1
      (fine-code k (pair_at es k).1 _ (fine k below)).0)))

  pub pairs-coefficient : length ps ≡ length es → (place : ℕ) → coefficient (map pair_of ss) place ≡ coefficient es place
  pairs-coefficient all place =
      sym (code_at-run place 0 ss [] (own_flipped ss own_column) (All-nil (λ (p : Placed). 0 ≢ p.column)))
      ∙ ap (λ (xs : List Placed). code_at (map triple_of xs) place 0) (append-nil ss)
      ∙ code_at-sorted ps ss place 0 moved apart
      ∙ ap (λ (xs : List (ℕ × ℕ × ℕ)). code_at xs place 0) (pairs-placed es ps placed all)
      ∙ code_at-pairs es place
    where
      own_flipped : (qs : List Placed) → All (λ p. p.column ≡ 0) qs → All (λ p. 0 ≡ p.column) qs
      own_flipped qs own k d below = sym (own k d below)

-- a matrix's entries
module _ (rows columns order : ℕ) (es : List (ℕ × ℕ × ℕ)) (ps ss : List Placed) (placed : ArePlaced (length es) (triple_at es) ps)
    (fine : IsFaultless (own_fault_within rows columns order es) (length ps)) (moved : IsPermutation ps ss) (in_order : AllPairs IsInOrder ss)
    (apart : AreApart ps (length ps)) where
  pub triples-AreApart : AreApart ss (length ss)
  triples-AreApart = sorted_apart ps ss moved (numbered-placed _ _ ps placed) in_order apart

  pub triples-not_zero : All (λ p. p.code ≢ 0) ss
  triples-not_zero = All-permutation (λ (p : Placed). p.code ≢ 0) ps ss moved (each-placed (λ (p : Placed). p.code ≢ 0) _ _ ps placed
      (λ k below. (fine-code k (triple_at es k).2 _ (fine k below)).1))

  inside : (k : ℕ) → k < length ps → ((triple_at es k).0 < rows) × ((triple_at es k).1 < columns) × ((triple_at es k).2 < order)
  inside k below =
      let first = or-neither (nat_le rows (triple_at es k).0 || nat_le columns (triple_at es k).1) (nat_le order (triple_at es k).2)
      (fine-code k (triple_at es k).2 _ (fine k below)).0 in
      let second = or-neither (nat_le rows (triple_at es k).0) (nat_le columns (triple_at es k).1) first.0 in
      (below-if rows _ second.0, below-if columns _ second.1, below-if order _ first.1)

  pub triples-codes : All (λ p. p.code < order) ss
  triples-codes = All-permutation (λ (p : Placed). p.code < order) ps ss moved (each-placed (λ (p : Placed). p.code < order) _ _ ps placed
      (λ k below. (inside k below).2))

  -- where all of the list was placed
  module _ (all : length ps ≡ length es) where
    pub triples-code : (row column : ℕ) → code_at (map triple_of ss) row column ≡ code_at es row column
    triples-code row column = code_at-sorted ps ss row column moved apart ∙ ap (λ (xs : List (ℕ × ℕ × ℕ)). code_at xs row column)
        (triples-placed es ps placed all)

    pub triples-row_end : (row column : ℕ) → rows ≤ row → code_at es row column ≡ 0
    triples-row_end row column end = code_at-none row column es (λ k d below here. (
        let h = (inside k (omega arith)).0 in
        let e : (get_or es k d).0 ≡ (triple_at es k).0 = ap (λ (x : ℕ × ℕ × ℕ). x.0) (get_or_default es k d (0, 0, 0) below) in
        omega (arith, here.0)))

    pub triples-column_end : (row column : ℕ) → columns ≤ column → code_at es row column ≡ 0
    triples-column_end row column end = code_at-none row column es (λ k d below here. (
        let h = (inside k (omega arith)).1 in
        let e : (get_or es k d).1 ≡ (triple_at es k).1 = ap (λ (x : ℕ × ℕ × ℕ). x.1) (get_or_default es k d (0, 0, 0) below) in
        omega (arith, here.1)))

    -- columns that keep the codes of the sorted entries
    module _ (kept : List (List (ℕ × ℕ))) (count : length kept ≡ columns)
        (same : (row k : ℕ) → k < columns → coefficient (get_or kept k []) row ≡ code_at (map triple_of ss) row k) where
      pub kept-KeepsRows : KeepsRows rows kept
      kept-KeepsRows k d below row end =
          ap (λ (c : List (ℕ × ℕ)). coefficient c row) (get_or_default kept k d [] below) ∙ same row k (omega arith) ∙ triples-code row k
          ∙ triples-row_end row k end

      pub kept-code : (row column : ℕ) → coefficient (get_or kept column []) row ≡ code_at es row column
      kept-code row column = elim (cases_lt column columns) [
        | inl below ↦ same row column below ∙ triples-code row column
        | inr end ↦ ap (λ (c : List (ℕ × ℕ)). coefficient c row) (get_or-eq_default kept [] (omega arith)) ∙ sym (triples-column_end row column end)
      ]
