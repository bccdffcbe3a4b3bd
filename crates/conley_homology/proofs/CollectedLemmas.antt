-- Cycles that are collected by dimension.
use Rattle.std.proofs.Common.{◌≡◌, ◌≢◌, inl, inr, ℕ, ◌+◌, ◌<◌, List, [], ◌∷◌, ◌++◌, length, length-append, get_or, map, take, sum, ap, sym, ◌∙◌, arith, refl, subst, append-nil, append_assoc}
use Rattle.std.specs.Prelude.{slice_index_or}
use Rattle.std.proofs.lemmas.Bool.{cases_eq}
use Rattle.std.proofs.lemmas.List.{get_or_append_left, get_or-append-add, get_or-map, take-append-le, map-append, length-map}
use Rattle.std.proofs.lemmas.List.Sums.{sum_by-append, sum_by_more_le}
use Rattle.std.proofs.Math.Seq.{get_or-append_seam, take-append_seam}
use Rattle.conley_field.specs.Arithmetic.{Arithmetic, IsField}
use Rattle.conley_algebra.specs.Entries.{Vector}
use Rattle.conley_algebra.specs.Homology.{combination, IsExpressed, IsBasisModulo}
use Rattle.conley_algebra.proofs.SumLemmas as sums
use Rattle.conley_algebra.specs.Listing.{IsListing}
use Rattle.conley_homology.specs.Homology.{AreListed, IsCounted, IsCollected}

module _ (Q : ℕ → Type 0) where
  pub listed-none : AreListed Q 0 []
  listed-none = record {
    most = omega arith;
    listing = record {
      within = λ i below. absurd (omega arith);
      holds = λ i below. absurd (omega arith);
      distinct = λ i j i_below. absurd (omega arith);
      all = λ g below. absurd (omega arith);
    };
  }

  pub listed-other : (n : ℕ) (list : List ℕ) → (Q n → ⊥) → AreListed Q n list → AreListed Q (n + 1) list
  listed-other n list no_more a = record {
    most = let m = a.most in omega arith;
    listing = record {
      within = λ i below. let w = a.listing.within i below in omega arith;
      holds = a.listing.holds;
      distinct = a.listing.distinct;
      all = λ g below is. a.listing.all g (let differs : g ≢ n = (λ e. no_more (subst Q e is)) in omega arith) is;
    };
  }

  pub listed-more : (n : ℕ) (list : List ℕ) → Q n → AreListed Q n list → AreListed Q (n + 1) (list ++ n ∷ [])
  listed-more n list is a = record {
    most = let m = a.most in omega (arith, count);
    listing = record {
      within = λ i below. elim (cases_eq i (length list)) [
        | inl last ↦ let e = at_last i last in omega arith
        | inr other ↦ let e = at_old i (omega (arith, count)) in let w = a.listing.within i (omega (arith, count)) in omega arith
      ];
      holds = λ i below. elim (cases_eq i (length list)) [
        | inl last ↦ rw (at_last i last) is
        | inr other ↦ rw (at_old i (omega (arith, count))) (a.listing.holds i (omega (arith, count)))
      ];
      distinct = λ i j i_below j_below same. elim (cases_eq i (length list)) [
        | inl i_last ↦ elim (cases_eq j (length list)) [
          | inl j_last ↦ i_last ∙ sym j_last
          | inr other ↦ (let x = at_last i i_last in let y = at_old j (omega (arith, count)) in let w = a.listing.within j (omega (arith, count)) in
              absurd (omega arith))
        ]
        | inr i_other ↦ elim (cases_eq j (length list)) [
          | inl j_last ↦ (let x = at_last j j_last in let y = at_old i (omega (arith, count)) in let w = a.listing.within i (omega (arith, count)) in
              absurd (omega arith))
          | inr j_other ↦ a.listing.distinct i j (omega (arith, count)) (omega (arith, count))
              (sym (at_old i (omega (arith, count))) ∙ same ∙ at_old j (omega (arith, count)))
        ]
      ];
      all = λ g below here. elim (cases_eq g n) [
        | inl e ↦ (length list, (omega (arith, count), at_last (length list) refl ∙ sym e))
        | inr other ↦ let found = a.listing.all g (omega arith) here in let found_below : found.0 < length list = found.1.0 in
            (found.0, (omega (arith, count), at_old found.0 found_below ∙ found.1.1))
      ];
    };
  } where
    count : length (list ++ n ∷ []) ≡ length list + 1
    count = length-append list (n ∷ [])

    at_last : (i : ℕ) → i ≡ length list → get_or (list ++ n ∷ []) i 0 ≡ n
    at_last i e = ap (λ (k : ℕ). get_or (list ++ n ∷ []) k 0) e ∙ get_or-append_seam list n [] 0

    at_old : (i : ℕ) → i < length list → get_or (list ++ n ∷ []) i 0 ≡ get_or list i 0
    at_old i below = get_or_append_left list (n ∷ []) 0 i below

  pub counted-none : IsCounted Q 0 0
  counted-none = ([], (refl, listed-none))

  pub counted-other : (n count : ℕ) → (Q n → ⊥) → IsCounted Q n count → IsCounted Q (n + 1) count
  counted-other n count no_more c = (c.0, (c.1.0, listed-other n c.0 no_more c.1.1))

  pub counted-more : (n count : ℕ) → Q n → IsCounted Q n count → IsCounted Q (n + 1) (count + 1)
  counted-more n count is c = (c.0 ++ n ∷ [], (length-append c.0 (n ∷ []) ∙ ap (λ (k : ℕ). k + 1) c.1.0, listed-more n c.0 is c.1.1))

module _ (kept : List (List (ℕ × ℕ))) (Q : ℕ → Type 0) where
  pub collected-none : (before : List (List (ℕ × ℕ))) → IsCollected kept Q 0 0 before before
  collected-none before = record { list = []; list_count = refl; listed = listed-none Q; items = sym (append-nil before) }

  pub collected-other : (n count : ℕ) (before after : List (List (ℕ × ℕ))) → (Q n → ⊥) → IsCollected kept Q n count before after
      → IsCollected kept Q (n + 1) count before after
  collected-other n count before after no_more c = record {
    list = c.list;
    list_count = c.list_count;
    listed = listed-other Q n c.list no_more c.listed;
    items = c.items;
  }

  pub collected-more : (n count : ℕ) (before after : List (List (ℕ × ℕ))) → Q n → IsCollected kept Q n count before after
      → IsCollected kept Q (n + 1) (count + 1) before (after ++ get_or kept n [] ∷ [])
  collected-more n count before after is c = record {
    list = c.list ++ n ∷ [];
    list_count = length-append c.list (n ∷ []) ∙ ap (λ (k : ℕ). k + 1) c.list_count;
    listed = listed-more Q n c.list is c.listed;
    items = ap (λ (xs : List (List (ℕ × ℕ))). xs ++ get_or kept n [] ∷ []) c.items ∙ append_assoc before (map (λ j. slice_index_or kept j []) c.list)
        (get_or kept n [] ∷ [])
        ∙ ap (λ (xs : List (List (ℕ × ℕ))). before ++ xs) (sym (map-append (λ j. slice_index_or kept j []) c.list (n ∷ [])));
  }

-- for each dimension below the level, a count
pub record AreCounted (Q : ℕ → ℕ → Type 0) (n level : ℕ) (numbers : List ℕ) : Type 0 where
  pub levels : length numbers ≡ level
  pub counts : (k : ℕ) → k < level → IsCounted (Q k) n (get_or numbers k 0)

module _ (Q : ℕ → ℕ → Type 0) (n : ℕ) where
  pub numbers-none : AreCounted Q n 0 []
  numbers-none = record { levels = refl; counts = λ k below. absurd (omega arith) }

  pub numbers-more : (level count : ℕ) (numbers : List ℕ) → AreCounted Q n level numbers → IsCounted (Q level) n count
      → AreCounted Q n (level + 1) (numbers ++ count ∷ [])
  numbers-more level count numbers a c = record {
    levels = length-append numbers (count ∷ []) ∙ ap (λ (k : ℕ). k + 1) a.levels;
    counts = λ k below. elim (cases_eq k level) [
      | inl last ↦
          let number : get_or (numbers ++ count ∷ []) k 0 ≡ count = ap (λ (j : ℕ). get_or (numbers ++ count ∷ []) j 0) (last ∙ sym a.levels)
          ∙ get_or-append_seam numbers count [] 0 in
          rw (number, last) c
      | inr other ↦ rw (get_or_append_left numbers (count ∷ []) 0 k (let e = a.levels in omega arith)) (a.counts k (omega arith))
    ];
  }

-- for each dimension below the level, the cycles listed
pub record IsGathered (kept : List (List (ℕ × ℕ))) (Q : ℕ → ℕ → Type 0) (n level : ℕ) (numbers : List ℕ) (cycles : List (List (ℕ × ℕ))) : Type 0 where
  pub levels : length numbers ≡ level
  pub total : length cycles ≡ sum numbers
  pub lists : (k : ℕ) → k < level → (list : ℕ → ℕ) × (IsListing n (Q k) (get_or numbers k 0) list
      × ((i : ℕ) → i < get_or numbers k 0 → get_or cycles (sum (take k numbers) + i) [] ≡ get_or kept (list i) []))

module _ (kept : List (List (ℕ × ℕ))) (Q : ℕ → ℕ → Type 0) (n : ℕ) where
  pub gathered-none : IsGathered kept Q n 0 [] []
  gathered-none = record { levels = refl; total = refl; lists = λ k below. absurd (omega arith) }

  pub gathered-more : (level count : ℕ) (numbers : List ℕ) (cycles cycles' : List (List (ℕ × ℕ))) → IsGathered kept Q n level numbers cycles
      → IsCollected kept (Q level) n count cycles cycles' → IsGathered kept Q n (level + 1) (numbers ++ count ∷ []) cycles'
  gathered-more level count numbers cycles cycles' g c = record {
    levels = length-append numbers (count ∷ []) ∙ ap (λ (k : ℕ). k + 1) g.levels;
    total =
        ap (λ (xs : List (List (ℕ × ℕ))). length xs) c.items ∙ length-append cycles (map (λ j. slice_index_or kept j []) c.list)
        ∙ (let a = length-map c.list (λ (j : ℕ). get_or kept j []) in let b = c.list_count in let t = g.total in let s =
        sum_by-append (λ (x : ℕ). x) numbers (count ∷ []) in omega arith);
    lists = λ k below. elim (cases_eq k level) [
      | inl last ↦ (
        (λ i. get_or c.list i 0),
        (
          subst (λ (t : ℕ). IsListing n (Q t) (get_or (numbers ++ count ∷ []) k 0) (λ i. get_or c.list i 0)) (sym last)
              (subst (λ (t : ℕ). IsListing n (Q level) t (λ i. get_or c.list i 0)) (c.list_count ∙ sym (number-last k last)) c.listed.listing),
          λ i i_below. cycle-last k i last (subst (λ (t : ℕ). i < t) (number-last k last) i_below),
        ),
      )
      | inr other ↦ let old = g.lists k (omega arith) in (
        old.0,
        (
          subst (λ (t : ℕ). IsListing n (Q k) t old.0) (sym (number-old k (omega arith))) old.1.0,
          λ i i_below.
              let i_old : i < get_or numbers k 0 = subst (λ (t : ℕ). i < t) (number-old k (omega arith)) i_below in
              cycle-old k i (omega arith) i_old ∙ old.1.1 i i_old,
        ),
      )
    ];
  } where
    number-last : (k : ℕ) → k ≡ level → get_or (numbers ++ count ∷ []) k 0 ≡ count
    number-last k last = ap (λ (j : ℕ). get_or (numbers ++ count ∷ []) j 0) (last ∙ sym g.levels) ∙ get_or-append_seam numbers count [] 0

    number-old : (k : ℕ) → k < level → get_or (numbers ++ count ∷ []) k 0 ≡ get_or numbers k 0
    number-old k below = get_or_append_left numbers (count ∷ []) 0 k (let e = g.levels in omega arith)

    start-last : (k : ℕ) → k ≡ level → sum (take k (numbers ++ count ∷ [])) ≡ length cycles
    start-last k last = ap (λ (j : ℕ). sum (take j (numbers ++ count ∷ []))) (last ∙ sym g.levels)
        ∙ ap (λ (xs : List ℕ). sum xs) (take-append_seam numbers (count ∷ [])) ∙ sym g.total

    cycle-last : (k i : ℕ) → k ≡ level → i < count → get_or cycles' (sum (take k (numbers ++ count ∷ [])) + i) [] ≡ get_or kept (get_or c.list i 0) []
    cycle-last k i last below =
        ap (λ (j : ℕ). get_or cycles' (j + i) []) (start-last k last) ∙ ap (λ (xs : List (List (ℕ × ℕ))). get_or xs (length cycles + i) []) c.items
        ∙ get_or-append-add cycles (map (λ j. slice_index_or kept j []) c.list) i [] ∙ get_or-map (λ (j : ℕ). get_or kept j []) c.list i 0 []
        (let e = c.list_count in omega arith)

    cycle-old : (k i : ℕ) → k < level → i < get_or numbers k 0 → get_or cycles' (sum (take k (numbers ++ count ∷ [])) + i) [] ≡ get_or cycles
        (sum (take k numbers) + i) []
    cycle-old k i below i_below =
        ap (λ (xs : List ℕ). get_or cycles' (sum xs + i) []) (take-append-le k numbers (count ∷ []) (let e = g.levels in omega arith))
        ∙ ap (λ (xs : List (List (ℕ × ℕ))). get_or xs (sum (take k numbers) + i) []) c.items
        ∙ get_or_append_left cycles (map (λ j. slice_index_or kept j []) c.list) [] (sum (take k numbers) + i)
        (let t = g.total in let e = g.levels in let s = sum_by_more_le (λ (x : ℕ). x) numbers k 0 (omega arith) in omega arith)

-- a basis with the same vectors
module _ {F : Arithmetic} (laws : IsField F) (Z B : Vector → Type 0) (r : ℕ) (z w : ℕ → Vector) (same : (i : ℕ) → i < r → z i ≡ w i) where
  combination-same : (a : Vector) (x : ℕ) → combination F r z a x ≡ combination F r w a x
  combination-same a x = sums.sum_below-congr laws r _ _ (λ i below. ap (λ (v : Vector). F.mul (a i) (v x)) (same i below))

  to_w : (v a : Vector) → IsExpressed F B r z v a → IsExpressed F B r w v a
  to_w v a e = record { codes = e.codes; rest = e.rest; in_B = e.in_B; is = λ x. e.is x ∙ ap (λ t. F.add t (e.rest x)) (combination-same a x) }

  to_z : (v a : Vector) → IsExpressed F B r w v a → IsExpressed F B r z v a
  to_z v a e = record { codes = e.codes; rest = e.rest; in_B = e.in_B; is = λ x. e.is x ∙ ap (λ t. F.add t (e.rest x)) (sym (combination-same a x)) }

  pub same-IsBasisModulo : IsBasisModulo F Z B r z → IsBasisModulo F Z B r w
  same-IsBasisModulo basis = record {
    members = λ i below. subst Z (same i below) (basis.members i below);
    spans = λ v v_in. let s = basis.spans v v_in in (s.0, to_w v s.0 s.1);
    once = λ v a b v_in by_a by_b. basis.once v a b v_in (to_z v a by_a) (to_z v b by_b);
  }
