-- Columns made of entries in order, a run of entries of one column after another.
use Rattle.std.specs.Prelude.{AllPairs, map}
use Rattle.std.proofs.Common.{◌≡◌, ◌≢◌, ℕ, ◌+◌, ◌-◌, ◌<◌, ◌≤◌, List, [], ◌∷◌, ◌++◌, length, length-take, length-drop, length-append, get_or, take, drop, ap, sym, subst, ◌∙◌, arith, refl, inl, inr, All}
use Rattle.std.proofs.lemmas.Bool.{cases_eq, cases_lt}
use Rattle.std.proofs.lemmas.List.{get_or-take, get_or-drop, get_or_default, get_or_append_left}
use Rattle.std.proofs.lemmas.List.Edits.{split_between}
use Rattle.std.proofs.lemmas.List.Elements.{All-nil, All-push, All-take, All-drop, All-map}
use Rattle.std.proofs.Math.Seq.{get_or-append_seam}
use Rattle.conley_chains.specs.declared.placing.Placed.{Placed}
use Rattle.conley_chains.specs.Chain.{coefficient, IsChain}
use Rattle.conley_chains.specs.Faults.{code_at}
use Rattle.conley_chains.specs.Placing.{placed_at, IsOnePlace, IsInOrder, AreApart, pair_of, triple_of}
use Rattle.conley_chains.proofs.CodeLemmas.{code_at-skip, code_at-run}
use Rattle.conley_chains.proofs.EntriesLemmas.{run-IsChain}

-- the columns before `column` are made, of the entries before `start`
pub record AreRunsSoFar (ss : List Placed) (column start : ℕ) (columns : List (List (ℕ × ℕ))) : Type 0 where
  pub count : length columns ≡ column
  pub within : start ≤ length ss
  pub before : (k : ℕ) → k < start → (placed_at ss k).column < column
  pub after : (k : ℕ) → start ≤ k → k < length ss → column ≤ (placed_at ss k).column
  pub codes : (n : ℕ) → All (λ p. p.code < n) ss → All (λ es. All (λ e. e.1 < n) es) columns
  pub same : (row k : ℕ) → k < column → coefficient (get_or columns k []) row ≡ code_at (map triple_of ss) row k

pub runs_start : (ss : List Placed) → AreRunsSoFar ss 0 0 []
runs_start ss = record {
  count = refl;
  within = omega arith;
  before = λ k below. absurd (omega arith);
  after = λ k from within. omega arith;
  codes = λ n all. All-nil (λ (es : List (ℕ × ℕ)). All (λ e. e.1 < n) es);
  same = λ row k below. absurd (omega arith);
}

module _ (ss : List Placed) (order : AllPairs IsInOrder ss) (apart : AreApart ss (length ss)) (some : All (λ p. p.code ≢ 0) ss) where
  nowhere : Placed
  nowhere = record { column = 0; row = 0; number = 0; code = 0 }

  -- a run of entries of one column
  module _ (column start end : ℕ) (columns : List (List (ℕ × ℕ))) (so_far : AreRunsSoFar ss column start columns) (from : start ≤ end)
      (within : end ≤ length ss)
      (own : (k : ℕ) → start ≤ k → k < end → (placed_at ss k).column ≡ column) (other : end < length ss → (placed_at ss end).column ≢ column) where
    size : length (take (end - start) (drop start ss)) ≡ end - start
    size = omega (arith, length-take (end - start) (drop start ss), length-drop start ss)

    read : (k : ℕ) (d : Placed) → k < end - start → get_or (take (end - start) (drop start ss)) k d ≡ placed_at ss (start + k)
    read k d below =
        get_or-take (end - start) (drop start ss) k d below ∙ get_or-drop start ss k d
        ∙ get_or_default ss (start + k) d (record { column = 0; row = 0; number = 0; code = 0 }) (omega arith)

    own_run : All (λ p. p.column ≡ column) (take (end - start) (drop start ss))
    own_run k d below = subst (λ (p : Placed). p.column ≡ column) (sym (read k d (omega (arith, size)))) (own (start + k) (omega arith) (omega (arith, size)))

    pub run_chain : IsChain (map pair_of (take (end - start) (drop start ss)))
    run_chain = run-IsChain (take (end - start) (drop start ss)) column own_run
        (λ i j d less below. subst (λ (p : Placed). IsInOrder p (get_or (take (end - start) (drop start ss)) j d)) (sym (read i d (omega (arith, size))))
        (subst (λ (p : Placed). IsInOrder (placed_at ss (start + i)) p) (sym (read j d (omega (arith, size))))
        (order (start + i) (start + j) (record { column = 0; row = 0; number = 0; code = 0 }) (omega arith) (omega (arith, size)))))
        (λ i j d less below one. apart (start + i) (start + j) (omega arith) (omega (arith, size))
        (subst (λ (p : Placed). IsOnePlace p (placed_at ss (start + j))) (read i d (omega (arith, size)))
        (subst (λ (p : Placed). IsOnePlace (get_or (take (end - start) (drop start ss)) i d) p) (read j d (omega (arith, size))) one)))
        (All-take (λ (p : Placed). p.code ≢ 0) (end - start) (drop start ss) (All-drop (λ (p : Placed). p.code ≢ 0) start ss some))

    -- the entries after the run are of later columns
    later : (k : ℕ) → end ≤ k → k < length ss → column + 1 ≤ (placed_at ss k).column
    later k from_end below = elim (cases_eq k end) [
      | inl same ↦
          let least = so_far.after k (omega arith) below in
          let differs : (placed_at ss k).column ≢ column = subst (λ (x : ℕ). (placed_at ss x).column ≢ column) (sym same) (other (omega arith)) in
          omega (arith, differs)
      | inr more ↦
          let least = so_far.after end (omega arith) (omega arith) in
          let differs = other (omega arith) in
          let rise = (order end k (record { column = 0; row = 0; number = 0; code = 0 }) (omega arith) below).columns in
          omega (arith, differs)
    ]

    run_code : (row : ℕ) → coefficient (map pair_of (take (end - start) (drop start ss))) row ≡ code_at (map triple_of ss) row column
    run_code row =
        sym (ap (λ (xs : List Placed). code_at (map triple_of xs) row column) (split_between ss start end from)
        ∙ code_at-skip row column (take start ss) (take (end - start) (drop start ss) ++ drop end ss) (λ k d below same. (
        let k_below : k < start = omega (arith, length-take start ss) in
        let e : (get_or (take start ss) k d).column ≡ (placed_at ss k).column = ap (λ (p : Placed). p.column)
        (get_or-take start ss k d k_below ∙ get_or_default ss k d (record { column = 0; row = 0; number = 0; code = 0 }) (omega (arith, so_far.within))) in
        let b = so_far.before k k_below in
        omega (arith, same)))
        ∙ code_at-run row column (take (end - start) (drop start ss)) (drop end ss) (λ k d below. sym (own_run k d below)) (λ k d below same. (
        let inside : end + k < length ss = omega (arith, length-drop end ss) in
        let e : (get_or (drop end ss) k d).column ≡ (placed_at ss (end + k)).column = ap (λ (p : Placed). p.column)
        (get_or-drop end ss k d ∙ get_or_default ss (end + k) d (record { column = 0; row = 0; number = 0; code = 0 }) inside) in
        let l = later (end + k) (omega arith) inside in
        omega (arith, same))))

    pub runs_more : (new : List (ℕ × ℕ)) → new ≡ map pair_of (take (end - start) (drop start ss)) → AreRunsSoFar ss (column + 1) end (columns ++ new ∷ [])
    runs_more new is = record {
      count = length-append columns (new ∷ []) ∙ ap (λ (m : ℕ). m + 1) so_far.count;
      within = within;
      before = λ k below. elim (cases_lt k start) [
        | inl less ↦ (let h = so_far.before k less in omega arith)
        | inr more ↦ (let h = own k more below in omega arith)
      ];
      after = later;
      codes = λ n all. All-push (λ (es : List (ℕ × ℕ)). All (λ e. e.1 < n) es) columns new (so_far.codes n all)
          (subst (λ (es : List (ℕ × ℕ)). All (λ e. e.1 < n) es) (sym is)
          (All-map (λ (e : ℕ × ℕ). e.1 < n) pair_of (take (end - start) (drop start ss)) (All-take (λ (p : Placed). p.code < n) (end - start) (drop start ss)
          (All-drop (λ (p : Placed). p.code < n) start ss all))));
      same = λ row k below. elim (cases_eq k column) [
        | inl last ↦
            ap (λ (es : List (ℕ × ℕ)). coefficient es row) (ap (λ (x : ℕ). get_or (columns ++ new ∷ []) x []) (last ∙ sym so_far.count)
            ∙ get_or-append_seam columns new [] [] ∙ is)
            ∙ run_code row ∙ ap (λ (x : ℕ). code_at (map triple_of ss) row x) (sym last)
        | inr before ↦
            ap (λ (es : List (ℕ × ℕ)). coefficient es row) (get_or_append_left columns (new ∷ []) [] k (let c = so_far.count in omega arith))
            ∙ so_far.same row k (omega arith)
      ];
    }
