use Rattle.std.proofs.Common.{◌≡◌, ◌∙◌, ◌+◌, ℕ, List, [], ◌∷◌, ◌++◌, length, length-append, get_or, ap, inl, inr, arith}
use Rattle.std.proofs.lemmas.Bool.{cases_eq, cases_lt}
use Rattle.std.proofs.lemmas.List.{get_or_append_left}
use Rattle.std.proofs.Math.Seq.{get_or-append_seam}
use Rattle.std.proofs.Math.ListN.{get_or-eq_default}
use Rattle.conley_chains.proofs.transposing.empty_chains.Goals as goal

one_more : {A : Type 0} (xs : List A) (d : A) → ((k : ℕ) → get_or xs k d ≡ d) → (k : ℕ) → get_or (xs ++ d ∷ []) k d ≡ d
one_more xs d so_far k = elim (cases_lt k (length xs)) [
  | inl before ↦ get_or_append_left xs (d ∷ []) d k before ∙ so_far k
  | inr after ↦ elim (cases_eq k (length xs)) [
    | inl last ↦ ap (λ (i : ℕ). get_or (xs ++ d ∷ []) i d) last ∙ get_or-append_seam xs d [] d
    | inr beyond ↦ get_or-eq_default (xs ++ d ∷ []) d (omega (arith, length-append xs (d ∷ [])))
  ]
]

pub loop-count-preserved : goal.loop-count-preserved
loop-count-preserved c = rw c.in_ok-push.ensures.items (rw c.in_ok-with_room.ensures (
  length-append c.loop-count.chains.items ([] ∷ [])
      ∙ ap (λ (n : ℕ). n + 1) c.loop-count.invariant.0,
  one_more c.loop-count.chains.items [] c.loop-count.invariant.1,
))
