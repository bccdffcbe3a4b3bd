-- The first entries of a list, read until one is at fault by itself.
use Rattle.std.proofs.Common.{◌≡◌, ℕ, ◌+◌, ◌<◌, true, is_some, List, [], ◌∷◌, ◌++◌, length, length-append, ap, sym, ◌∙◌, arith, refl, inl, inr, Option, None, Some}
use Rattle.std.proofs.lemmas.Bool.{cases_eq}
use Rattle.std.proofs.lemmas.List.{get_or_append_left}
use Rattle.std.proofs.Math.Seq.{get_or-append_seam}
use Rattle.conley_chains.specs.declared.placing.Placed.{Placed}
use Rattle.conley_chains.specs.declared.error.MatrixError.{MatrixError}
use Rattle.conley_chains.specs.Faults.{IsFaultless}
use Rattle.conley_chains.specs.Placing.{placed_at, placed_as, ArePlaced, StopsAt}

-- the first k entries are read, and none is at fault by itself
pub record IsPlacedSoFar (n : ℕ) (e : ℕ → ℕ × ℕ × ℕ) (own : ℕ → Option MatrixError) (k : ℕ) (ps : List Placed) : Type 0 where
  pub count : length ps ≡ k
  pub placed : ArePlaced n e ps
  pub fine : IsFaultless own k

module _ (n : ℕ) (e : ℕ → ℕ × ℕ × ℕ) (own : ℕ → Option MatrixError) where
  pub placed_start : IsPlacedSoFar n e own 0 []
  placed_start = record {
    count = refl;
    placed = record { within = omega arith; each = λ k below. absurd (omega arith) };
    fine = λ k below. absurd (omega arith);
  }

  pub placed_more : (k : ℕ) (ps : List Placed) (p : Placed) → IsPlacedSoFar n e own k ps → k < n → p ≡ placed_as k (e k) → own k ≡ None
      → IsPlacedSoFar n e own (k + 1) (ps ++ p ∷ [])
  placed_more k ps p so_far below is none = record {
    count = length-append ps (p ∷ []) ∙ ap (λ (m : ℕ). m + 1) so_far.count;
    placed = record {
      within = (let c = so_far.count in omega (arith, length-append ps (p ∷ [])));
      each = λ j j_below. elim (cases_eq j k) [
        | inl last ↦
            ap (λ (x : ℕ). placed_at (ps ++ p ∷ []) x) (last ∙ sym so_far.count) ∙ get_or-append_seam ps p []
            (record { column = 0; row = 0; number = 0; code = 0 }) ∙ is
            ∙ ap (λ (x : ℕ). placed_as x (e x)) (sym last)
        | inr before ↦
            let c = so_far.count in
            let within : j < length ps = omega (arith, length-append ps (p ∷ [])) in
            get_or_append_left ps (p ∷ []) (record { column = 0; row = 0; number = 0; code = 0 }) j within ∙ so_far.placed.each j within
      ];
    };
    fine = λ j j_below. elim (cases_eq j k) [ inl last ↦ ap own last ∙ none | inr before ↦ so_far.fine j (omega arith) ];
  }

  -- stopped at an entry that is at fault
  pub stops_here : (k : ℕ) (ps : List Placed) (fault : Option MatrixError) → IsPlacedSoFar n e own k ps → k < n → is_some fault ≡ true → fault ≡ own k
      → StopsAt own n (length ps) fault
  stops_here k ps None so_far below some is = cc
  stops_here k ps (Some error) so_far below some is = (let c = so_far.count in omega arith, ap own so_far.count ∙ sym is)
