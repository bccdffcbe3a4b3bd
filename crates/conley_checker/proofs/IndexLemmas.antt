-- The law of the index, row by row.
use Rattle.std.proofs.Common.{◌≡◌, ◌≢◌, inl, inr, ℕ, suc, ◌+◌, ◌<◌, ◌≤◌, ◌==◌, ◌&&◌, Bool, true, false, List, length, subst, ap, sym, ◌∙◌, arith, refl, Some, None}
use mathlib.Core.Bool.{beq}
use Rattle.std.specs.Prelude.{◌↔◌, Contains, not, nat_lt, slice_index, if◌then◌else◌}
use Rattle.std.proofs.lemmas.Bool.{true≢false, cases_lt, eqb-true, eq-eqb, ne_eqb, lt-ltb, le-ltb, not_from_true, not_from_false}
use Rattle.std.proofs.lemmas.List.{get_or_default}
use Rattle.std.proofs.lemmas.List.Elements.{All-contains}
use Rattle.conley_lists.specs.Lists.{is_listed}
use Rattle.conley_lists.proofs.TestLemmas.{same_tests}
use Rattle.conley_mvf.specs.Partition.{IsInPart}
use Rattle.conley_transitions.specs.Morse.{set_at}
use Rattle.conley_certificate.specs.declared.reason.Reason.{Reason}
use Rattle.conley_certificate.specs.Tests.{any_below}
use Rattle.conley_certificate.specs.Problem.{Problem, IsProblem, cell_count, part_at}
use Rattle.conley_certificate_file.specs.Certificate.{Certificate, Fits}
use Rattle.conley_certificate.specs.Certificate.{set_count, first_cell, index_at}
use Rattle.conley_certificate.specs.Places.{first_place}
use Rattle.conley_certificate.specs.Values.{is_one_part, is_named, generators_at, number_of}
use Rattle.conley_certificate.specs.Laws.{index_law}
use Rattle.conley_checker.specs.Given.{ArePlaces}
use Rattle.conley_checker.specs.Rows.{IsFineRow}
use Rattle.conley_certificate.proofs.TestLemmas.{true_or_false, not-is_true, not-is_false, any_below-none, none-any_below, is_listed-Contains, Contains-is_listed, cond-true, cond-false}
use Rattle.conley_certificate.proofs.WithinLemmas.{parts}
use Rattle.conley_certificate.proofs.SetLemmas as sets
use Rattle.conley_certificate.proofs.PlaceLemmas.{first_place-row, never_differ}

agreed : (a b : Bool) → a ≡ b → (if a then b else not b) ≡ true
agreed true b h = sym h
agreed false b h = not_from_false b (sym h)

module _ (P : Problem) (ok : IsProblem P) (C : Certificate) (fits : Fits P.scalars P.complex C) (place : List ℕ) (are : ArePlaces P C place) (i : ℕ)
    (i_below : i < set_count C) where
  -- a cell has the number of the set where the set has it
  place_test : (x : ℕ) → x < cell_count P → (slice_index place x == i + 1) ≡ is_listed (set_at C.morse i) x
  place_test x cell = same_tests (slice_index place x == i + 1) (is_listed (set_at C.morse i) x)
      (λ h. Contains-is_listed (set_at C.morse i) x (sets.place-suc P ok C fits x i (sym (are.places x cell) ∙ eqb-true _ _ h ∙ omega arith)).1)
      (λ h. eq-eqb _ _ (are.places x cell ∙ sets.place-at P ok C fits x i (i_below, is_listed-Contains (set_at C.morse i) x h) ∙ omega arith))

  abbrev agrees : ℕ → Bool
  agrees x = if is_listed (set_at C.morse i) x then part_at P x == part_at P (first_cell C i) else not (part_at P x == part_at P (first_cell C i))

  -- all cells of the set are of the part, and all cells of the part are in the set
  abbrev pub AreOfPart : ℕ → Type 0
  AreOfPart part = (x : ℕ) → Contains (set_at C.morse i) x → part_at P x ≡ part

  abbrev pub AreOfSet : ℕ → Type 0
  AreOfSet part = (x : ℕ) → IsInPart P.part_of part x → slice_index place x ≡ i + 1

  agrees_by : (part : ℕ) → part ≡ part_at P (first_cell C i) → AreOfPart part → AreOfSet part → (x : ℕ) → x < cell_count P → agrees x ≡ true
  agrees_by part is of_part of_set x cell = elim (true_or_false (is_listed (set_at C.morse i) x)) [
    | inl inside ↦ agreed (is_listed (set_at C.morse i) x) (part_at P x == part_at P (first_cell C i))
        (inside ∙ sym (eq-eqb _ _ (of_part x (is_listed-Contains (set_at C.morse i) x inside) ∙ is)))
    | inr outside ↦ agreed (is_listed (set_at C.morse i) x) (part_at P x == part_at P (first_cell C i)) (outside ∙ sym (ne_eqb _ _ (λ same.
        true≢false (sym (sym (place_test x cell) ∙ eq-eqb _ _ (of_set x (omega (arith, cell, parts P ok), same ∙ sym is))) ∙ outside))))
  ]

  of_part_by : (part : ℕ) → part ≡ part_at P (first_cell C i) → ((x : ℕ) → x < cell_count P → agrees x ≡ true) → AreOfPart part
  of_part_by part is all x c =
      let inside = Contains-is_listed (set_at C.morse i) x c in
      eqb-true _ _ (sym (cond-true (is_listed (set_at C.morse i) x) (part_at P x == part_at P (first_cell C i))
      (not (part_at P x == part_at P (first_cell C i))) inside) ∙ all x (sets.at_cell P ok C fits x i (i_below, c))) ∙ sym is

  of_set_by : (part : ℕ) → part ≡ part_at P (first_cell C i) → ((x : ℕ) → x < cell_count P → agrees x ≡ true) → AreOfSet part
  of_set_by part is all x in_part =
      let cell : x < cell_count P = omega (arith, in_part.0, parts P ok) in
      elim (true_or_false (is_listed (set_at C.morse i) x)) [
        | inl inside ↦ eqb-true _ _ (place_test x cell ∙ inside)
        | inr outside ↦ absurd (true≢false (sym (eq-eqb _ _ (in_part.1 ∙ is)) ∙ not-is_true (part_at P x == part_at P (first_cell C i))
            (sym (cond-false (is_listed (set_at C.morse i) x) (part_at P x == part_at P (first_cell C i)) (not (part_at P x == part_at P (first_cell C i)))
            outside) ∙ all x cell)))
      ]

  pub one_part : (part : ℕ) (b : Bool) → part ≡ part_at P (first_cell C i) → ((b ≡ true) ↔ (AreOfPart part × AreOfSet part)) → b ≡ is_one_part P C i
  one_part part b is tells = same_tests b (is_one_part P C i)
      (λ h. let both_ways = tells.0 h in not_from_false (any_below (cell_count P) (λ x. not (agrees x)))
      (none-any_below (cell_count P) (λ x. not (agrees x)) (λ x cell. not_from_true (agrees x) (agrees_by part is both_ways.0 both_ways.1 x cell))))
      (λ h.
      let all : (x : ℕ) → x < cell_count P → agrees x ≡ true = λ x cell. not-is_false (agrees x)
      (any_below-none (cell_count P) (λ y. not (agrees y)) (not-is_true (any_below (cell_count P) (λ y. not (agrees y))) h) x cell) in
      tells.1 (of_part_by part is all, of_set_by part is all))

module _ (P : Problem) (C : Certificate) where
  abbrev have : ℕ → ℕ → ℕ
  have i k = if nat_lt k P.complex.levels then index_at C i k else 0

  abbrev want : ℕ → ℕ → ℕ
  want i k = if nat_lt k P.complex.levels then generators_at C i k else number_of (is_one_part P C i && not (is_named C i))

  have_level : (i k : ℕ) → k < P.complex.levels → have i k ≡ index_at C i k
  have_level i k below = cond-true (nat_lt k P.complex.levels) (index_at C i k) 0 (lt-ltb _ _ below)

  want_level : (i k : ℕ) → k < P.complex.levels → want i k ≡ generators_at C i k
  want_level i k below = cond-true (nat_lt k P.complex.levels) (generators_at C i k) (number_of (is_one_part P C i && not (is_named C i))) (lt-ltb _ _ below)

  have_last : (i k : ℕ) → P.complex.levels ≤ k → have i k ≡ 0
  have_last i k end = cond-false (nat_lt k P.complex.levels) (index_at C i k) 0 (le-ltb _ _ end)

  want_last : (i k : ℕ) → P.complex.levels ≤ k → want i k ≡ number_of (is_one_part P C i && not (is_named C i))
  want_last i k end = cond-false (nat_lt k P.complex.levels) (generators_at C i k) (number_of (is_one_part P C i && not (is_named C i))) (le-ltb _ _ end)

  fine_place : (i k : ℕ) → IsFineRow P C i → have i k ≡ want i k
  fine_place i k fine = elim (cases_lt k P.complex.levels) [
    | inl below ↦ have_level i k below ∙ fine.numbers k below ∙ sym (want_level i k below)
    | inr end ↦ have_last i k (omega arith) ∙ sym (ap number_of fine.part) ∙ sym (want_last i k (omega arith))
  ]

  pub index_fine : ((i : ℕ) → i < set_count C → IsFineRow P C i) → None ≡ first_place (index_law P C)
  index_fine all = sym (never_differ 4 false (set_count C) (suc P.complex.levels) have want (λ i k i_below k_below. fine_place i k (all i i_below)))

  module _ (i : ℕ) (i_below : i < set_count C) (before : (r : ℕ) → r < i → IsFineRow P C r) where
    reason : ℕ → ℕ → ℕ → Reason
    reason k h w = record { law = 4; part = 0; row = i; column = k; have = h; want = w }

    fails_at : (k : ℕ) → k < suc P.complex.levels → have i k ≢ want i k → ((c : ℕ) → c < k → have i c ≡ want i c)
        → first_place (index_law P C) ≡ Some (reason k (have i k) (want i k))
    unfolding reason
    fails_at k k_below differ left = first_place-row (index_law P C) refl i k i_below k_below (not_from_false (have i k == want i k) (ne_eqb _ _ differ))
        (λ r less c c_below. not_from_true (have r c == want r c) (eq-eqb _ _ (fine_place r c (before r less))))
        (λ c less. not_from_true (have i c == want i c) (eq-eqb _ _ (left c less)))

    pub number_differs : (k h w : ℕ) → k < P.complex.levels → h ≡ index_at C i k → w ≡ generators_at C i k → h ≢ w
        → ((c : ℕ) → c < k → index_at C i c ≡ generators_at C i c) →
        Some (record { law = 4; part = 0; row = i; column = k; have = h; want = w }) ≡ first_place (index_law P C)
    unfolding reason
    number_differs k h w k_below h_is w_is differ left = sym (
        fails_at k (omega arith) (λ e. differ (h_is ∙ sym (have_level i k k_below) ∙ e ∙ want_level i k k_below ∙ sym w_is))
        (λ c less. have_level i c (omega arith) ∙ left c less ∙ sym (want_level i c (omega arith)))
        ∙ ap (λ (n : ℕ). Some (reason k n (want i k))) (have_level i k k_below ∙ sym h_is)
        ∙ ap (λ (n : ℕ). Some (reason k h n)) (want_level i k k_below ∙ sym w_is))

    pub part_unnamed : (is_one_part P C i && not (is_named C i)) ≡ true → ((c : ℕ) → c < P.complex.levels → index_at C i c ≡ generators_at C i c) →
        Some (record { law = 4; part = 0; row = i; column = P.complex.levels; have = 0; want = 1 }) ≡ first_place (index_law P C)
    unfolding reason
    part_unnamed bad left =
        let want_is : want i P.complex.levels ≡ 1 = want_last i P.complex.levels (omega arith) ∙ ap number_of bad in
        let have_is : have i P.complex.levels ≡ 0 = have_last i P.complex.levels (omega arith) in
        sym (fails_at P.complex.levels (omega arith) (λ e. omega (arith, e, want_is, have_is))
        (λ c less. have_level i c less ∙ left c less ∙ sym (want_level i c less))
        ∙ ap (λ (n : ℕ). Some (reason P.complex.levels n (want i P.complex.levels))) have_is ∙ ap (λ (n : ℕ). Some (reason P.complex.levels 0 n)) want_is)

-- tests that differ aren't equal
pub not_equal : (a b : Bool) → not (beq a b) ≡ true → a ≡ b → ⊥
not_equal true true h e = true≢false (sym h)
not_equal true false h e = true≢false e
not_equal false true h e = true≢false (sym e)
not_equal false false h e = true≢false (sym h)

-- what holds at each place of a list holds of what it contains
pub all_by : (test : ℕ → Type 0) (xs : List ℕ) → ((k : ℕ) → k < length xs → test (slice_index xs k)) → (x : ℕ) → Contains xs x → test x
all_by test xs all x c = All-contains test xs x (λ k d below. subst test (get_or_default xs k 0 d below) (all k below)) c

pub equal_when : (a b : Bool) → not (beq a b) ≡ false → a ≡ b
equal_when true true h = refl
equal_when true false h = absurd (true≢false h)
equal_when false true h = absurd (true≢false h)
equal_when false false h = refl
