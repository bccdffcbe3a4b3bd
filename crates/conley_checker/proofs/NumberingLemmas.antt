-- The first law over numbers of classes: least cells, parts, and wanted numbers.
use Rattle.std.proofs.Common.{◌≡◌, ◌≢◌, inl, inr, ℕ, zero, suc, ◌+◌, ◌<◌, ◌≤◌, ◌==◌, ◌&&◌, ◌||◌, Bool, true, false, List, [], ◌∷◌, ◌++◌, length, length-append, set, get_or-set_other, get_or-set_same, ap, sym, ◌∙◌, arith, refl, subst, Some, None}
use Rattle.std.specs.Prelude.{not, slice_index, slice_index_or}
use Rattle.std.proofs.lemmas.Bool.{cases_eq, cases_lt, eqb-true, eq-eqb, ne_eqb, and_from, and_left, and_right, not_from_true, not_from_false}
use Rattle.std.proofs.lemmas.List.{get_or_append_left, get_or_default}
use Rattle.std.proofs.Math.Seq.{get_or-append_seam}
use Rattle.std.proofs.Math.ListN.{length-set}
use Rattle.conley_walk.specs.Walk.{AreRecurrent}
use Rattle.conley_lists.proofs.TestLemmas.{same_tests}
use Rattle.conley_transitions.specs.Flow.{StepOf}
use Rattle.conley_certificate.specs.declared.reason.Reason.{Reason}
use Rattle.conley_certificate.specs.Tests.{any_below, count_below}
use Rattle.conley_certificate.specs.Problem.{Problem, IsProblem, cell_count, part_at, flow}
use Rattle.conley_certificate_file.specs.Certificate.{Certificate, Fits}
use Rattle.conley_certificate.specs.Places.{first_place}
use Rattle.conley_certificate.specs.Reach.{recurs, least_of, has_two_parts}
use Rattle.conley_certificate.specs.Values.{place_of, is_wanted, wanted_place}
use Rattle.conley_certificate.specs.Laws.{sets_law}
use Rattle.conley_checker.specs.Given.{AreClassNumbers, AreLeasts}
use Rattle.conley_certificate.proofs.TestLemmas.{true_or_false, both, any_below-at, count_below-passed, count_below-missed, count_below-flat, count_below-none}
use Rattle.conley_certificate.proofs.ReachLemmas.{recurs-AreRecurrent, AreRecurrent-recurs, least-recurrent, least-most, least-same}
use Rattle.conley_certificate.proofs.SetLemmas as sets
use Rattle.conley_certificate.proofs.PlaceLemmas.{first_place-row, never_differ}

-- the least cells of the classes of the first x cells
pub record LeastsSoFar (class_of : List ℕ) (x : ℕ) (leasts : List ℕ) : Type 0 where
  pub few : length leasts ≤ x
  pub classes : (y : ℕ) → y < x → slice_index class_of y < length leasts
  pub cells : (c : ℕ) → c < length leasts → slice_index leasts c < x
  pub class : (c : ℕ) → c < length leasts → slice_index class_of (slice_index leasts c) ≡ c
  pub least : (c y : ℕ) → c < length leasts → y < slice_index leasts c → slice_index class_of y ≢ c

pub leasts_none : (class_of : List ℕ) → LeastsSoFar class_of 0 []
leasts_none class_of = record {
  few = omega arith;
  classes = λ y below. absurd (omega arith);
  cells = λ c below. absurd (omega arith);
  class =
      λ c below. absurd (omega arith);
  least = λ c y below. absurd (omega arith);
}

module _ (class_of : List ℕ) (x : ℕ) (leasts : List ℕ) (is : LeastsSoFar class_of x leasts) where
  at_end : slice_index (leasts ++ x ∷ []) (length leasts) ≡ x
  at_end = get_or-append_seam leasts x [] 0

  at_before : (c : ℕ) → c < length leasts → slice_index (leasts ++ x ∷ []) c ≡ slice_index leasts c
  at_before c below = get_or_append_left leasts (x ∷ []) 0 c below

  pub leasts_more : slice_index class_of x ≡ length leasts → LeastsSoFar class_of (x + 1) (leasts ++ x ∷ [])
  leasts_more new =
      let longer : length (leasts ++ x ∷ []) ≡ length leasts + 1 = length-append leasts (x ∷ []) in
      record {
        few = omega (arith, longer, is.few);
        classes = λ y below. elim (cases_eq y x) [
          | inl same ↦ omega (arith, longer, new, ap (slice_index class_of) same)
          | inr other ↦ omega (arith, longer, is.classes y (omega arith))
        ];
        cells = λ c below. elim (cases_lt c (length leasts)) [
          | inl before ↦ omega (arith, at_before c before, is.cells c before)
          | inr last ↦ (let e : c ≡ length leasts = omega arith in omega (arith, at_end, ap (slice_index (leasts ++ x ∷ [])) e))
        ];
        class = λ c below. elim (cases_lt c (length leasts)) [
          | inl before ↦ ap (slice_index class_of) (at_before c before) ∙ is.class c before
          | inr last ↦ (let e : c ≡ length leasts = omega arith in ap (slice_index class_of) (ap (slice_index (leasts ++ x ∷ [])) e ∙ at_end) ∙ new ∙ sym e)
        ];
        least = λ c y below less. elim (cases_lt c (length leasts)) [
          | inl before ↦ is.least c y before (omega (arith, at_before c before))
          | inr last ↦ (let e : c ≡ length leasts = omega arith in λ same. omega (
            arith,
            is.classes y
                (omega (arith, at_end, ap (slice_index (leasts ++ x ∷ [])) e)),
            same,
          ))
        ];
      }

  pub leasts_same : (P : Problem) → AreClassNumbers P class_of → x < cell_count P → slice_index class_of x ≢ length leasts → LeastsSoFar class_of (x + 1) leasts
  leasts_same P numbers cell old = record {
    few = (let h = is.few in omega arith);
    classes = λ y below. elim (cases_eq y x) [
      | inl same ↦ subst (λ n. slice_index class_of n < length leasts) (sym same) known
      | inr other ↦ is.classes y (omega arith)
    ];
    cells = λ c below. (let h = is.cells c below in omega arith);
    class = is.class;
    least = is.least;
  } where
    known : slice_index class_of x < length leasts
    known = elim (cases_lt (slice_index class_of x) (length leasts)) [
      | inl below ↦ below
      | inr above ↦ (let y = numbers.in_order x (length leasts) cell (omega arith) in absurd (omega (arith, is.classes y.0 y.1, y.2)))
    ]

pub leasts_all : (P : Problem) (class_of : List ℕ) (x : ℕ) (leasts : List ℕ) → LeastsSoFar class_of x leasts → x ≡ cell_count P → AreLeasts P class_of leasts
leasts_all P class_of x leasts is all = record {
  few = (let h = is.few in omega arith);
  classes = λ y below. is.classes y (omega arith);
  cells = λ c below. (let h = is.cells c below in omega arith);
  class = is.class;
  least = is.least;
}

any_below-congr : (n : ℕ) (s t : ℕ → Bool) → ((k : ℕ) → k < n → s k ≡ t k) → any_below n s ≡ any_below n t
any_below-congr zero s t same = refl
any_below-congr (suc n) s t same = ap (λ b. b || s n) (any_below-congr n s t (λ k below. same k (omega arith)))
    ∙ ap (λ b. any_below n t || b) (same n (omega arith))

-- numbers below m c that pass are among m 0, m 1, ..
count_below-through : (c : ℕ) (m : ℕ → ℕ) (t : ℕ → Bool) → ((j k : ℕ) → j < k → k ≤ c → m j < m k)
    → ((y : ℕ) → y < m c → t y ≡ true → (j : ℕ) × ((j < c) × (m j ≡ y))) →
    count_below (m c) t ≡ count_below c (λ d. t (m d))
count_below-through zero m t up only = count_below-none (m zero) t (λ k below. elim (true_or_false (t k)) [
  | inl passed ↦ (let found = only k below passed in let none : found.0 < 0 = found.1.0 in absurd (omega arith))
  | inr missed ↦ missed
])
count_below-through (suc c) m t up only =
    let less : m c < m (suc c) = up c (suc c) (omega arith) (omega arith) in
    let rest : count_below (m c) t ≡ count_below c (λ d. t (m d)) = count_below-through c m t (λ j k j_less most. up j k j_less (omega arith))
    (λ y below passed.
    let found = only y (omega arith) passed in
    let found_below : found.0 < suc c = found.1.0 in
    elim (cases_eq found.0 c) [
      | inl same ↦ absurd (omega (arith, found.1.1, ap m same))
      | inr other ↦ (found.0, (omega arith, found.1.1))
    ]) in
    count_below-flat (suc (m c)) (m (suc c)) t (omega arith) (λ k from below. elim (true_or_false (t k)) [
      | inl passed ↦
          let found = only k below passed in
          let found_below : found.0 < suc c = found.1.0 in
          elim (cases_eq found.0 c) [
            | inl same ↦ absurd (omega (arith, found.1.1, ap m same))
            | inr other ↦ absurd (omega (arith, found.1.1, up found.0 c (omega arith) (omega arith)))
          ]
      | inr missed ↦ missed
    ])
    ∙ elim (true_or_false (t (m c))) [
      | inl passed ↦ count_below-passed (m c) t passed ∙ ap suc rest ∙ sym (count_below-passed c (λ d. t (m d)) passed)
      | inr missed ↦ count_below-missed (m c) t missed ∙ rest ∙ sym (count_below-missed c (λ d. t (m d)) missed)
    ]

module _ (P : Problem) (ok : IsProblem P) (C : Certificate) (fits : Fits P.scalars P.complex C) (class_of : List ℕ) (numbers : AreClassNumbers P class_of)
    (leasts : List ℕ) (are : AreLeasts P class_of leasts) where
  -- the least cell of a cell's class is the one with its number
  pub least_is : (x : ℕ) → x < cell_count P → least_of P x ≡ slice_index leasts (slice_index class_of x)
  least_is x cell =
      let c = slice_index class_of x in
      let c_below = are.classes x cell in
      let l_cell = are.cells c c_below in
      let r = recurs-AreRecurrent P ok (slice_index leasts c) x ((numbers.same (slice_index leasts c) x l_cell cell).0 (are.class c c_below)) in
      let most = least-most P ok x (slice_index leasts c) r in
      let least_cell : least_of P x < cell_count P = omega (arith, most) in
      let one_class : slice_index class_of (least_of P x) ≡ c = (numbers.same (least_of P x) x least_cell cell).1
      (AreRecurrent-recurs P ok (least_of P x) x (least-recurrent P ok x)) in
      elim (cases_lt (least_of P x) (slice_index leasts c)) [
        | inl less ↦ absurd (are.least c (least_of P x) c_below less one_class)
        | inr same ↦ omega arith
      ]

  least_itself : (c : ℕ) → c < length leasts → least_of P (slice_index leasts c) ≡ slice_index leasts c
  least_itself c below = least_is (slice_index leasts c) (are.cells c below) ∙ ap (slice_index leasts) (are.class c below)

  leasts_up : (j k : ℕ) → j < k → k < length leasts → slice_index leasts j < slice_index leasts k
  leasts_up j k less below = elim (cases_lt (slice_index leasts j) (slice_index leasts k)) [
    | inl up ↦ up
    | inr down ↦
        let y = numbers.in_order (slice_index leasts k) j (are.cells k below) (omega (arith, are.class k below)) in
        absurd (are.least j y.0 (omega arith) (omega (arith, y.1)) y.2)
  ]

  -- whether a cell has another part than the least of class c
  pub class_test : (c y : ℕ) → c < length leasts → y < cell_count P →
      ((slice_index class_of y == c) && not (part_at P y == part_at P (slice_index leasts c))) ≡
      (recurs P (slice_index leasts c) y && not (part_at P y == part_at P (slice_index leasts c)))
  class_test c y below cell = ap (λ (b : Bool). b && not (part_at P y == part_at P (slice_index leasts c)))
      (same_tests (slice_index class_of y == c) (recurs P (slice_index leasts c) y)
      (λ h. (numbers.same (slice_index leasts c) y (are.cells c below) cell).0 (are.class c below ∙ sym (eqb-true _ _ h)))
      (λ h. eq-eqb _ _ (sym ((numbers.same (slice_index leasts c) y (are.cells c below) cell).1 h) ∙ are.class c below)))

  pub two_parts_is : (c : ℕ) → c < length leasts → any_below (cell_count P) (λ y. (slice_index class_of y == c) && not
      (part_at P y == part_at P (slice_index leasts c))) ≡ has_two_parts P (slice_index leasts c)
  two_parts_is c below = any_below-congr (cell_count P) _ _ (λ y cell. class_test c y below cell)

  -- the wanted classes before class c
  abbrev pub wanted_before : ℕ → ℕ
  wanted_before c = count_below c (λ d. is_wanted P C (slice_index leasts d))

  begins_at : (d : ℕ) → d < length leasts → sets.begins P ok C fits (slice_index leasts d) ≡ is_wanted P C (slice_index leasts d)
  begins_at d below = ap (λ (b : Bool). b && is_wanted P C (slice_index leasts d)) (eq-eqb _ _ (least_itself d below))

  count_congr : (n : ℕ) (s t : ℕ → Bool) → ((k : ℕ) → k < n → s k ≡ t k) → count_below n s ≡ count_below n t
  count_congr zero s t same = refl
  count_congr (suc n) s t same = elim (true_or_false (t n)) [
    | inl passed ↦ count_below-passed n s (same n (omega arith) ∙ passed) ∙ ap suc (count_congr n s t (λ k below. same k (omega arith)))
        ∙ sym (count_below-passed n t passed)
    | inr missed ↦ count_below-missed n s (same n (omega arith) ∙ missed) ∙ count_congr n s t (λ k below. same k (omega arith))
        ∙ sym (count_below-missed n t missed)
  ]

  counted_before : (c : ℕ) → c < length leasts → count_below (slice_index leasts c) (sets.begins P ok C fits) ≡ wanted_before c
  counted_before c below =
      count_below-through c (slice_index leasts) (sets.begins P ok C fits) (λ j k less most. leasts_up j k less (omega arith)) (λ y less begins.
      let y_cell : y < cell_count P = omega (arith, are.cells c below) in
      let parts = both (least_of P y == y) (is_wanted P C y) begins in
      let d = slice_index class_of y in
      let is : slice_index leasts d ≡ y = sym (least_is y y_cell) ∙ eqb-true _ _ parts.0 in
      elim (cases_lt d c) [
        | inl before ↦ (d, (before, is))
        | inr after ↦ elim (cases_eq d c) [
          | inl e ↦ absurd (omega (arith, is, ap (slice_index leasts) e))
          | inr ne ↦ absurd (omega (arith, is, leasts_up c d (omega arith) (are.classes y y_cell)))
        ]
      ])
      ∙ count_congr c _ _ (λ d d_below. begins_at d (omega arith))

  pub wanted_number : (c : ℕ) → c < length leasts → is_wanted P C (slice_index leasts c) ≡ true
      → wanted_place P C (slice_index leasts c) ≡ suc (wanted_before c)
  wanted_number c below wanted = sets.wanted-place P ok C fits (slice_index leasts c) wanted
      ∙ ap (λ (n : ℕ). suc (count_below n (sets.begins P ok C fits))) (least_itself c below) ∙ ap suc (counted_before c below)

  pub unwanted_number : (c : ℕ) → c < length leasts → is_wanted P C (slice_index leasts c) ≡ false → wanted_place P C (slice_index leasts c) ≡ 0
  unwanted_number c below unwanted = sets.unwanted-place P ok C fits (slice_index leasts c) unwanted

  -- whether class c is wanted, as it is read
  pub wanted_read : (c place : ℕ) → c < length leasts → place ≡ place_of C (slice_index leasts c)
      → is_wanted P C (slice_index leasts c) ≡ (has_two_parts P (slice_index leasts c) || not (place == 0))
  wanted_read c place below is = ap (λ (n : ℕ). has_two_parts P (slice_index leasts c) || not (place_of C n == 0)) (least_itself c below)
      ∙ ap (λ (n : ℕ). has_two_parts P (slice_index leasts c) || not (n == 0)) (sym is)

  -- a cell's wanted number is that of its class
  pub wanted_of_class : (x : ℕ) → x < cell_count P → wanted_place P C x ≡ wanted_place P C (slice_index leasts (slice_index class_of x))
  wanted_of_class x cell =
      let l = slice_index leasts (slice_index class_of x) in
      let r : AreRecurrent (StepOf (flow P)) x l = subst (AreRecurrent (StepOf (flow P)) x) (least_is x cell)
      (record { there = (least-recurrent P ok x).back; back = (least-recurrent P ok x).there }) in
      let same = sets.wanted-same P ok C fits x l r in
      elim (true_or_false (is_wanted P C x)) [
        | inl wanted ↦
            sets.wanted-place P ok C fits x wanted ∙ ap (λ (n : ℕ). suc (count_below n (sets.begins P ok C fits))) (least-same P ok x l r)
            ∙ sym (sets.wanted-place P ok C fits l (sym same ∙ wanted))
        | inr unwanted ↦ sets.unwanted-place P ok C fits x unwanted ∙ sym (sets.unwanted-place P ok C fits l (sym same ∙ unwanted))
      ]

-- the law of sets, cell by cell
module _ (P : Problem) (C : Certificate) where
  pub cell_differs : (x h w : ℕ) → x < cell_count P → h ≡ place_of C x → w ≡ wanted_place P C x → h ≢ w → ((y : ℕ) → y < x → place_of C y ≡ wanted_place P C y)
      →
      Some (record { law = 1; part = 0; row = x; column = 0; have = h; want = w }) ≡ first_place (sets_law P C)
  cell_differs x h w cell h_is w_is differ before =
      ap (λ (n : ℕ). Some (reason n w)) h_is ∙ ap (λ (n : ℕ). Some (reason (place_of C x) n)) w_is
      ∙ sym (first_place-row (sets_law P C) refl x 0 cell (omega arith) (not_from_false (place_of C x == wanted_place P C x)
      (ne_eqb _ _ (λ e. differ (h_is ∙ e ∙ sym w_is))))
      (λ r less c c_below. not_from_true (place_of C r == wanted_place P C r) (eq-eqb _ _ (before r less))) (λ c less. absurd (omega arith)))
    where
      reason : ℕ → ℕ → Reason
      reason n m = record { law = 1; part = 0; row = x; column = 0; have = n; want = m }

  pub cells_agree : ((x : ℕ) → x < cell_count P → place_of C x ≡ wanted_place P C x) → None ≡ first_place (sets_law P C)
  cells_agree all = sym (never_differ 1 false (cell_count P) 1 (λ x column. place_of C x) (λ x column. wanted_place P C x)
      (λ x column cell column_below. all x cell))

or_false : (b : Bool) → (b || false) ≡ b
or_false true = refl
or_false false = refl

-- which classes have two or more parts, as far as the first x cells tell
pub record TwoSoFar (part_of class_of leasts : List ℕ) (x : ℕ) (two : List Bool) : Type 0 where
  pub width : length two ≡ length leasts
  pub marks : (c : ℕ) → c < length leasts → slice_index_or two c false ≡ any_below x (λ y. (slice_index class_of y == c) && not
      (slice_index part_of y == slice_index part_of (slice_index leasts c)))

module _ (part_of class_of leasts : List ℕ) (x : ℕ) (two : List Bool) (is : TwoSoFar part_of class_of leasts x two) where
  abbrev differs : ℕ → ℕ → Bool
  differs c y = (slice_index class_of y == c) && not (slice_index part_of y == slice_index part_of (slice_index leasts c))

  next : (c : ℕ) → any_below (x + 1) (differs c) ≡ (any_below x (differs c) || differs c x)
  next c = (let e : x + 1 ≡ suc x = omega arith in ap (λ (n : ℕ). any_below n (differs c)) e)

  kept : (c : ℕ) → differs c x ≡ false → any_below (x + 1) (differs c) ≡ any_below x (differs c)
  kept c none = next c ∙ ap (λ b. any_below x (differs c) || b) none ∙ or_false (any_below x (differs c))

  pub two_more : slice_index class_of x < length leasts → slice_index part_of x ≢ slice_index part_of (slice_index leasts (slice_index class_of x))
      → TwoSoFar part_of class_of leasts (x + 1) (set two (slice_index class_of x) true)
  two_more within other = record {
    width = length-set two (slice_index class_of x) true ∙ is.width;
    marks = λ c below. elim (cases_eq c (slice_index class_of x)) [
      | inl here ↦
          let part_other : slice_index part_of x ≢ slice_index part_of (slice_index leasts c) =
          subst (λ n. slice_index part_of x ≢ slice_index part_of (slice_index leasts n)) (sym here) other in
          ap (λ (n : ℕ). slice_index_or (set two n true) c false) (sym here) ∙ get_or-set_same two c true false (omega (arith, is.width))
          ∙ sym (any_below-at (x + 1) (differs c) x (omega arith) (and_from (slice_index class_of x == c)
          (not (slice_index part_of x == slice_index part_of (slice_index leasts c))) (eq-eqb _ _ (sym here))
          (not_from_false (slice_index part_of x == slice_index part_of (slice_index leasts c)) (ne_eqb _ _ part_other))))
      | inr elsewhere ↦
          get_or-set_other two (slice_index class_of x) c true false elsewhere ∙ is.marks c below
          ∙ sym (kept c (and_left (slice_index class_of x == c) (not (slice_index part_of x == slice_index part_of (slice_index leasts c)))
          (ne_eqb _ _ (λ e. elsewhere (sym e)))))
    ];
  }

  pub two_same : slice_index part_of x ≡ slice_index part_of (slice_index leasts (slice_index class_of x)) → TwoSoFar part_of class_of leasts (x + 1) two
  two_same one = record {
    width = is.width;
    marks = λ c below. is.marks c below ∙ sym (kept c (elim (cases_eq (slice_index class_of x) c) [
      | inl here ↦ and_right (slice_index class_of x == c) (not (slice_index part_of x == slice_index part_of (slice_index leasts c)))
          (not_from_true (slice_index part_of x == slice_index part_of (slice_index leasts c))
          (eq-eqb _ _ (subst (λ n. slice_index part_of x ≡ slice_index part_of (slice_index leasts n)) here one)))
      | inr elsewhere ↦ and_left (slice_index class_of x == c) (not (slice_index part_of x == slice_index part_of (slice_index leasts c)))
          (ne_eqb _ _ elsewhere)
    ]));
  }

-- the wanted numbers of the first c classes
pub record WantedSoFar (P : Problem) (C : Certificate) (leasts : List ℕ) (c count : ℕ) (wanted : List ℕ) : Type 0 where
  pub counted : count ≡ count_below c (λ d. is_wanted P C (slice_index leasts d))
  pub width : length wanted ≡ c
  pub numbers : (d : ℕ) → d < c → slice_index wanted d ≡ wanted_place P C (slice_index leasts d)

module _ (P : Problem) (C : Certificate) (leasts : List ℕ) (c count : ℕ) (wanted : List ℕ) (is : WantedSoFar P C leasts c count wanted) where
  pushed : (number d : ℕ) → number ≡ wanted_place P C (slice_index leasts c) → d < c + 1 → slice_index (wanted ++ number ∷ []) d ≡ wanted_place P C
      (slice_index leasts d)
  pushed number d number_is below = elim (cases_eq d c) [
    | inl last ↦ ap (slice_index (wanted ++ number ∷ [])) (last ∙ sym is.width) ∙ get_or-append_seam wanted number [] 0 ∙ number_is
        ∙ ap (λ (k : ℕ). wanted_place P C (slice_index leasts k)) (sym last)
    | inr before ↦ get_or_append_left wanted (number ∷ []) 0 d (omega (arith, is.width)) ∙ is.numbers d (omega arith)
  ]

  one_longer : (number : ℕ) → length (wanted ++ number ∷ []) ≡ c + 1
  one_longer number = length-append wanted (number ∷ []) ∙ ap (λ (k : ℕ). k + 1) is.width

  next_count : count_below (c + 1) (λ d. is_wanted P C (slice_index leasts d)) ≡ count_below (suc c) (λ d. is_wanted P C (slice_index leasts d))
  next_count = (let e : c + 1 ≡ suc c = omega arith in ap (λ (n : ℕ). count_below n (λ d. is_wanted P C (slice_index leasts d))) e)

  pub wanted_more : is_wanted P C (slice_index leasts c) ≡ true → wanted_place P C (slice_index leasts c) ≡ suc
      (count_below c (λ d. is_wanted P C (slice_index leasts d))) → WantedSoFar P C leasts (c + 1) (count + 1) (wanted ++ (count + 1) ∷ [])
  wanted_more yes_wanted number = record {
    counted = omega (arith, is.counted, next_count, count_below-passed c (λ d. is_wanted P C (slice_index leasts d)) yes_wanted);
    width = one_longer (count + 1);
    numbers = λ d below. pushed (count + 1) d (omega (arith, is.counted, number)) below;
  }

  pub unwanted_more : is_wanted P C (slice_index leasts c) ≡ false → wanted_place P C (slice_index leasts c) ≡ 0
      → WantedSoFar P C leasts (c + 1) count (wanted ++ 0 ∷ [])
  unwanted_more unwanted number = record {
    counted = is.counted ∙ sym (next_count ∙ count_below-missed c (λ d. is_wanted P C (slice_index leasts d)) unwanted);
    width = one_longer 0;
    numbers = λ d below. pushed 0 d (sym number) below;
  }

pub two_done : (P : Problem) (ok : IsProblem P) (C : Certificate) (fits : Fits P.scalars P.complex C) (class_of : List ℕ)
    (numbers : AreClassNumbers P class_of) (leasts : List ℕ) (are : AreLeasts P class_of leasts) (x : ℕ) (two : List Bool) →
    TwoSoFar P.part_of class_of leasts x two → x ≡ cell_count P → (c : ℕ) → c < length leasts
    → slice_index_or two c false ≡ has_two_parts P (slice_index leasts c)
two_done P ok C fits class_of numbers leasts are x two is all c below =
    is.marks c below
    ∙ ap (λ (n : ℕ). any_below n (λ y. (slice_index class_of y == c) && not (part_at P y == part_at P (slice_index leasts c)))) all
    ∙ two_parts_is P ok C fits class_of numbers leasts are c below

-- the wanted number of a cell, as it is read of its class
pub want_read : (P : Problem) (ok : IsProblem P) (C : Certificate) (fits : Fits P.scalars P.complex C)
    (class_of : List ℕ) (numbers : AreClassNumbers P class_of) (leasts slice wanted : List ℕ) → AreLeasts P class_of leasts → slice ≡ leasts →
    length wanted ≡ length slice → ((c : ℕ) → c < length slice → slice_index wanted c ≡ wanted_place P C (slice_index slice c)) → (x want : ℕ)
    → x < cell_count P → want ≡ slice_index_or wanted (slice_index class_of x) want →
    want ≡ wanted_place P C x
want_read P ok C fits class_of numbers leasts slice wanted are slice_is width values x want cell read =
    let c = slice_index class_of x in
    let below : c < length slice = omega (arith, are.classes x cell, ap (λ (xs : List ℕ). length xs) slice_is) in
    read ∙ get_or_default wanted c want 0 (omega arith) ∙ values c below ∙ ap (λ (xs : List ℕ). wanted_place P C (slice_index xs c)) slice_is
    ∙ sym (wanted_of_class P ok C fits class_of numbers leasts are x cell)
