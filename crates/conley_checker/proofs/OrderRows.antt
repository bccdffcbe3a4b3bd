-- The law of the order, row by row.
use Rattle.std.proofs.Common.{◌≡◌, ◌≢◌, inl, inr, ℕ, ◌+◌, ◌<◌, ◌==◌, ◌&&◌, Bool, true, false, List, [], ◌∷◌, ◌++◌, length, take, set, get_or, ap, sym, ◌∙◌, arith, refl, subst, get_or-set_other, get_or-set_same, Some, None, All}
use Rattle.std.specs.Prelude.{◌↔◌, Contains, replicate, not, slice_index, slice_index_or}
use Rattle.std.proofs.lemmas.Bool.{false≢true, cases_eq, cases_lt, eq-eqb, ne_eqb, eqb-false, and_from, and_right, not_from_true, not_from_false}
use Rattle.std.proofs.lemmas.List.{take_all, take_more, length-replicate, get_or-replicate, get_or_past}
use Rattle.std.proofs.Math.ListN.{length-set}
use Rattle.std.proofs.lemmas.List.Elements.{All-contains, Contains-push, Contains-push_cases, Contains-append_left}
use Rattle.conley_lists.specs.Lists.{ListedStep, PutsUnder, IsMarked}
use Rattle.conley_lists.proofs.TestLemmas.{same_tests}
use Rattle.conley_order.specs.ClassRows.{word_bit}
use Rattle.conley_order.specs.LowerRows.{lower_by, AreLowerRows, IsLowerStill, IsCoverBy}
use Rattle.conley_order.proofs.LowerRowLemmas.{cover_bits}
use Rattle.conley_certificate.specs.declared.reason.Reason.{Reason}
use Rattle.conley_certificate.specs.Tests.{any_below}
use Rattle.conley_certificate.specs.Problem.{Problem}
use Rattle.conley_certificate_file.specs.Certificate.{Certificate}
use Rattle.conley_certificate.specs.Certificate.{set_count, first_cell}
use Rattle.conley_certificate.specs.Places.{first_place}
use Rattle.conley_certificate.specs.Reach.{reaches}
use Rattle.conley_certificate.specs.Values.{set_reaches, is_cover, is_listed_pair, number_of}
use Rattle.conley_certificate.specs.Laws.{order_law}
use Rattle.conley_checker.specs.Given.{IsReachTest, AreFirsts}
use Rattle.conley_checker.specs.Rows.{IsFineOrder, AreListed, set_lower}
use Rattle.conley_certificate.proofs.TestLemmas.{true_or_false, never, both, not-is_true, any_below-at, none-any_below}
use Rattle.conley_certificate.proofs.OrderLemmas.{listed-Contains, Contains-listed}
use Rattle.conley_certificate.proofs.PlaceLemmas.{first_place-row, never_differ}

module _ (P : Problem) (C : Certificate) where
  abbrev between : ℕ → ℕ → ℕ → Bool
  between p q r = (not (r == p) && not (r == q)) && (set_reaches P C p r && set_reaches P C r q)

  pub not_cover : (p q r : ℕ) → r < set_count C → r ≢ p → r ≢ q → set_reaches P C p r ≡ true → set_reaches P C r q ≡ true → false ≡ is_cover P C p q
  not_cover p q r below not_p not_q down further = sym (and_right (not (p == q) && set_reaches P C p q) (not (any_below (set_count C) (between p q)))
      (not_from_true (any_below (set_count C) (between p q))
      (any_below-at (set_count C) (between p q) r below (and_from (not (r == p) && not (r == q)) (set_reaches P C p r && set_reaches P C r q)
      (and_from (not (r == p)) (not (r == q)) (not_from_false (r == p) (ne_eqb r p not_p)) (not_from_false (r == q) (ne_eqb r q not_q)))
      (and_from (set_reaches P C p r) (set_reaches P C r q) down further)))))

  pub is_a_cover : (p q : ℕ) → p ≢ q → set_reaches P C p q ≡ true → ((r : ℕ) → r < set_count C → between p q r ≡ false) → true ≡ is_cover P C p q
  is_a_cover p q differ down none = sym (and_from (not (p == q) && set_reaches P C p q) (not (any_below (set_count C) (between p q)))
      (and_from (not (p == q)) (set_reaches P C p q) (not_from_false (p == q) (ne_eqb p q differ)) down)
      (not_from_false (any_below (set_count C) (between p q)) (none-any_below (set_count C) (between p q) none)))

  -- reach between sets, as it is read of their first cells
  pub read_reach : (count : ℕ) (is_below : ℕ → ℕ → Bool) (firsts : List ℕ) → IsReachTest P count is_below → AreFirsts P C firsts → (i j : ℕ) → i < set_count C
      → j < set_count C →
      is_below (slice_index firsts j) (slice_index firsts i) ≡ set_reaches P C i j
  read_reach count is_below firsts test are i j i_below j_below =
      test.same (slice_index firsts i) (slice_index firsts j) (are.cells i 0 (omega (arith, are.count))) (are.cells j 0 (omega (arith, are.count)))
      ∙ ap (λ (x : ℕ). reaches P x (slice_index firsts j)) (are.first i i_below) ∙ ap (λ (x : ℕ). reaches P (first_cell C i) x) (are.first j j_below)

  pub lower_read : (count : ℕ) (is_below : ℕ → ℕ → Bool) (firsts : List ℕ) → IsReachTest P count is_below → AreFirsts P C firsts → (p q : ℕ) → p < set_count C
      → q < set_count C → lower_by is_below firsts q p ≡ set_lower P C q p
  lower_read count is_below firsts test are p q p_below q_below = ap (λ (b : Bool). not (p == q) && b)
      (read_reach count is_below firsts test are p q p_below q_below)

  -- what is next below by rows is a cover
  cover_there : (p q : ℕ) → IsCoverBy (set_lower P C) (set_count C) p q → is_cover P C p q ≡ true
  cover_there p q c =
      let down = both (not (p == q)) (set_reaches P C p q) c.is in
      sym (is_a_cover p q (eqb-false p q (not-is_true (p == q) down.0)) down.1 (λ r below. elim (true_or_false (between p q r)) [
        | inr out ↦ out
        | inl found ↦
            let parts = both (not (r == p) && not (r == q)) (set_reaches P C p r && set_reaches P C r q) found in
            let apart = both (not (r == p)) (not (r == q)) parts.0 in
            let reach = both (set_reaches P C p r) (set_reaches P C r q) parts.1 in
            absurd (c.none r below
            (and_from (not (p == r)) (set_reaches P C p r) (not_from_false (p == r) (ne_eqb p r (λ e. eqb-false r p (not-is_true (r == p) apart.0) (sym e))))
            reach.0)
            (and_from (not (r == q)) (set_reaches P C r q) apart.1 reach.1))
      ]))

  cover_back : (p q : ℕ) → p < set_count C → q < set_count C → is_cover P C p q ≡ true → IsCoverBy (set_lower P C) (set_count C) p q
  cover_back p q p_below q_below cover = record {
    upper = p_below;
    lower = q_below;
    is = (both (not (p == q) && set_reaches P C p q) (not (any_below (set_count C) (between p q))) cover).0;
    none = λ r below upper lower.
        let up = both (not (p == r)) (set_reaches P C p r) upper in
        let down = both (not (r == q)) (set_reaches P C r q) lower in
        never (is_cover P C p q) cover (sym (not_cover p q r below (λ e. eqb-false p r (not-is_true (p == r) up.0) (sym e))
        (eqb-false r q (not-is_true (r == q) down.0)) up.1 down.1));
  }

  pub next_is : (lists : List (List ℕ)) (words : List ℕ) → AreLowerRows (set_lower P C) (set_count C) (set_count C) lists → (p q : ℕ) → p < set_count C
      → q < set_count C → IsLowerStill lists p words →
      (b : Bool) → ((b ≡ true) ↔ ((word_bit (slice_index_or lists p []) q ≡ 1) × (word_bit words q ≢ 1))) → b ≡ is_cover P C p q
  next_is lists words are p q p_below q_below still b is =
      let bits = cover_bits (set_lower P C) (set_count C) lists are p q words p_below q_below still in
      same_tests b (is_cover P C p q) (λ h. cover_there p q (bits.0 (is.0 h))) (λ h. is.1 (bits.1 (cover_back p q p_below q_below h)))

  -- the pairs under a set
  pub listed_is : (lists : List (List ℕ)) → AreListed C (length C.order) lists → (p q : ℕ) (b : Bool) → ((b ≡ true) ↔ ListedStep lists p q)
      → b ≡ is_listed_pair C p q
  listed_is lists are p q b is =
      let all : take (length C.order) C.order ≡ C.order = take_all (length C.order) C.order (omega arith) in
      same_tests b (is_listed_pair C p q)
      (λ h. Contains-listed C.order p q (subst (λ (xs : List (ℕ × ℕ)). Contains xs (p, q)) all ((are.steps p q).0 (is.0 h))))
      (λ h. is.1 ((are.steps p q).1 (subst (λ (xs : List (ℕ × ℕ)). Contains xs (p, q)) (sym all) (listed-Contains C.order p q h))))

  -- what a mark and a bit tell of a pair
  pub row_tells : (lists rows : List (List ℕ)) → AreListed C (length C.order) lists → AreLowerRows (set_lower P C) (set_count C) (set_count C) rows → (p q : ℕ)
      → p < set_count C → q < set_count C → (list row words : List ℕ) (marks : List Bool) (b : Bool) →
      slice_index_or lists p [] ≡ list → slice_index_or rows p [] ≡ row → IsMarked marks q ↔ Contains list q → IsLowerStill rows p words → (b ≡ true)
      ↔ ((word_bit row q ≡ 1) × (word_bit words q ≢ 1)) →
      (slice_index_or marks q false ≡ is_listed_pair C p q) × (b ≡ is_cover P C p q)
  row_tells lists rows listed lower p q p_below q_below list row words marks b list_is row_is marked still next = (
    listed_is lists listed p q (slice_index_or marks q false) (subst (λ (xs : List ℕ). IsMarked marks q ↔ Contains xs q) (sym list_is) marked),
    next_is rows words lower p q p_below q_below still b (subst (λ (xs : List ℕ). (b ≡ true) ↔ ((word_bit xs q ≡ 1) × (word_bit words q ≢ 1))) (sym row_is)
        next),
  )

  pub order_fine : ((p : ℕ) → p < set_count C → IsFineOrder P C p) → None ≡ first_place (order_law P C)
  order_fine all = sym (never_differ 2 false (set_count C) (set_count C) (λ p q. number_of (is_listed_pair C p q)) (λ p q. number_of (is_cover P C p q))
      (λ p q p_below q_below. ap number_of (all p p_below q q_below)))

  number_differ : (a b : Bool) → (a ≡ b → ⊥) → number_of a ≢ number_of b
  number_differ true true h e = h refl
  number_differ true false h e = omega (arith, e)
  number_differ false true h e = omega (arith, e)
  number_differ false false h e = h refl

  pub pair_differs : (p q : ℕ) (a b : Bool) → p < set_count C → q < set_count C → a ≡ is_listed_pair C p q → b ≡ is_cover P C p q → (a ≡ b → ⊥)
      → ((r : ℕ) → r < p → IsFineOrder P C r) → ((s : ℕ) → s < q → is_listed_pair C p s ≡ is_cover P C p s) →
      Some (record { law = 2; part = 0; row = p; column = q; have = number_of a; want = number_of b }) ≡ first_place (order_law P C)
  pair_differs p q a b p_below q_below a_is b_is differ before left =
      ap (λ (x : Bool). Some (reason (number_of x) (number_of b))) a_is ∙ ap (λ (x : Bool). Some (reason (number_of (is_listed_pair C p q)) (number_of x))) b_is
      ∙ sym (first_place-row (order_law P C) refl p q p_below q_below (not_from_false (number_of (is_listed_pair C p q) == number_of (is_cover P C p q))
      (ne_eqb _ _ (number_differ _ _ (λ e. differ (a_is ∙ e ∙ sym b_is)))))
      (λ r less c c_below. not_from_true (number_of (is_listed_pair C r c) == number_of (is_cover P C r c))
      (eq-eqb _ _ (ap number_of (before r less c c_below))))
      (λ c less. not_from_true (number_of (is_listed_pair C p c) == number_of (is_cover P C p c)) (eq-eqb _ _ (ap number_of (left c less)))))
    where
      reason : ℕ → ℕ → Reason
      reason h w = record { law = 2; part = 0; row = p; column = q; have = h; want = w }

-- pairs put under their upper sets, one after another
pub none_listed : (C : Certificate) (lists : List (List ℕ)) → length lists ≡ set_count C → ((p : ℕ) → slice_index_or lists p [] ≡ []) → AreListed C 0 lists
none_listed C lists count empty = record {
  count = count;
  steps = λ p q. ((λ c. absurd (let d = subst (λ (xs : List ℕ). Contains xs q) (empty p) c in omega (arith, d.1))), (λ c. absurd (omega (arith, c.1))));
}

pub listed_more : (C : Certificate) (k : ℕ) (old new : List (List ℕ)) (pair : ℕ × ℕ) → AreListed C k old → k < length C.order → pair ≡ get_or C.order k (0, 0)
    → PutsUnder old new pair.0 pair.1 → AreListed C (k + 1) new
listed_more C k old new pair are below read puts =
    let more : take (k + 1) C.order ≡ take k C.order ++ pair ∷ [] = take_more C.order k (0, 0) below
    ∙ ap (λ (e : ℕ × ℕ). take k C.order ++ e ∷ []) (sym read) in
    record {
      count = puts.count ∙ are.count;
      steps = λ p q. (
        (λ c. subst (λ (xs : List (ℕ × ℕ)). Contains xs (p, q)) (sym more) (elim ((puts.steps p q).0 c) [
          | inl before ↦ Contains-append_left (take k C.order) (pair ∷ []) (p, q) ((are.steps p q).0 before)
          | inr here ↦ subst (λ (e : ℕ × ℕ). Contains (take k C.order ++ pair ∷ []) e) (ap (λ (a : ℕ). (a, pair.1)) (sym here.0)
              ∙ ap (λ (b : ℕ). (p, b)) (sym here.1)) (Contains-push (take k C.order) pair)
        ])),
        (λ c. elim (Contains-push_cases (take k C.order) pair (p, q) (subst (λ (xs : List (ℕ × ℕ)). Contains xs (p, q)) more c)) [
          | inl before ↦ (puts.steps p q).1 (inl ((are.steps p q).1 before))
          | inr same ↦ (puts.steps p q).1 (inr (sym (ap (λ (e : ℕ × ℕ). e.0) same), sym (ap (λ (e : ℕ × ℕ). e.1) same)))
        ]),
      );
    }

-- the first k numbers of a list are marked
pub record AreMarks (width : ℕ) (list : List ℕ) (k : ℕ) (marks : List Bool) : Type 0 where
  pub count : length marks ≡ width
  pub same : (q : ℕ) → IsMarked marks q ↔ Contains (take k list) q

pub none_marked : (width : ℕ) (list : List ℕ) → AreMarks width list 0 (replicate width false)
none_marked width list = record {
  count = length-replicate width false;
  same = λ q. ((λ m. absurd (unmarked q m)), (λ c. absurd (omega (arith, c.1))));
} where
  unmarked : (q : ℕ) → IsMarked (replicate width false) q → ⊥
  unmarked q m = elim (cases_lt q width) [
    | inl below ↦ false≢true (sym (get_or-replicate width q false false below) ∙ m)
    | inr past ↦ false≢true (sym (get_or_past (replicate width false) q false (omega (arith, past, length-replicate width false))) ∙ m)
  ]

pub marked_more : (width : ℕ) (list : List ℕ) (k : ℕ) (marks : List Bool) (x : ℕ) → AreMarks width list k marks → k < length list → x ≡ get_or list k 0
    → x < width → AreMarks width list (k + 1) (set marks x true)
marked_more width list k marks x are below read within =
    let more : take (k + 1) list ≡ take k list ++ x ∷ [] = take_more list k 0 below ∙ ap (λ (y : ℕ). take k list ++ y ∷ []) (sym read) in
    record {
      count = length-set marks x true ∙ are.count;
      same = λ q. (
        (λ m. subst (λ (xs : List ℕ). Contains xs q) (sym more) (elim (cases_eq q x) [
          | inl same ↦ subst (Contains (take k list ++ x ∷ [])) (sym same) (Contains-push (take k list) x)
          | inr differ ↦ Contains-append_left (take k list) (x ∷ []) q ((are.same q).0 (sym (get_or-set_other marks x q true false differ) ∙ m))
        ])),
        (λ c. elim (cases_eq q x) [
          | inl same ↦ subst (λ n. get_or (set marks x true) n false ≡ true) (sym same) (get_or-set_same marks x true false (omega (arith, within, are.count)))
          | inr differ ↦ get_or-set_other marks x q true false differ ∙ (are.same q).1 (elim
              (Contains-push_cases (take k list) x q (subst (λ (xs : List ℕ). Contains xs q) more c)) [
                | inl before ↦ before
                | inr same ↦ absurd (differ (sym same))
              ])
        ]),
      );
    }

-- a set under another is one of them
pub listed_below : (C : Certificate) (lists : List (List ℕ)) → AreListed C (length C.order) lists
    → All (λ pair. (pair.0 < set_count C) × (pair.1 < set_count C)) C.order → (p q : ℕ) → ListedStep lists p q → q < set_count C
listed_below C lists are sets p q step =
    let all : take (length C.order) C.order ≡ C.order = take_all (length C.order) C.order (omega arith) in
    (All-contains (λ (pair : ℕ × ℕ). (pair.0 < set_count C) × (pair.1 < set_count C)) C.order (p, q) sets
    (subst (λ (xs : List (ℕ × ℕ)). Contains xs (p, q)) all ((are.steps p q).0 step))).1
