-- Rows joined from the rows of heads, and reach of all nodes by these.
use Rattle.std.proofs.Common.{◌≡◌, ◌⊎◌, inl, inr, ◌+◌, ◌/◌, ◌%◌, ◌<◌, ◌≤◌, ℕ, true, List, [], ◌∷◌, ◌++◌, Vec, Global, length, get_or, set, sym, ap, ◌∙◌, subst, arith, get_or-set_other, get_or-set_same}
use Rattle.std.specs.Prelude.{◌==◌, ◌↔◌, Contains, slice_index, slice_index_or}
use Rattle.std.specs.Int.{bit_at}
use Rattle.std.proofs.Math.ListN.{length-set, replicate, length-replicate}
use Rattle.std.proofs.lemmas.Nat.Bits.{bit_at-zero}
use Rattle.std.proofs.lemmas.Bool.{cases_eq, cases_lt, eqb-true, eq-eqb}
use Rattle.std.proofs.lemmas.List.{get_or_default, get_or_past, get_or-replicate}
use Rattle.std.proofs.lemmas.List.Elements.{Contains-get_or, Contains-push_cases}
use Rattle.conley_walk.specs.Walk.{Reaches}
use Rattle.conley_lists.specs.Lists.{items_of, ListedStep, IsDigraph}
use Rattle.conley_lists.specs.Gathered.{AreGathered}
use Rattle.conley_walk.proofs.WalkLemmas.{reaches_itself, reaches_on, reaches_by_step, reaches_least}
use Rattle.conley_lists.proofs.ListLemmas.{Contains-none, row_of, length-items_of}
use Rattle.conley_order.specs.ClassRows.{AreClassRows, word_bit, is_at_or_below}
use Rattle.conley_digraph.specs.Classes.{AreClasses}
use Rattle.conley_digraph.specs.Closing.{AreClosing}
use Rattle.conley_digraph.specs.Numbering.{IsRenumbered}
use Rattle.conley_digraph.specs.Rows.{IsClosingOrder, IsRowOf, HaveRows, IsRowSoFar, JoinsHeads, AreRowsSoFar, AreRowsOf}

-- a head of a node, as it is read
pub head_step : (steps : List (Vec ℕ Global)) (x : ℕ) (row : Vec ℕ Global) (items : List ℕ) (i : ℕ) → x < length steps → row ≡ get_or steps x row
    → items ≡ row.items → i < length items → ListedStep (items_of steps) x (slice_index items i)
head_step steps x row items i lx is same li = subst (λ l. Contains l (slice_index items i)) (same ∙ sym (row_of steps x row lx is))
    (Contains-get_or items i 0 li)

-- the row of a class, as it is read
pub read_row : (lists : List (List ℕ)) (class_of : List ℕ) (rows : List (Vec ℕ Global)) (y : ℕ) (row : Vec ℕ Global) (words : List ℕ)
    → slice_index class_of y < length rows → row ≡ get_or rows (slice_index class_of y) row → words ≡ row.items →
    IsRowOf lists class_of (length (items_of rows)) y (slice_index_or (items_of rows) (slice_index class_of y) [])
    → IsRowOf lists class_of (length rows) y words
read_row lists class_of rows y row words within is same given =
    subst (λ n. IsRowOf lists class_of n y words) (length-items_of rows)
    (subst (IsRowOf lists class_of (length (items_of rows)) y) (row_of rows (slice_index class_of y) row within is ∙ sym same) given)

-- the class of a head whose bit isn't set has its row
pub head_row : (lists : List (List ℕ)) (class_of : List ℕ) (rows : List (Vec ℕ Global)) (x y : ℕ) (so_far : List ℕ) (row : Vec ℕ Global) (words : List ℕ)
    → HaveRows lists class_of (items_of rows) x → IsRowSoFar lists class_of (length rows) (slice_index class_of x) so_far →
    ListedStep lists x y → (word_bit so_far (slice_index class_of y) ≡ 1 → ⊥) → slice_index class_of y < length rows
    → row ≡ get_or rows (slice_index class_of y) row → words ≡ row.items → IsRowOf lists class_of (length rows) y words
head_row lists class_of rows x y so_far row words have s step unset within is same = elim (have y step) [
  | inl inside ↦ absurd (unset (ap (word_bit so_far) inside ∙ s.own))
  | inr given ↦ read_row lists class_of rows y row words within is same given
]

-- nothing is joined yet, and one head more
pub joins_none : (old class_of : List ℕ) → JoinsHeads old old class_of []
joins_none old class_of = record { kept = λ b h. h; joined = λ y c. Contains-none y c }

pub joins_more : (old mid new class_of heads : List ℕ) (y : ℕ) → JoinsHeads old mid class_of heads → ((b : ℕ) → word_bit mid b ≡ 1 → word_bit new b ≡ 1)
    → word_bit new (slice_index class_of y) ≡ 1 → JoinsHeads old new class_of (heads ++ y ∷ [])
joins_more old mid new class_of heads y so_far kept has = record {
  kept = λ b h. kept b (so_far.kept b h);
  joined = λ z c. elim (Contains-push_cases heads y z c) [
    | inl d ↦ kept (slice_index class_of z) (so_far.joined z d)
    | inr
        e ↦ subst (λ q. word_bit new (slice_index class_of q) ≡ 1) e has
  ];
}

-- a row without bits
pub none_set : (n b : ℕ) → word_bit (replicate n 0) b ≡ 0
none_set n b = ap (λ w. bit_at w (b % 64)) word ∙ bit_at-zero (b % 64)
  where
    word : slice_index (replicate n 0) (b / 64) ≡ 0
    word = elim (cases_lt (b / 64) n) [
      | inl lt ↦ get_or-replicate n (b / 64) 0 0 lt
      | inr past ↦ get_or_past (replicate n 0) (b / 64) 0
          (rw length-replicate past)
    ]

-- a row with the bit of its class alone
pub row_start : (lists : List (List ℕ)) (class_of : List ℕ) (count class : ℕ) (old new : List ℕ) → AreClasses lists class_of
    → old ≡ replicate (count / 64 + 1) 0 → length new ≡ length old → word_bit new class ≡ 1 →
    ((b : ℕ) → (b ≡ class) ⊎ (word_bit new b ≡ word_bit old b)) → IsRowSoFar lists class_of count class new
row_start lists class_of count class old new classes empty same_width own kept = record {
  width = same_width ∙ ap length empty ∙ length-replicate (count / 64 + 1) 0;
  own = own;
  sound = λ x y lx ly e h. ((classes.same x y lx ly).0 (e ∙ sym (alone (slice_index class_of y) h))).there;
  full = λ y z ly lz ne h. absurd (ne (alone (slice_index class_of y) h));
}
  where
    alone : (b : ℕ) → word_bit new b ≡ 1 → b ≡ class
    alone b h = elim (kept b) [ inl e ↦ e | inr is ↦ absurd (omega (arith, h, is, ap (λ row. word_bit row b) empty, none_set (count / 64 + 1) b)) ]

-- the row of a head's class is joined
module _ (lists : List (List ℕ)) (class_of : List ℕ) (count x : ℕ) (digraph : IsDigraph lists) (classes : AreClasses lists class_of) (lx : x < length lists)
    (row : List ℕ) (s : IsRowSoFar lists class_of count (slice_index class_of x) row) (y : ℕ) (step : ListedStep lists x y) where
  pub row_joined : (other row' : List ℕ) → IsRowOf lists class_of count y other → length row' ≡ length row →
      ((b : ℕ) → (word_bit row' b ≡ 1) ↔ ((word_bit row b ≡ 1) ⊎ (word_bit other b ≡ 1))) → IsRowSoFar lists class_of count (slice_index class_of x) row'
  row_joined other row' is same_width joins = record {
    width = same_width ∙ s.width;
    own = (joins (slice_index class_of x)).1 (inl s.own);
    sound = λ a z la lz e h. elim ((joins (slice_index class_of z)).0 h) [
      | inl old ↦ s.sound a z la lz e old
      | inr new ↦
          let to_x = ((classes.same a x la lx).0 e).there in
          reaches_on to_x (reaches_on (reaches_by_step {Step = ListedStep lists} {x = x} {y = y} step) ((is.bits z lz).0 new))
    ];
    full = λ a z la lz ne h r. (joins (slice_index class_of z)).1 (elim ((joins (slice_index class_of a)).0 h) [
      | inl old ↦ inl (s.full a z la lz ne old r)
      | inr new ↦ inr ((is.bits z lz).1 (reaches_on ((is.bits a la).0 new) r))
    ]);
  }

  -- its own bit is among those
  pub own_bit : (other : List ℕ) → IsRowOf lists class_of count y other → word_bit other (slice_index class_of y) ≡ 1
  own_bit other is = (is.bits y (digraph x y step)).1 (reaches_itself y)

-- all heads of all members are joined
module _ (lists : List (List ℕ)) (class_of : List ℕ) (count class : ℕ) (row : List ℕ) (digraph : IsDigraph lists)
    (s : IsRowSoFar lists class_of count class row)
    (heads : (x y : ℕ) → x < length lists → slice_index class_of x ≡ class → ListedStep lists x y → word_bit row (slice_index class_of y) ≡ 1) where
  -- so the bits are kept by steps
  set_on : (a b : ℕ) → ListedStep lists a b → (a < length lists) × (word_bit row (slice_index class_of a) ≡ 1) → (b < length lists)
      × (word_bit row (slice_index class_of b) ≡ 1)
  set_on a b step h =
      let lb = digraph a b step in (
        lb,
        elim (cases_eq (slice_index class_of a) class) [
          | inl inside ↦ heads a b h.0 inside step
          | inr ne ↦ s.full a b h.0 lb ne h.1 (reaches_by_step {Step = ListedStep lists} {x = a} {y = b} step)
        ],
      )

  pub row_done : (x : ℕ) → x < length lists → slice_index class_of x ≡ class → IsRowOf lists class_of count x row
  row_done x lx e = record {
    width = s.width;
    bits = λ y ly. (
      s.sound x y lx ly e,
      (λ r. (reaches_least {Step = ListedStep lists} {x = x} {y = y} (λ q. (q < length lists) × (word_bit row (slice_index class_of q) ≡ 1)) set_on r
          (lx, subst (λ c. word_bit row c ≡ 1) (sym e) s.own)).1),
    );
  }

-- the row of one class more
module _ (lists : List (List ℕ)) (class_of order : List ℕ) (n : ℕ) (rows : List (List ℕ)) (so_far : AreRowsSoFar lists class_of order n rows) where
  pub rows_more : (row : List ℕ) → slice_index class_of (slice_index order n) < length rows →
      ((x : ℕ) → x < length lists → slice_index class_of x ≡ slice_index class_of (slice_index order n) → IsRowOf lists class_of (length rows) x row) →
      AreRowsSoFar lists class_of order (n + 1) (set rows (slice_index class_of (slice_index order n)) row)
  rows_more row within is k x lk lx e =
      let class = slice_index class_of (slice_index order n) in
      subst (λ c. IsRowOf lists class_of c x (slice_index_or (set rows class row) (slice_index class_of x) [])) (sym (length-set rows class row))
      (elim (cases_eq (slice_index class_of x) class) [
        | inl here ↦
            let at : slice_index_or (set rows class row) (slice_index class_of x) [] ≡ row = ap (λ c. slice_index_or (set rows class row) c []) here
            ∙ get_or-set_same rows class row [] within in
            subst (IsRowOf lists class_of (length rows) x) (sym at) (is x lx here)
        | inr other ↦
            let at : slice_index_or (set rows class row) (slice_index class_of x) [] ≡ slice_index_or rows (slice_index class_of x) [] =
            get_or-set_other rows class (slice_index class_of x) row [] other in
            let less : k < n = elim (cases_eq k n) [
              | inl same ↦ absurd (other (e ∙ ap (λ i. slice_index class_of (slice_index order i)) same))
              | inr
                  ne ↦ omega arith
            ] in
            subst (IsRowOf lists class_of (length rows) x) (sym at) (so_far k x less lx e)
      ])

  -- the next class steps into those before it
  pub have_rows : IsClosingOrder lists class_of order → IsDigraph lists → n < length order → (x : ℕ) → x < length lists
      → slice_index class_of x ≡ slice_index class_of (slice_index order n) → HaveRows lists class_of rows x
  have_rows closing digraph ln x lx e y step = elim (closing.steps n x y ln lx e step) [
    | inl same ↦ inl same
    | inr before ↦ inr (so_far before.0 y before.1 (digraph x y step) before.2)
  ]

-- the members of a class, as they are read
pub members_of : (class_of : List ℕ) (lists : List (Vec ℕ Global)) (n class : ℕ) (row : Vec ℕ Global) (items : List ℕ)
    → AreGathered class_of (length class_of) (items_of lists) → length class_of ≡ n → class < length lists → row ≡ get_or lists class row → items ≡ row.items →
    (x : ℕ) → Contains items x ↔ ((x < n) × (slice_index class_of x ≡ class))
members_of class_of lists n class row items gathered count within is same x =
    let list = row_of lists class row within is ∙ sym same in
    let g = subst (λ l. Contains l x ↔ ((x < length class_of) × (slice_index class_of x ≡ class))) list (gathered.same class x) in
    ((λ c. let w = g.0 c in (omega (arith, w.0, count), w.1)), (λ w. g.1 (omega (arith, w.0, count), w.1)))

-- all classes have their rows
pub all_rows : (lists : List (List ℕ)) (class_of order : List ℕ) (n : ℕ) (rows members : List (List ℕ)) → AreRowsSoFar lists class_of order n rows
    → length order ≤ n → IsClosingOrder lists class_of order →
    AreGathered class_of (length class_of) members → length class_of ≡ length lists → length rows ≡ length members → AreRowsOf lists class_of rows
all_rows lists class_of order n rows members so_far le closing gathered count height = record {
  below = λ x lx. omega (arith, gathered.below x (omega (arith, lx, count)), height);
  used = λ c lc. let w = gathered.used c (omega (arith, lc, height)) in (w.0, omega (arith, w.1, count), w.2);
  row = λ x lx. let w = closing.all x lx in so_far w.0 x (omega (arith, w.1, le)) lx w.2;
}

-- classes in the order in which they were closed
pub closing_order : (lists : List (List ℕ)) (numbers roots class_of : List ℕ) → IsDigraph lists → AreClosing lists numbers roots
    → IsRenumbered numbers class_of (length numbers) → IsClosingOrder lists class_of roots
closing_order lists numbers roots class_of digraph closing renumbered = record {
  nodes = λ k lk. (closing.root k lk).0;
  all = λ x lx. (slice_index numbers x, closing.below x lx, of_root x lx);
  steps = λ k x y lk lx e step.
      let ly = digraph x y step in
      let r = closing.root k lk in
      let number : slice_index numbers x ≡ k = (apart x (slice_index roots k) lx r.0).0 e ∙ r.1 in
      elim (cases_eq (slice_index numbers y) (slice_index numbers x)) [
        | inl same ↦ inl ((apart y x ly lx).1 same)
        | inr ne ↦ inr (slice_index numbers y, omega (arith, closing.steps x y step, ne, number), of_root y ly)
      ];
}
  where
    apart : (x y : ℕ) → x < length lists → y < length lists → (slice_index class_of x ≡ slice_index class_of y)
        ↔ (slice_index numbers x ≡ slice_index numbers y)
    apart x y lx ly = renumbered.same x y (omega (arith, closing.count)) (omega (arith, closing.count))

    of_root : (x : ℕ) → x < length lists → slice_index class_of x ≡ slice_index class_of (slice_index roots (slice_index numbers x))
    of_root x lx = let r = closing.root (slice_index numbers x) (closing.below x lx) in (apart x (slice_index roots (slice_index numbers x)) lx r.0).1 (sym r.1)

-- a test of a bit
bit_test : (words : List ℕ) (b : ℕ) (P : Type 0) → (word_bit words b ≡ 1) ↔ P → (word_bit words b == 1 ≡ true) ↔ P
bit_test words b P bit = ((λ t. bit.0 (eqb-true (word_bit words b) 1 t)), (λ p. eq-eqb (word_bit words b) 1 (bit.1 p)))

-- the rows of all classes
module _ (lists : List (List ℕ)) (class_of : List ℕ) (rows : List (List ℕ)) (classes : AreClasses lists class_of) (given : AreRowsOf lists class_of rows) where
  pub class_reach : (a b : ℕ) → a < length lists → b < length lists → (is_at_or_below (record { class_of = class_of; rows = rows }) a b ≡ true)
      ↔ Reaches (ListedStep lists) b a
  class_reach a b la lb = bit_test (slice_index_or rows (slice_index class_of b) []) (slice_index class_of a) (Reaches (ListedStep lists) b a)
      ((given.row b lb).bits a la)

  -- the same of classes, by a node of each
  of_classes : (c d : ℕ) (lc : c < length rows) (ld : d < length rows) → (word_bit (slice_index_or rows c []) d == 1 ≡ true)
      ↔ Reaches (ListedStep lists) (given.used c lc).0 (given.used d ld).0
  of_classes c d lc ld =
      let x = given.used c lc in
      let y = given.used d ld in
      subst (λ i. (word_bit (slice_index_or rows i []) d == 1 ≡ true) ↔ Reaches (ListedStep lists) x.0 y.0) x.2
      (subst (λ j. (word_bit (slice_index_or rows (slice_index class_of x.0) []) j == 1 ≡ true) ↔ Reaches (ListedStep lists) x.0 y.0) y.2
      (class_reach y.0 x.0 y.1 x.1))

  pub class_rows : AreClassRows (record { class_of = class_of; rows = rows })
  class_rows = record {
    classes = λ k d lt. omega (arith, get_or_default class_of k d 0 lt, given.below k (omega (arith, classes.count)));
    width = λ c d lt.
        let x = given.used c lt in
        let row : slice_index_or rows c d ≡ slice_index_or rows (slice_index class_of x.0) [] = get_or_default rows c d [] lt
        ∙ ap (λ i. slice_index_or rows i []) (sym x.2) in
        omega (arith, ap length row, (given.row x.0 x.1).width);
    order = record {
      reflexive = λ a la. (of_classes a a la la).1 (reaches_itself (given.used a la).0);
      transitive = λ a b c la lb lc ab bc. (of_classes c a lc la).1 (reaches_on ((of_classes c b lc lb).0 bc) ((of_classes b a lb la).0 ab));
    };
  }
