-- At most one refusal is the first, none is where a problem is read, and at most one problem is read.
use Rattle.std.proofs.Common.{◌≡◌, inl, inr, ◌+◌, ◌<◌, ◌≤◌, ℕ, zero, suc, Bool, true, false, List, [], ◌∷◌, Result, Ok, Err, map, length, refl, sym, ◌∙◌, ap, subst, arith}
use Rattle.std.specs.Prelude.{◌==◌, if◌then◌else◌, slice_index}
use Rattle.std.proofs.lemmas.Bool.{cases_order}
use Rattle.std.proofs.lemmas.Grind.{same_number_lists}
use Rattle.conley_first.proofs.FirstLemmas.{first-one}
use Rattle.conley_field.specs.Arithmetic.{IsField}
use Rattle.conley_field.specs.Prime.{is_prime_order, residues}
use Rattle.conley_field.specs.ResidueLaws.{residues-IsField}
use Rattle.conley_lefschetz.specs.Complex.{Layout, IsLayout}
use Rattle.conley_lists.proofs.AscendingLemmas.{copy_once}
use Rattle.conley_mvf.specs.Partition.{IsWhole, IsPartition}
use Rattle.conley_hull.proofs.OnceLemmas.{one_hull}
use Rattle.conley_input.specs.File.{File}
use Rattle.conley_input.specs.Limits.{most_cells, most_listed, most_sets, most_dimension, most_bytes}
use Rattle.conley_input.specs.Listing.{cells_in}
use Rattle.conley_input.specs.RefusalOrder.{number, place}
use Rattle.conley_input.specs.Refusals.{Fails, PassesLimit}
use Rattle.conley_input.proofs.CellLemmas.{complex_once}
use Rattle.conley_input.specs.Problem.{NamedSet, Problem, ArePartsFor, AreNamedSets, ReadsForm, RefusesForm, Reads, Refuses, IsSound, form_of}
use Rattle.conley_input.specs.declared.error.FileFault.{FileFault}
use Rattle.conley_input.specs.declared.error.FileFault.TheVariants.{NotJson, BadShape, UnknownField, TooMany, BadLabel, DuplicateLabel, BadIncidence, BadSimplex, BadAxes, BadCube, TooManyCells, NotBoundary, UnknownCell, RepeatedCell, EmptyPart, NotLocallyClosed}

-- what a limit keeps
abbrev least_of : ℕ → ℕ
least_of limit = if limit == 1 then most_cells + 1 else (if limit == 2 then most_listed + 1 else
    (if limit == 3 then most_sets + 1 else (if limit == 4 then most_dimension + 1 else most_bytes + 1)))

limit_told : (file : File) (limit least : ℕ) → PassesLimit file limit least → least ≡ least_of limit
limit_told file limit least (inl r) = r.1 ∙ sym (ap least_of r.0)
limit_told file limit least (inr (inl r)) = r.1 ∙ sym (ap least_of r.0)
limit_told file limit least (inr (inr (inl r))) = r.1 ∙ sym (ap least_of r.0)
limit_told file limit least (inr (inr (inr (inl r)))) = r.1 ∙ sym (ap least_of r.0)
limit_told file limit least (inr (inr (inr (inr r)))) = r.1 ∙ sym (ap least_of r.0)

-- places of different kinds differ
other_kind : (n m k l : ℕ) → ◌≡◌ {A = List ℕ} (n ∷ k ∷ []) (m ∷ l ∷ []) → (n ≡ m → ⊥) → ⊥
other_kind n m k l e ne = ne (cc)

-- the number and the place of a refusal that fails tell the rest of it
pub told : (file : File) (a b : FileFault) → Fails file a → Fails file b → number a ≡ number b → place a ≡ place b → a ≡ b
told file NotJson b fa fb n p = absurd fa
told file (BadShape m) b fa fb n p = absurd fa
told file (UnknownField o) (UnknownField o') fa fb n p = ap (λ i. UnknownField i) (sym fa.0 ∙ fb.0)
told file (TooMany l m) (TooMany l' m') fa fb n p =
    let e : l ≡ l' = cc in
    let e' : m ≡ m' = limit_told file l m fa ∙ ap least_of e ∙ sym (limit_told file l' m' fb) in
    cc
told file (BadLabel k) (BadLabel k') fa fb n p = cc
told file (DuplicateLabel i j) (DuplicateLabel i' j') fa fb n p = cc
told file (BadIncidence k w) (BadIncidence k' w') fa fb n p = cc
told file (BadSimplex k) (BadSimplex k') fa fb n p = cc
told file (BadSimplex k) (BadAxes k') fa fb n p = absurd (other_kind 1 2 k k' p (omega arith))
told file (BadSimplex k) (BadCube k') fa fb n p = absurd (other_kind 1 3 k k' p (omega arith))
told file (BadSimplex k) (TooManyCells k') fa fb n p = absurd (other_kind 1 4 k k' p (omega arith))
told file (BadAxes k) (BadSimplex k') fa fb n p = absurd (other_kind 2 1 k k' p (omega arith))
told file (BadAxes k) (BadAxes k') fa fb n p = cc
told file (BadAxes k) (BadCube k') fa fb n p = absurd (other_kind 2 3 k k' p (omega arith))
told file (BadAxes k) (TooManyCells k') fa fb n p = absurd (other_kind 2 4 k k' p (omega arith))
told file (BadCube k) (BadSimplex k') fa fb n p = absurd (other_kind 3 1 k k' p (omega arith))
told file (BadCube k) (BadAxes k') fa fb n p = absurd (other_kind 3 2 k k' p (omega arith))
told file (BadCube k) (BadCube k') fa fb n p = cc
told file (BadCube k) (TooManyCells k') fa fb n p = absurd (other_kind 3 4 k k' p (omega arith))
told file (TooManyCells k) (BadSimplex k') fa fb n p = absurd (other_kind 4 1 k k' p (omega arith))
told file (TooManyCells k) (BadAxes k') fa fb n p = absurd (other_kind 4 2 k k' p (omega arith))
told file (TooManyCells k) (BadCube k') fa fb n p = absurd (other_kind 4 3 k k' p (omega arith))
told file (TooManyCells k) (TooManyCells k') fa fb n p = cc
told file (NotBoundary x z) (NotBoundary x' z') fa fb n p = cc
told file (UnknownCell l q) (UnknownCell l' q') fa fb n p = cc
told file (RepeatedCell l q) (RepeatedCell l' q') fa fb n p = cc
told file (EmptyPart k) (EmptyPart k') fa fb n p = cc
told file (NotLocallyClosed k x y z) (NotLocallyClosed k' x' y' z') fa fb n p = cc
told file a b fa fb n p = absurd (omega (arith, n))

once : (form : Result File FileFault) (a b : FileFault) → RefusesForm form a → RefusesForm form b → a ≡ b
once (Err r) a b e f = sym e ∙ f
once (Ok file) a b f g = first-one number place (Fails file) (told file) a b f g

pub refused_once : (bytes : List ℕ) (a b : FileFault) → Refuses bytes a → Refuses bytes b → a ≡ b
refused_once bytes a b ra rb = once (form_of bytes) a b ra rb

not_both : (form : Result File FileFault) (a : FileFault) (problem : Problem) → RefusesForm form a → ReadsForm form problem → ⊥
not_both (Err r) a problem f reads = absurd reads
not_both (Ok file) a problem f reads = reads.accepted a f.holds

pub not_refused_and_read : (bytes : List ℕ) (a : FileFault) (problem : Problem) → Refuses bytes a → Reads bytes problem → ⊥
not_refused_and_read bytes a problem refuses reads = not_both (form_of bytes) a problem refuses reads

-- ---- at most one problem is read

-- the numbers of two partitions into the same lists agree, cell by cell
module _ (lists : List (List ℕ)) (p q : List ℕ) (cells : length p ≡ length q) (p_whole : IsWhole lists p) (q_whole : IsWhole lists q)
    (p_numbers : IsPartition p) (q_numbers : IsPartition q) where
  numbers_at : (n : ℕ) → n < length p → ((x : ℕ) → x < n → slice_index p x ≡ slice_index q x) → slice_index p n ≡ slice_index q n
  numbers_at n lt before = elim (cases_order (slice_index p n) (slice_index q n)) [
    | inl e ↦ e
    | inr other ↦ elim other [
      | inl less ↦
          let w = q_numbers.in_order n (slice_index p n) (omega (arith, cells)) less in
          let shared = (p_whole w.0 n (omega (arith, w.1)) lt).0 (before w.0 w.1 ∙ w.2) in
          sym w.2 ∙ (q_whole w.0 n (omega (arith, w.1, cells)) (omega (arith, cells))).1 shared
      | inr more ↦
          let w = p_numbers.in_order n (slice_index q n) lt more in
          let shared = (q_whole w.0 n (omega (arith, w.1, cells)) (omega (arith, cells))).0 (sym (before w.0 w.1) ∙ w.2) in
          sym ((p_whole w.0 n (omega (arith, w.1)) lt).1 shared) ∙ w.2
    ]
  ]

  numbers_below : (n : ℕ) → n ≤ length p → (x : ℕ) → x < n → slice_index p x ≡ slice_index q x
  numbers_below zero le x lt = absurd (omega arith)
  numbers_below (suc n) le x lt = elim (cases_order x n) [
    | inl e ↦ subst (λ i. slice_index p i ≡ slice_index q i) (sym e) (numbers_at n (omega arith) (numbers_below n (omega arith)))
    | inr other ↦ elim other [ inl less ↦ numbers_below n (omega arith) x less | inr more ↦ absurd (omega arith) ]
  ]

  parts_once : p ≡ q
  parts_once = same_number_lists p q cells (λ k lt. numbers_below (length p) (omega arith) k lt)

-- the parts of a field of one kind
parts_for_once : (hull : Bool) (faces lists : List (List ℕ)) (p q : List ℕ) → length p ≡ length q → IsPartition p → IsPartition q
    → ArePartsFor hull faces lists p → ArePartsFor hull faces lists q → p ≡ q
parts_for_once false faces lists p q cells pp pq a b = parts_once lists p q cells a b pp pq
parts_for_once true faces lists p q cells pp pq a b = one_hull faces lists p q pp pq a b

-- sets with equal names and equal cells
abbrev names_of : List NamedSet → List (List ℕ)
names_of sets = map (λ (set : NamedSet). set.name) sets

abbrev lists_of : List NamedSet → List (List ℕ)
lists_of sets = map (λ (set : NamedSet). set.cells) sets

-- a set, by its name and its cells
set_of : List ℕ → List ℕ → NamedSet
set_of name cells = record { name = name; cells = cells }

set_once : (x y : NamedSet) → x.name ≡ y.name → x.cells ≡ y.cells → x ≡ y
unfolding set_of
set_once x y name cells = let same : set_of x.name x.cells ≡ set_of y.name y.cells = cc in same

named_once : (a b : List NamedSet) → names_of a ≡ names_of b → lists_of a ≡ lists_of b → a ≡ b
named_once [] [] e f = refl
named_once [] (y ∷ b) e f = absurd (omega (arith, ap length e))
named_once (x ∷ a) [] e f = absurd (omega (arith, ap length e))
named_once (x ∷ a) (y ∷ b) e f =
    let names : x.name ∷ names_of a ≡ y.name ∷ names_of b = e in
    let lists : x.cells ∷ lists_of a ≡ y.cells ∷ lists_of b = f in
    let name : x.name ≡ y.name = cc in
    let cells : x.cells ≡ y.cells = cc in
    let rest : a ≡ b = named_once a b (cc) (cc) in
    let first : x ≡ y = set_once x y name cells in
    cc

sets_once : (file : File) (layout : Layout) (a b : List NamedSet) → AreNamedSets file layout a → AreNamedSets file layout b → a ≡ b
sets_once file layout a b is is' = named_once a b (is.names ∙ sym is'.names) (copy_once (cells_in layout.labels file.sets.lists) (lists_of a) (lists_of b)
    is.labels is'.labels)

-- problems with equal order, complex, parts and sets are equal
problem_of : ℕ → Layout → List ℕ → List NamedSet → Problem
problem_of order complex part_of sets = record { order = order; complex = complex; part_of = part_of; sets = sets }

pub same_problem : (p q : Problem) → p.order ≡ q.order → p.complex ≡ q.complex → p.part_of ≡ q.part_of → p.sets ≡ q.sets → p ≡ q
unfolding problem_of
same_problem p q order complex part_of sets = let same : problem_of p.order p.complex p.part_of p.sets ≡ problem_of q.order q.complex q.part_of q.sets = cc in
    same

listed_once : (form : Result File FileFault) (p q : Problem) → ReadsForm form p → ReadsForm form q → p ≡ q
listed_once (Err r) p q a b = absurd a
listed_once (Ok file) p q a b =
    let same : p.complex ≡ q.complex = complex_once file p.complex q.complex a.stands.complex b.stands.complex in
    let cells : length p.part_of ≡ length q.part_of = a.stands.field.count ∙ ap (λ (c : Layout). length c.faces) same ∙ sym b.stands.field.count in
    let parts = subst (λ (c : Layout). ArePartsFor file.field.is_hull c.faces (cells_in c.labels file.field.parts) p.part_of) same a.stands.parts in
    let sets = subst (λ (c : Layout). AreNamedSets file c p.sets) same a.stands.sets in
    same_problem p q
    (a.stands.order ∙ sym b.stands.order)
    same
    (parts_for_once file.field.is_hull q.complex.faces (cells_in q.complex.labels file.field.parts) p.part_of q.part_of cells a.stands.numbering
    b.stands.numbering parts b.stands.parts)
    (sets_once file q.complex p.sets q.sets sets b.stands.sets)

pub read_once : (bytes : List ℕ) (p q : Problem) → Reads bytes p → Reads bytes q → p ≡ q
read_once bytes p q a b = listed_once (form_of bytes) p q a b

-- ---- what holds of a problem that is read

listed_sound : (form : Result File FileFault) (p : Problem) → ReadsForm form p → IsSound p
listed_sound (Err r) p a = absurd a
listed_sound (Ok file) p a = record {
  laws = subst (λ order. IsLayout (residues order) p.complex) (sym a.stands.order) a.stands.complex.laws;
  field = a.stands.field;
  partition = a.stands.numbering;
  sets = a.stands.sets.cells;
}

pub read_sound : (bytes : List ℕ) (p : Problem) → Reads bytes p → IsSound p
read_sound bytes p a = listed_sound (form_of bytes) p a

-- an order that isn't refused is one of the table
in_table : (order : ℕ) (b : Bool) → is_prime_order order ≡ b → ¬ (b ≡ false) → IsField (residues order)
in_table order true e ne = residues-IsField order e
in_table order false e ne = absurd (ne refl)

listed_prime : (form : Result File FileFault) (p : Problem) → ReadsForm form p → IsField (residues p.order)
listed_prime (Err r) p a = absurd a
listed_prime (Ok file) p a =
    let field = in_table file.scalars (is_prime_order file.scalars) refl (λ e. a.accepted (UnknownField file.scalars) (refl, e)) in
    subst (λ order. IsField (residues order)) (sym a.stands.order) field

pub read_prime : (bytes : List ℕ) (p : Problem) → Reads bytes p → IsField (residues p.order)
read_prime bytes p a = listed_prime (form_of bytes) p a
