-- From the refusals of the complex and of parts to all refusals.
use Rattle.std.proofs.Common.{◌≡◌, ◌<◌, ◌≤◌, ◌+◌, ℕ, true, false, List, [], ◌∷◌, length, Option, Some, None, inl, inr, refl, sym, ◌∙◌, subst, arith}
use Rattle.std.specs.Prelude.{◌≢◌, IfSome, IfNone}
use Rattle.std.proofs.lemmas.Bool.{cases_lt, cases_order, false≢true}
use Rattle.conley_field.specs.Arithmetic.{Arithmetic}
use Rattle.conley_first.specs.First.{Precedes, StandsBefore, IsFirst}
use Rattle.conley_first.proofs.FirstLemmas.{clear-next, first-next}
use Rattle.conley_mvf.specs.Fault as parts
use Rattle.conley_mvf.specs.declared.error.PartError.{PartError}
use Rattle.conley_mvf.specs.declared.error.PartError.TheVariants as part
use Rattle.conley_input.specs.Errors.{part_error}
use Rattle.conley_input.specs.File.{File, Complex, lefschetz, simplicial, cubical}
use Rattle.conley_input.specs.Listing.{scalars_of, labels_of}
use Rattle.conley_input.specs.RefusalOrder.{number, place}
use Rattle.conley_input.specs.Refusals.{Fails, FailsIn, FailsAsParts, IsBadName, IsFirstIn, IsFirstRefusal, IsClear}
use Rattle.conley_input.specs.declared.error.FileFault.{FileFault}
use Rattle.conley_input.specs.declared.error.FileFault.TheVariants.{NotJson, BadLabel, DuplicateLabel, BadIncidence, BadSimplex, BadAxes, BadCube, TooManyCells, NotBoundary, UnknownCell, RepeatedCell, EmptyPart, NotLocallyClosed}
use Rattle.conley_input.specs.declared.error.InputError.TheVariants.{Bad}

-- ---- places

-- a number in the place of another
pub moved : (n m n' m' : ℕ) (a b : List ℕ) → (n < m → n' < m') → (n ≡ m → n' ≡ m') → Precedes (n ∷ a) (m ∷ b) → Precedes (n' ∷ a) (m' ∷ b)
moved n m n' m' a b less same (inl lt) = inl (less lt)
moved n m n' m' a b less same (inr e) = inr (same e.0, e.1)

-- what stands behind equal numbers, and behind a greater one
pub behind : (n : ℕ) (a b : List ℕ) → Precedes (n ∷ a) (n ∷ b) → Precedes a b
behind n a b (inl lt) = absurd (omega (arith, lt))
behind n a b (inr e) = e.1

pub no_greater : (n m : ℕ) (a b : List ℕ) → Precedes (n ∷ a) (m ∷ b) → n ≤ m
no_greater n m a b (inl lt) = omega (arith, lt)
no_greater n m a b (inr e) = omega (arith, e.0)

-- ---- refusals that are told as those of a library

module _ {Error : Type 0} (rank : Error → ℕ) (at : Error → List ℕ) (Holds : Error → Type 0) (Told : FileFault → Type 0) (told : Error → FileFault)
    (onto : (fault : FileFault) → Told fault → (error : Error) × (told error ≡ fault) × Holds error) (back : (error : Error) → Holds error → Told (told error))
    (kept : (a b : Error) → Holds a → Holds b → StandsBefore number place (told a) (told b) → StandsBefore rank at a b) where
  -- the first error is told as the first refusal
  pub first_told : (error : Error) → IsFirst rank at Holds error → IsFirst number place Told (told error)
  first_told error f = record {
    holds = back error f.holds;
    first = λ other before t.
        let e = onto other t in
        f.first e.0 (kept e.0 error e.2 f.holds (subst (λ (o : FileFault). StandsBefore number place o (told error)) (sym' e.1) before)) e.2;
  }
    where
      sym' : {a b : FileFault} → a ≡ b → b ≡ a
      sym' e = cc

  pub none_told : ((error : Error) → ¬ Holds error) → (fault : FileFault) → ¬ Told fault
  none_told none fault t = let e = onto fault t in none e.0 e.2

-- ---- the complex

-- its refusals have the numbers from 5 to 9
numbered : (F : Arithmetic) (listed : Complex) (fault : FileFault) → FailsIn F listed fault → (4 < number fault) × (number fault < 10)
numbered F (lefschetz cells incidences) (BadLabel k) f = (omega arith, omega arith)
numbered F (lefschetz cells incidences) (DuplicateLabel i j) f = (omega arith, omega arith)
numbered F (lefschetz cells incidences) (BadIncidence k why) f = (omega arith, omega arith)
numbered F (lefschetz cells incidences) (NotBoundary x z) f = (omega arith, omega arith)
numbered F (lefschetz cells incidences) fault f = absurd f
numbered F (simplicial vertices simplices) (BadLabel k) f = (omega arith, omega arith)
numbered F (simplicial vertices simplices) (DuplicateLabel i j) f = (omega arith, omega arith)
numbered F (simplicial vertices simplices) (BadSimplex k) f = (omega arith, omega arith)
numbered F (simplicial vertices simplices) (TooManyCells least) f = (omega arith, omega arith)
numbered F (simplicial vertices simplices) fault f = absurd f
numbered F (cubical axes cubes) (BadAxes told) f = (omega arith, omega arith)
numbered F (cubical axes cubes) (BadCube k) f = (omega arith, omega arith)
numbered F (cubical axes cubes) (TooManyCells least) f = (omega arith, omega arith)
numbered F (cubical axes cubes) fault f = absurd f

-- a label of the complex has a place among those of the complex
label_within : (F : Arithmetic) (listed : Complex) (k : ℕ) → FailsIn F listed (BadLabel k) → k < length (labels_of listed)
label_within F (lefschetz cells incidences) k f = f.0
label_within F (simplicial vertices simplices) k f = f.0
label_within F (cubical axes cubes) k f = absurd f

module _ (file : File) where
  fails_of : (fault : FileFault) → FailsIn (scalars_of file) file.complex fault → Fails file fault
  fails_of (BadLabel k) f = inl f
  fails_of (DuplicateLabel i j) f = f
  fails_of (BadIncidence k why) f = f
  fails_of (BadSimplex k) f = f
  fails_of (BadAxes axes) f = f
  fails_of (BadCube k) f = f
  fails_of (TooManyCells least) f = f
  fails_of (NotBoundary x z) f = f
  fails_of fault f = absurd (omega (arith, (numbered (scalars_of file) file.complex fault f).0, (numbered (scalars_of file) file.complex fault f).1))

  -- behind labels and names
  fails_in : (fault : FileFault) → 5 < number fault → number fault < 10 → Fails file fault → FailsIn (scalars_of file) file.complex fault
  fails_in (DuplicateLabel i j) low high f = f
  fails_in (BadIncidence k why) low high f = f
  fails_in (BadSimplex k) low high f = f
  fails_in (BadAxes axes) low high f = f
  fails_in (BadCube k) low high f = f
  fails_in (TooManyCells least) low high f = f
  fails_in (NotBoundary x z) low high f = f
  fails_in fault low high f = absurd (omega (arith, low, high))

  of_label : (Q : List ℕ → Type 0) → ((k : ℕ) → Q (k ∷ []) → ¬ Fails file (BadLabel k)) → (other : FileFault) → number other ≡ 5 → Q (place other)
      → ¬ Fails file other
  of_label Q none (BadLabel k) e q = none k q
  of_label Q none other e q = absurd (omega arith)

  module _ (clear : IsClear file 5) where
    clear_labels : ((k : ℕ) → ¬ Fails file (BadLabel k)) → IsClear file 6
    clear_labels none = clear-next number place (Fails file) 5 clear (λ other e. of_label (λ _. Unit {0}) (λ k _. none k) other e tt)

    first_bad : (k : ℕ) → Fails file (BadLabel k) → ((j : ℕ) → j < k → ¬ Fails file (BadLabel j)) → IsFirstRefusal file (BadLabel k)
    first_bad k fails before = first-next number place (Fails file) 5 clear (BadLabel k) refl fails
        (of_label (λ a. Precedes a (k ∷ [])) (λ j p. elim p [ inl less ↦ before j less | inr both ↦ absurd both.1 ]))

    -- a complex without a refusal, and names that keep the rule, refuse nothing before the parts
    pub clear_complex : ((fault : FileFault) → ¬ FailsIn (scalars_of file) file.complex fault) → ((k : ℕ) → ¬ IsBadName file k) → IsClear file 10
    clear_complex none names =
        let labels = clear_labels (λ k f. elim f [ inl g ↦ none (BadLabel k) g | inr n ↦ names k n ]) in
        record {
          none = λ fault lt f. elim (cases_lt (number fault) 6) [
            | inl below ↦ labels.none fault below f
            | inr above ↦ none fault
                (fails_in fault (omega (arith, above)) lt f)
          ];
        }

    -- the first bad name, where no label of the complex is bad
    pub first_name : (k : ℕ) → IsBadName file k → ((j : ℕ) → j < k → ¬ IsBadName file j) → ((j : ℕ) → ¬ FailsIn (scalars_of file) file.complex (BadLabel j))
        → IsFirstRefusal file (BadLabel k)
    first_name k bad before none = first_bad k (inr bad) (λ j less f. elim f [ inl g ↦ none j g | inr n ↦ before j less n ])

    -- a label of the complex stands before the names
    first_label : (fault : FileFault) → number fault ≡ 5 → IsFirstIn (scalars_of file) file.complex fault → IsFirstRefusal file fault
    first_label (BadLabel k) e f = first_bad k (inl f.holds) before
      where
        before : (j : ℕ) → j < k → ¬ Fails file (BadLabel j)
        before j less (inl g) = f.first (BadLabel j) (inr (refl, inl less)) g
        before j less (inr n) = omega (arith, less, n.1, label_within (scalars_of file) file.complex k f.holds)
    first_label fault e f = absurd (omega (arith, e))

    -- another refusal of the complex stands behind the names
    first_later : (fault : FileFault) → 5 < number fault → ((k : ℕ) → ¬ IsBadName file k) → IsFirstIn (scalars_of file) file.complex fault
        → IsFirstRefusal file fault
    first_later fault low names f =
        let none : (j : ℕ) → ¬ FailsIn (scalars_of file) file.complex (BadLabel j) = λ j g. f.first (BadLabel j) (inl low) g in
        let labels = clear_labels (λ k h. elim h [ inl g ↦ none k g | inr n ↦ names k n ]) in
        record {
          holds = fails_of fault f.holds;
          first = λ other before h.
              let high = (numbered (scalars_of file) file.complex fault f.holds).1 in
              let le = no_greater (number other) (number fault) (place other) (place fault) before in
              elim (cases_lt (number other) 6) [
                | inl below ↦ labels.none other below h
                | inr above ↦ f.first other before
                    (fails_in other (omega (arith, above)) (omega (arith, high, le)) h)
              ];
        }

    -- of a refusal of the complex and a bad name the one that stands first
    pub first_complex : (fault told : FileFault) (name : Option ℕ) → IsFirstIn (scalars_of file) file.complex fault
        → IfSome name (λ k. IsBadName file k) → IfSome name (λ k. (j : ℕ) → j < k → ¬ IsBadName file j) → IfNone name ((j : ℕ) → ¬ IsBadName file j)
        → (number fault ≡ 5 → told ≡ fault) → (number fault ≢ 5 → IfSome name (λ k. told ≡ BadLabel k)) → IfNone name (told ≡ fault) → IsFirstRefusal file told
    first_complex fault told name f bad before none label named other =
        elim (cases_order (number fault) 5) [
          | inl e ↦ subst (IsFirstRefusal file) (sym (label e)) (first_label fault e f)
          | inr apart ↦ elim apart [
            | inl less ↦ absurd (omega (arith, less, (numbered (scalars_of file) file.complex fault f.holds).0))
            | inr more ↦ later more
                name bad before none (named (λ e. omega (arith, e, more))) other
          ]
        ]
      where
        later : 5 < number fault → (name : Option ℕ) → IfSome name (λ k. IsBadName file k) → IfSome name (λ k. (j : ℕ) → j < k → ¬ IsBadName file j)
            → IfNone name ((j : ℕ) → ¬ IsBadName file j)
            → IfSome name (λ k. told ≡ BadLabel k) → IfNone name (told ≡ fault) → IsFirstRefusal file told
        later more (Some k) bad before none named other = subst (IsFirstRefusal file) (sym named)
            (first_name k bad before (λ j g. f.first (BadLabel j) (inl more) g))
        later more None bad before none named other = subst (IsFirstRefusal file) (sym other) (first_later fault more none f)

-- ---- the parts

module _ (file : File) where
  of_unknown : (Q : List ℕ → Type 0) → ((l p : ℕ) → Q (l ∷ p ∷ []) → ¬ Fails file (UnknownCell l p)) → (other : FileFault) → number other ≡ 10
      → Q (place other) → ¬ Fails file other
  of_unknown Q none (UnknownCell l p) e q = none l p q
  of_unknown Q none other e q = absurd (omega arith)

  pub clear_unknown : IsClear file 10 → ((l p : ℕ) → ¬ Fails file (UnknownCell l p)) → IsClear file 11
  clear_unknown before none = clear-next number place (Fails file) 10 before (λ other e. of_unknown (λ _. Unit {0}) (λ l p _. none l p) other e tt)

  pub first_unknown : IsClear file 10 → (l' p' : ℕ) → Fails file (UnknownCell l' p') → ((l p : ℕ) → Precedes (l ∷ p ∷ []) (l' ∷ p' ∷ [])
      → ¬ Fails file (UnknownCell l p)) → IsFirstRefusal file (UnknownCell l' p')
  first_unknown before l' p' fails none = first-next number place (Fails file) 10 before (UnknownCell l' p') refl fails
      (of_unknown (λ a. Precedes a (l' ∷ p' ∷ [])) none)

-- what is refused is no want of memory
pub part_not_memory : (error : PartError) (fault : FileFault) → part_error error ≡ Bad fault → error ≡ part.NoMemory → ⊥
part_not_memory (part.Unknown l p) fault e same = cc
part_not_memory (part.Repeated l p) fault e same = cc
part_not_memory (part.EmptyPart k) fault e same = cc
part_not_memory (part.Gap k x y z) fault e same = cc
part_not_memory part.NoMemory fault e same = cc

-- of a field that is given whole
module _ (file : File) (clear : IsClear file 11) (whole : file.field.is_hull ≡ false) where
  -- parts without a fault refuse nothing
  pub parts_accepted : ((error : PartError) → ¬ FailsAsParts file error) → (fault : FileFault) → ¬ Fails file fault
  parts_accepted none (RepeatedCell l p) = λ f. none (part.Repeated l p) f.1
  parts_accepted none (EmptyPart k) = none (part.EmptyPart k)
  parts_accepted none (NotLocallyClosed k x y z) = λ f. none (part.Gap k x y z) f.1
  parts_accepted none NotJson = clear.none NotJson (omega arith)
  parts_accepted none fault = clear.none fault (omega arith)

  -- what stands before a fault of parts, with the number that it has here and there
  module _ (m m' : ℕ) (b : List ℕ) (shift : m ≡ m' + 9) (low : 11 ≤ m) (none : (error : PartError) → Precedes (parts.number error ∷ parts.place error) (m' ∷ b)
      → ¬ FailsAsParts file error) where
    no_part_before : (other : FileFault) → Precedes (number other ∷ place other) (m ∷ b) → ¬ Fails file other
    no_part_before (RepeatedCell l q) p = λ f. none (part.Repeated l q) (moved 11 m 2 m' (l ∷ q ∷ []) b (λ h. omega (arith, shift, h))
        (λ h. omega (arith, shift, h)) p) f.1
    no_part_before (EmptyPart k) p = none (part.EmptyPart k) (moved 12 m 3 m' (k ∷ []) b (λ h. omega (arith, shift, h)) (λ h. omega (arith, shift, h)) p)
    no_part_before (NotLocallyClosed k x y z) p = λ f. none (part.Gap k x y z) (moved 13 m 4 m' (k ∷ x ∷ y ∷ z ∷ []) b (λ h. omega (arith, shift, h))
        (λ h. omega (arith, shift, h)) p) f.1
    no_part_before NotJson p = clear.none NotJson (omega arith)
    no_part_before other p = clear.none other (omega arith)

  -- the first fault of parts whose cells are known is the first refusal
  pub first_parts : ((l p : ℕ) → ¬ FailsAsParts file (part.Unknown l p)) → (error : PartError) → IsFirst parts.number parts.place (FailsAsParts file) error
      → (fault : FileFault) → part_error error ≡ Bad fault → IsFirstRefusal file fault
  first_parts known (part.Unknown l p) first fault e = absurd (known l p first.holds)
  first_parts known (part.Repeated l p) first fault e =
      let same : RepeatedCell l p ≡ fault = cc in
      subst (IsFirstRefusal file) same (record { holds = (whole, first.holds); first = no_part_before 11 2 (l ∷ p ∷ []) refl (omega arith) first.first })
  first_parts known (part.EmptyPart k) first fault e =
      let same : EmptyPart k ≡ fault = cc in
      subst (IsFirstRefusal file) same (record { holds = first.holds; first = no_part_before 12 3 (k ∷ []) refl (omega arith) first.first })
  first_parts known (part.Gap k x y z) first fault e =
      let same : NotLocallyClosed k x y z ≡ fault = cc in
      subst (IsFirstRefusal file) same (record {
        holds = (whole, first.holds);
        first = no_part_before 13 4 (k ∷ x ∷ y ∷ z ∷ []) refl (omega arith)
            first.first;
      })
  first_parts known part.NoMemory first fault e = absurd (no_memory first.holds)
    where
      no_memory : ¬ FailsAsParts file part.NoMemory
      no_memory f = f.2

-- of a hull
module _ (file : File) (clear : IsClear file 11) (hull : file.field.is_hull ≡ true) where
  not_whole : file.field.is_hull ≡ false → ⊥
  not_whole e = false≢true (sym e ∙ hull)

  -- parts that have cells refuse nothing
  pub hull_accepted : ((k : ℕ) → ¬ FailsAsParts file (part.EmptyPart k)) → (fault : FileFault) → ¬ Fails file fault
  hull_accepted none (RepeatedCell l p) = λ f. not_whole f.0
  hull_accepted none (EmptyPart k) = none k
  hull_accepted none (NotLocallyClosed k x y z) = λ f. not_whole f.0
  hull_accepted none NotJson = clear.none NotJson (omega arith)
  hull_accepted none fault = clear.none fault (omega arith)

  of_repeated : (other : FileFault) → number other ≡ 11 → ¬ Fails file other
  of_repeated (RepeatedCell l p) e f = not_whole f.0
  of_repeated other e f = absurd (omega (arith, e))

  of_empty : (Q : List ℕ → Type 0) → ((k : ℕ) → Q (k ∷ []) → ¬ Fails file (EmptyPart k)) → (other : FileFault) → number other ≡ 12 → Q (place other)
      → ¬ Fails file other
  of_empty Q none (EmptyPart k) e q = none k q
  of_empty Q none other e q = absurd (omega arith)

  -- the first part without cells is the first refusal
  pub first_empty : (k : ℕ) → FailsAsParts file (part.EmptyPart k) → ((j : ℕ) → j < k → ¬ FailsAsParts file (part.EmptyPart j))
      → IsFirstRefusal file (EmptyPart k)
  first_empty k fails before = first-next number place (Fails file) 12 (clear-next number place (Fails file) 11 clear of_repeated) (EmptyPart k) refl fails
      (of_empty (λ a. Precedes a (k ∷ [])) (λ j p. elim p [ inl less ↦ before j less | inr both ↦ absurd both.1 ]))
