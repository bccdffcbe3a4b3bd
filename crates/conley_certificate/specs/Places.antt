-- Laws that compare two values at each place of a matrix, and the first place where one fails.
--     Law                      two values and a test at each place, and how the places are gone through
--     equal_law n c r k have want   law n of r rows and k columns, gone through by columns where c: the two values are equal
--     entry_law n p r k es test     law n, part p, by columns: entries stand only where the test passes
--     Keeps law                the law fails at no place
--     or_next a b              a where it is there, else b
--     first_below n f          the first of f 0, f 1, .. that is there
--     reason_at law r c        the reason where the law fails at this place
--     first_place law          the reason at the first place where the law fails
--     first_failing laws       that of the first law that fails
use Rattle.std.specs.Prelude.{◌≡◌, ◌<◌, ℕ, zero, suc, Bool, true, false, ◌==◌, ◌&&◌, not, if◌then◌else◌, Option, Some, None, List, [], ◌∷◌}
use Rattle.conley_certificate.specs.declared.reason.Reason.{Reason}

-- the first that is there
abbrev pub or_next : {A : Type 0} → Option A → Option A → Option A
or_next None next = next
or_next (Some a) next = Some a

abbrev pub first_below : {A : Type 0} → ℕ → (ℕ → Option A) → Option A
first_below zero f = None
first_below (suc n) f = or_next (first_below n f) (f n)

-- at each place two values, and whether the law fails there; the places are gone through by columns, or by rows
pub record Law : Type 0 where
  pub number : ℕ
  pub part : ℕ
  pub rows : ℕ
  pub columns : ℕ
  pub by_columns : Bool
  pub have : ℕ → ℕ → ℕ
  pub want : ℕ → ℕ → ℕ
  pub fails : ℕ → ℕ → Bool

abbrev pub reason_at : Law → ℕ → ℕ → Option Reason
reason_at law row column = if law.fails row column
    then Some (record { law = law.number; part = law.part; row = row; column = column; have = law.have row column; want = law.want row column })
    else None

unfoldable pub first_place : Law → Option Reason
first_place law = if law.by_columns
    then first_below law.columns (λ column. first_below law.rows (λ row. reason_at law row column))
    else first_below law.rows (λ row. first_below law.columns (λ column. reason_at law row column))

abbrev pub first_failing : List Law → Option Reason
first_failing [] = None
first_failing (law ∷ laws) = or_next (first_place law) (first_failing laws)

-- the law fails at no place
abbrev pub Keeps : Law → Type 0
Keeps law = (row column : ℕ) → row < law.rows → column < law.columns → law.fails row column ≡ false

-- a law that two values are equal, which fails where they differ
abbrev pub equal_law : ℕ → Bool → ℕ → ℕ → (ℕ → ℕ → ℕ) → (ℕ → ℕ → ℕ) → Law
equal_law number by_columns rows columns have want = record {
  number = number;
  part = 0;
  rows = rows;
  columns = columns;
  by_columns = by_columns;
  have = have;
  want = want;
  fails = λ row column. not (have row column == want row column);
}

-- a law that a matrix has an entry only where a test passes, by columns
abbrev pub entry_law : ℕ → ℕ → ℕ → ℕ → (ℕ → ℕ → ℕ) → (ℕ → ℕ → Bool) → Law
entry_law number part rows columns entries test = record {
  number = number;
  part = part;
  rows = rows;
  columns = columns;
  by_columns = true;
  have = entries;
  want = λ row column. 0;
  fails = λ row column. not (entries row column == 0) && not (test row column);
}
