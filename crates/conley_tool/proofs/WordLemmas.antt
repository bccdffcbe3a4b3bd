-- The number that a word says, looked for from one number on, and that the argument of `trial` says one.
use Rattle.std.proofs.Common.{get_or, ◌≡◌, ◌+◌, ◌-◌, ◌<◌, ◌≤◌, ℕ, suc, Bool, true, false, List, [], ◌∷◌, Option, Some, None, refl, sym, ◌∙◌, ap, arith}
use Rattle.std.specs.Prelude.{find, is_some, bytes_eq, decimal}
use Rattle.std.proofs.lemmas.Bool.{false≢true}
use Rattle.std.specs.List.{range_with_len}
use Rattle.conley_tool.specs.Words.{number_of, are_arguments_of, reads_file}
use Rattle.conley_tool.specs.declared.words.Verb.{Verb}
use Rattle.conley_tool.specs.declared.words.Verb.TheVariants.{Classes, Field, Morse, Sets, Analyze, Check, Trial}

-- the first of the numbers from this one to 60 of which the word is the text
unfoldable pub found_from : List ℕ → ℕ → Option ℕ
found_from word n = find (λ k. bytes_eq word (decimal k)) (range_with_len n (61 - n))

pub number_of-from : (word : List ℕ) → number_of word ≡ found_from word 1
unfolding number_of found_from
number_of-from word = refl

first_or_later : (test : ℕ → Bool) (n m : ℕ) → find test (range_with_len n (suc m)) ≡ find test (n ∷ range_with_len (n + 1) m)
first_or_later test n m = refl

here : (test : ℕ → Bool) (x : ℕ) (xs : List ℕ) → test x ≡ true → find test (x ∷ xs) ≡ Some x
here test x xs e = rw e refl

later : (test : ℕ → Bool) (x : ℕ) (xs : List ℕ) → test x ≡ false → find test (x ∷ xs) ≡ find test xs
later test x xs e = rw e refl

rest : (n : ℕ) → n < 61 → 61 - n ≡ suc (61 - (n + 1))
rest n lt = omega (arith, lt)

pub found_here : (word : List ℕ) (n : ℕ) → n < 61 → bytes_eq word (decimal n) ≡ true → found_from word n ≡ Some n
unfolding found_from
found_here word n lt e =
    let test : ℕ → Bool = λ k. bytes_eq word (decimal k) in
    ap (λ m. find test (range_with_len n m)) (rest n lt) ∙ first_or_later test n (61 - (n + 1)) ∙ here test n (range_with_len (n + 1) (61 - (n + 1))) e

pub found_later : (word : List ℕ) (n : ℕ) → n < 61 → bytes_eq word (decimal n) ≡ false → found_from word n ≡ found_from word (n + 1)
unfolding found_from
found_later word n lt e =
    let test : ℕ → Bool = λ k. bytes_eq word (decimal k) in
    ap (λ m. find test (range_with_len n m)) (rest n lt) ∙ first_or_later test n (61 - (n + 1)) ∙ later test n (range_with_len (n + 1) (61 - (n + 1))) e

pub found_none : (word : List ℕ) (n : ℕ) → 61 ≤ n → found_from word n ≡ None
unfolding found_from
found_none word n le = ap (λ m. find (λ k. bytes_eq word (decimal k)) (range_with_len n m)) (none n le)
  where
    none : (n : ℕ) → 61 ≤ n → 61 - n ≡ 0
    none n le = omega (arith, le)

-- where the argument of a verb names no file, it is the text of a number
pub says_number : (verb : Verb) (arguments : List (List ℕ)) → are_arguments_of verb arguments ≡ true → reads_file verb ≡ false
    → is_some (number_of (get_or arguments 0 [])) ≡ true
says_number Classes arguments e f = absurd (false≢true (sym f))
says_number Field arguments e f = absurd (false≢true (sym f))
says_number Morse arguments e f = absurd (false≢true (sym f))
says_number Sets arguments e f = absurd (false≢true (sym f))
says_number Analyze arguments e f = absurd (false≢true (sym f))
says_number Check arguments e f = absurd (false≢true (sym f))
says_number Trial arguments e f = e
