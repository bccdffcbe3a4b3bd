-- One bit set in a row of words, and one mark more in a prefix
use Rattle.std.proofs.Common.{◌≡◌, ◌≢◌, inl, inr, ◌+◌, ◌*◌, ◌/◌, ◌%◌, ◌^◌, ◌<◌, ℕ, Bool, true, false, List, [], ◌∷◌, ◌++◌, length, get_or, take, sym, ap, ◌∙◌, arith, get_or-set_other, get_or-set_same, w64}
use Rattle.std.specs.Prelude.{◌↔◌, bit_or}
use Rattle.std.specs.Int.{bit_at}
use Rattle.std.proofs.Math.ListN.{set}
use Rattle.std.proofs.Math.Seq.{get_or-append_seam}
use Rattle.std.proofs.lemmas.Nat.Bits.{bit_at_set_same, bit_at_set_other}
use Rattle.std.proofs.lemmas.Nat.{mod_below}
use Rattle.std.proofs.lemmas.Bool.{cases_eq, cases_lt, false≢true}
use Rattle.std.proofs.lemmas.List.{take_more, get_or_append_left, get_or_past, length-take-le}
use Rattle.conley_lists.specs.Lists.{IsMarked}
use Rattle.conley_order.specs.ClassRows.{word_bit}

abbrev pub with_bit : List ℕ → ℕ → List ℕ
with_bit words b = set words (b / 64) (bit_or (get_or words (b / 64) 0) (1 * 2 ^ (b % 64) % 2 ^ 64))

pub bit_set : (words : List ℕ) (b : ℕ) → b / 64 < length words → word_bit (with_bit words b) b ≡ 1
bit_set words b lt =
    ap (λ n. bit_at n (b % 64)) (get_or-set_same words (b / 64) (bit_or (get_or words (b / 64) 0) (1 * 2 ^ (b % 64) % 2 ^ 64)) 0 lt)
    ∙ bit_at_set_same w64 (get_or words (b / 64) 0) (b % 64) (mod_below b 64 (omega arith))

pub bit_kept : (words : List ℕ) (b k : ℕ) → b / 64 < length words → k ≢ b → word_bit (with_bit words b) k ≡ word_bit words k
bit_kept words b k lt ne = elim (cases_eq (k / 64) (b / 64)) [
  | inl e ↦
      let other : k % 64 ≢ b % 64 = λ f. ne (omega arith) in
      let at : get_or (with_bit words b) (k / 64) 0 ≡ bit_or (get_or words (b / 64) 0) (1 * 2 ^ (b % 64) % 2 ^ 64) =
      ap (λ i. get_or (with_bit words b) i 0) e ∙ get_or-set_same words (b / 64) (bit_or (get_or words (b / 64) 0) (1 * 2 ^ (b % 64) % 2 ^ 64)) 0 lt in
      ap (λ n. bit_at n (k % 64)) at
      ∙ bit_at_set_other w64 (get_or words (b / 64) 0) (b % 64) (mod_below b 64 (omega arith)) (k % 64) other
      ∙ ap (λ i. bit_at (get_or words i 0) (k % 64)) (sym e)
  | inr far ↦ ap (λ n. bit_at n (k % 64)) (get_or-set_other words (b / 64) (k / 64) (bit_or (get_or words (b / 64) 0) (1 * 2 ^ (b % 64) % 2 ^ 64)) 0 far)
]

-- the mark at b in the prefix to b + 1, and the others, which are those of the prefix to b
pub mark_at : (marks : List Bool) (b : ℕ) → b < length marks → get_or (take (b + 1) marks) b false ≡ get_or marks b false
mark_at marks b lt =
    let prefix : length (take b marks) ≡ b = length-take-le b marks (omega arith) in
    ap (λ (q : List Bool). get_or q b false) (take_more marks b false lt)
    ∙ ap (λ i. get_or (take b marks ++ get_or marks b false ∷ []) i false) (sym prefix)
    ∙ get_or-append_seam (take b marks) (get_or marks b false) [] false

pub mark_kept : (marks : List Bool) (b k : ℕ) → b < length marks → k ≢ b → get_or (take (b + 1) marks) k false ≡ get_or (take b marks) k false
mark_kept marks b k lt ne =
    let prefix : length (take b marks) ≡ b = length-take-le b marks (omega arith) in
    let prefix' : length (take (b + 1) marks) ≡ b + 1 = length-take-le (b + 1) marks (omega arith) in
    elim (cases_lt k b) [
      | inl small ↦ ap (λ (q : List Bool). get_or q k false) (take_more marks b false lt) ∙ get_or_append_left (take b marks) (get_or marks b false ∷ []) false
          k (omega arith)
      | inr large ↦ get_or_past (take (b + 1) marks) k false (omega arith) ∙ sym (get_or_past (take b marks) k false (omega arith))
    ]

pub bits_marked : (words : List ℕ) (marks : List Bool) (b : ℕ) → b / 64 < length words → b < length marks → get_or marks b false ≡ true →
    ((k : ℕ) → (word_bit words k ≡ 1) ↔ IsMarked (take b marks) k) → (k : ℕ) → (word_bit (with_bit words b) k ≡ 1) ↔ IsMarked (take (b + 1) marks) k
bits_marked words marks b in_words lt marked so_far k = elim (cases_eq k b) [
  | inl e ↦ rw e ((λ _. mark_at marks b lt ∙ marked), (λ _. bit_set words b in_words))
  | inr ne ↦ rw (bit_kept words b k in_words ne, mark_kept marks b k lt ne) (so_far k)
]

pub bits_unmarked : (words : List ℕ) (marks : List Bool) (b : ℕ) → b < length marks → get_or marks b false ≡ false →
    ((k : ℕ) → (word_bit words k ≡ 1) ↔ IsMarked (take b marks) k) → (k : ℕ) → (word_bit words k ≡ 1) ↔ IsMarked (take (b + 1) marks) k
bits_unmarked words marks b lt unmarked so_far k = elim (cases_eq k b) [
  | inl e ↦ rw (e, mark_at marks b lt, unmarked) (
    (λ one. absurd (false≢true (sym (get_or_past (take b marks) b false (omega (arith, length-take-le b marks))) ∙ (so_far b).0 one))),
    (λ m. absurd (false≢true m)),
  )
  | inr ne ↦ rw (mark_kept marks b k lt ne) (so_far k)
]
