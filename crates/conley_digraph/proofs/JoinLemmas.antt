-- The bits of a joined row, also those past its words
use Rattle.std.proofs.Common.{◌≡◌, ◌⊎◌, inl, inr, ◌*◌, ◌≤◌, ◌/◌, ◌%◌, ℕ, List, length, ap, ◌∙◌, arith}
use Rattle.std.specs.Prelude.{◌↔◌}
use Rattle.std.specs.Int.{bit_at}
use Rattle.std.proofs.lemmas.Nat.Bits.{bit_at-zero}
use Rattle.std.proofs.lemmas.Bool.{cases_lt}
use Rattle.std.proofs.lemmas.List.{get_or_past}
use Rattle.conley_order.specs.ClassRows.{word_bit}
use Rattle.conley_order.specs.LowerRows.{JoinsRow}

-- past the last word no bit is set
none_past : {P : Type 0} (row : List ℕ) (b : ℕ) → length row ≤ b / 64 → word_bit row b ≡ 1 → P
none_past row b past one = absurd (let none : word_bit row b ≡ 0 = ap (λ w. bit_at w (b % 64)) (get_or_past row (b / 64) 0 past) ∙ bit_at-zero (b % 64) in
    omega (arith, none, one))

pub bits_joined : (old other new : List ℕ) → length other ≡ length old → JoinsRow old new other → (b : ℕ) → (word_bit new b ≡ 1)
    ↔ ((word_bit old b ≡ 1) ⊎ (word_bit other b ≡ 1))
bits_joined old other new count joins b = elim (cases_lt b (64 * length old)) [
  | inl lt ↦ joins.bits b lt
  | inr past ↦
      let most : length old ≤ b / 64 = omega (arith, past) in (
        (λ e. none_past new b (omega (arith, most, joins.count)) e),
        (λ h. elim h [ inl e ↦ none_past old b most e | inr e ↦ none_past other b (omega (arith, most, count)) e ]),
      )
]
